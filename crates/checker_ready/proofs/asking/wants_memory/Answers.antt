use Rattle.std.proofs.Common.{ℕ, ◌+◌, [], ◌∷◌, sym, ◌∙◌, arith}
use Rattle.checker_ready.specs.Notes.{rows_of, ready_in}
use Rattle.checker_ready.specs.inside.Pages.{is_unready}
use Rattle.checker_ready.proofs.AskLaws.{any_none, any_one, any_first, any_rest, touches_one, touches_two}
use Rattle.checker_ready.proofs.asking.wants_memory.Goals as goal

pub returns-then-len-eq0 : goal.returns-then-len-eq0
returns-then-len-eq0 c =
    any_none (λ (p : ℕ). is_unready c.args.wanted (ready_in (rows_of c.args.ready.now) c.args.region.0 p)) c.args.addr c.args.len c.if-len-eq0.true

pub returns-then-in_page-len-le-PAGE : goal.returns-then-in_page-len-le-PAGE
returns-then-in_page-len-le-PAGE c =
    let one = touches_one c.args.addr c.args.len c.page_of-page.result c.page_of-page.ensures (omega (arith, c.if-len-eq0.false)) (omega (arith, c.if-in_page-len-le-PAGE.true, c.in_page.ensures)) in
    rw one (c.is_unready.ensures ∙ any_one (λ (p : ℕ). is_unready c.args.wanted (ready_in (rows_of c.args.ready.now) c.args.region.0 p)) c.page_of-page.result)

pub returns-then-is_unready : goal.returns-then-is_unready
returns-then-is_unready c =
    let two = touches_two c.args.addr c.args.len c.page_of-page.result c.page_of-page.ensures (omega (arith, c.if-in_page-len-le-PAGE.false, c.in_page.ensures)) c.requires in
    rw two (any_first (λ (p : ℕ). is_unready c.args.wanted (ready_in (rows_of c.args.ready.now) c.args.region.0 p)) c.page_of-page.result ((c.page_of-page.result + 1) ∷ []) (sym c.is_unready-2.ensures ∙ c.if-is_unready.true))

pub returns : goal.returns
returns c =
    let two = touches_two c.args.addr c.args.len c.page_of-page.result c.page_of-page.ensures (omega (arith, c.if-in_page-len-le-PAGE.false, c.in_page.ensures)) c.requires in
    rw two (c.is_unready-3.ensures ∙ any_one (λ (p : ℕ). is_unready c.args.wanted (ready_in (rows_of c.args.ready.now) c.args.region.0 p)) (c.page_of-page.result + 1)
    ∙ any_rest (λ (p : ℕ). is_unready c.args.wanted (ready_in (rows_of c.args.ready.now) c.args.region.0 p)) c.page_of-page.result ((c.page_of-page.result + 1) ∷ []) (sym c.is_unready-2.ensures ∙ c.if-is_unready.false))
