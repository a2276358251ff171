use Rattle.std.proofs.Common.{◌∙◌, sym, ap, take, drop, length, true, false, List, ℕ, arith}
use Rattle.page_store.proofs.PartLaws.{part_of_zeros}
use Rattle.page_store.proofs.LookLaws.{zero_frame, held_frame}
use Rattle.source_vm.specs.Pages.{page_at}
use Rattle.source_vm.specs.Table.{backings_of, loose_links_of}
use Rattle.source_model.proofs.FillingLaws.{absent-held}
use Rattle.source_vm.proofs.FillingLaws.{text-held}
use Rattle.source_vm.proofs.EndLaws.{walked-from_end, absent-end, absent-unheld, zeros-end}
use Rattle.source_vm.proofs.page_bytes.read_shown.Goals as goal

pub returns-then-is_sourced-clause-absent : goal.returns-then-is_sourced-clause-absent
returns-then-is_sourced-clause-absent g c =
    let content = g.P.PageStore.content c.args.store.now in
    let bs = backings_of c.args.table.now in
    let ls = loose_links_of c.args.table.now in
    let end = c.find_end-end.result.place in
    let is = sym c.if-is_sourced.true ∙ (c.is_sourced.ensures ∙ sym (absent-unheld content bs end.koid.0 end.page (zero_frame _ (sym c.in_default.is ∙ c.find_end-end.ensures.found)))) in
    absent-end content bs ls c.args.place.koid.0 c.args.place.page (page_at end) true c.find_end-end.ensures.end is

pub returns-in_default-clause-absent : goal.returns-in_default-clause-absent
returns-in_default-clause-absent g c =
    let content = g.P.PageStore.content c.args.store.now in
    let bs = backings_of c.args.table.now in
    let ls = loose_links_of c.args.table.now in
    let end = c.find_end-end.result.place in
    let is = sym c.if-is_sourced.false ∙ (c.is_sourced.ensures ∙ sym (absent-unheld content bs end.koid.0 end.page (zero_frame _ (sym c.in_default.is ∙ c.find_end-end.ensures.found)))) in
    absent-end content bs ls c.args.place.koid.0 c.args.place.page (page_at end) false c.find_end-end.ensures.end is

pub returns-in_default-clause-read : goal.returns-in_default-clause-read
returns-in_default-clause-read g c = λ supplied.
    let content = g.P.PageStore.content c.args.store.now in
    let bs = backings_of c.args.table.now in
    let ls = loose_links_of c.args.table.now in
    let end = c.find_end-end.result.place in
    let free = zero_frame _ (sym c.in_default.is ∙ c.find_end-end.ensures.found) in
    let tight = absent-unheld content bs end.koid.0 end.page free ∙ (sym c.is_sourced.ensures ∙ c.if-is_sourced.false) in
    let text = sym (zeros-end content bs end.koid.0 end.page free tight)
    ∙ walked-from_end content bs ls c.args.place.koid.0 c.args.place.page (page_at end) c.find_end-end.ensures.end in
    c.fill.ensures.after (λ y e. e) ∙ (sym (part_of_zeros c.args.at (length c.args.out.now) c.requires.range)
    ∙ ap (λ (xs : List ℕ). take (length c.args.out.now) (drop c.args.at xs)) text)

pub returns-clause-absent : goal.returns-clause-absent
returns-clause-absent g c =
    let content = g.P.PageStore.content c.args.store.now in
    let bs = backings_of c.args.table.now in
    let ls = loose_links_of c.args.table.now in
    let end = c.find_end-end.result.place in
    let held = held_frame _ _ (sym c.in-Some.is ∙ c.find_end-end.ensures.found) in
    absent-end content bs ls c.args.place.koid.0 c.args.place.page (page_at end) false c.find_end-end.ensures.end
    (sym (absent-held content (bs end.koid.0) end.koid.0 end.page held.0 held.1))

pub returns-clause-read : goal.returns-clause-read
returns-clause-read g c = λ supplied.
    let content = g.P.PageStore.content c.args.store.now in
    let bs = backings_of c.args.table.now in
    let ls = loose_links_of c.args.table.now in
    let end = c.find_end-end.result.place in
    let held = held_frame _ _ (sym c.in-Some.is ∙ c.find_end-end.ensures.found) in
    let text = sym (text-held content bs end.koid.0 end.page held.0 held.1)
    ∙ walked-from_end content bs ls c.args.place.koid.0 c.args.place.page (page_at end) c.find_end-end.ensures.end in
    c.read.ensures end.koid.0 end.page held.0 (record { page = held.1; tag = held.2 })
    ∙ (ap (λ (n : ℕ). take n (drop c.args.at held.0.bytes)) (omega arith)
    ∙ ap (λ (xs : List ℕ). take (length c.args.out.now) (drop c.args.at xs)) text)
