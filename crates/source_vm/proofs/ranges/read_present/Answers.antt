use Rattle.std.proofs.Common.{◌≡◌, ◌∙◌, ◌-◌, sym, ap, length, List, ℕ, arith}
use Rattle.std.specs.List.{filter, range_with_len}
use Rattle.source_model.specs.Links.{page_below}
use Rattle.source_model.proofs.LinkLaws.{length-walked}
use Rattle.source_vm.specs.Pages.{is_end_absent}
use Rattle.source_vm.specs.Table.{backings_of, loose_links_of, source_state_of}
use Rattle.source_vm.proofs.ReadLaws.{read_start, read_step, read_end}
use Rattle.source_vm.proofs.SupplyLaws.{counted_true, counted_false}
use Rattle.source_vm.proofs.ranges.read_present.Goals.{then-is_absent, else-is_absent}
use Rattle.source_vm.proofs.ranges.read_present.Goals as goal

pub loop-page-init : goal.loop-page-init
loop-page-init g c =
    let test = is_end_absent (backings_of c.args.table.now) (loose_links_of c.args.table.now) (g.P.PageStore.content c.args.store.now) c.args.v.0 in
    let first = c.touched_pages-first.result.0 in
    let none : first - first ≡ 0 = omega arith in
    let counted : length (filter test (range_with_len first (first - first))) ≡ 0 = ap (λ (n : ℕ). length (filter test (range_with_len first n))) none in
    record {
      counted = sym counted;
      few = omega arith;
      order = omega arith;
      read = λ none. read_start _ _ _ _ _ c.touched_pages-first.ensures.first;
    }

pub loop-page-preserved : goal.loop-page-preserved
loop-page-preserved g c =
    let t = c.args.table.now in
    let content = g.P.PageStore.content c.args.store.now in
    let test = is_end_absent (backings_of t) (loose_links_of t) content c.args.v.0 in
    let part = c.part_in_page-part.ensures in
    let inv = c.loop-page.invariant in
    elim c.if-is_absent.branch [
      | then-is_absent w ↦ record {
        counted = w.absent-is ∙ counted_true test c.touched_pages-first.result.0 c.loop-page.page c.loop-page.absent inv.order inv.counted (sym c.read_shown-is_absent.ensures.absent ∙ w.if-is_absent.true);
        few = omega (arith, w.absent-is, inv.few, inv.order);
        order = omega (arith, inv.order);
        read = λ none. absurd (omega (arith, w.absent-is, none));
      }
      | else-is_absent w ↦ record {
        counted = w.absent-is ∙ counted_false test c.touched_pages-first.result.0 c.loop-page.page c.loop-page.absent inv.order inv.counted (sym c.read_shown-is_absent.ensures.absent ∙ w.if-is_absent.false);
        few = omega (arith, w.absent-is, inv.few, inv.order);
        order = omega (arith, inv.order);
        read = λ none. read_step _ _ _ (λ q. length-walked content (backings_of t) (page_below content (loose_links_of t)) c.args.v.0 q c.requires.readable.good)
            (omega arith) (omega (arith, c.touched_pages-first.ensures.end)) part.at part.from
            part.until part.within c.loop-page.auto.out c.read_shown-is_absent.auto.out (c.read_shown-is_absent.ensures.read w.if-is_absent.false)
            (inv.read (omega (arith, none, w.absent-is)));
      }
    ]

pub returns-clause-absent : goal.returns-clause-absent
returns-clause-absent g c =
    let test = is_end_absent (backings_of c.args.table.now) (loose_links_of c.args.table.now) (g.P.PageStore.content c.args.store.now) c.args.v.0 in
    let first = c.touched_pages-first.result.0 in
    let size : c.loop-page.page - first ≡ c.touched_pages-first.result.1 - first = omega (arith, c.touched_pages-first.ensures.order) in
    c.loop-page.invariant.counted
    ∙ (ap (λ (n : ℕ). length (filter test (range_with_len first n))) size ∙ ap (λ (ps : List ℕ). length (filter test ps)) (sym c.touched_pages-first.ensures.pages))

pub returns-clause-read : goal.returns-clause-read
returns-clause-read g c = λ none.
    read_end (source_state_of (g.P.PageStore.content c.args.store.now) c.args.table.now) _ _ _ _ _ (omega arith) (omega (arith, c.touched_pages-first.ensures.all))
    (c.loop-page.invariant.read none)
