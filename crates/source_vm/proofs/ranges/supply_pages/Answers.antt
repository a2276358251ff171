use Rattle.std.proofs.Common.{◌∙◌, ◌≤◌, ◌+◌, length, List, ℕ, sym, ap, subst}
use Rattle.std.proofs.lemmas.Result.{on_ok_weaker, IfErr-weaker}
use Rattle.vm_model.specs.Contents.Content.{used}
use Rattle.source_vm.specs.Pages.{LacksFrames, is_end_absent}
use Rattle.source_vm.specs.Table.{backings_of, loose_links_of}
use Rattle.source_vm.proofs.AbsentLaws.{absent-behind, filter_front, IsSupplied-front}
use Rattle.source_vm.proofs.EndLaws.{end_absent-unlinked, absent_ends-unlinked}
use Rattle.source_vm.proofs.ranges.supply_pages.Goals as goal

pub supply_counted-requires-clause-need : goal.supply_counted-requires-clause-need
supply_counted-requires-clause-need g c =
    let t = c.args.table.now in
    let content = g.P.PageStore.content c.args.store.now in
    let bs = backings_of t in
    let ls = loose_links_of t in
    let unlinked = c.requires.readable.either c.args.pages.koid.0 c.args.backing.now c.requires.backed in
    c.count_absent-need.ensures ∙ ap (λ (ps : List ℕ). length ps)
    (sym (absent_ends-unlinked content bs ls c.args.pages.koid.0 c.args.backing.now c.requires.backed unlinked c.args.pages.first c.seen_end-last.result))

pub returns-clause-ok : goal.returns-clause-ok
returns-clause-ok g c =
    let t = c.args.table.now in
    let content = g.P.PageStore.content c.args.store.now in
    let bs = backings_of t in
    let ls = loose_links_of t in
    let last = c.seen_end-last.ensures in
    let unlinked = c.requires.readable.either c.args.pages.koid.0 c.args.backing.now c.requires.backed in
    on_ok_weaker c.supply_counted.result (IsSupplied-front bs ls c.args.pages.koid.0 _ _ c.args.pages.first c.seen_end-last.result c.args.pages.end last.first last.end
    (λ d p low less. end_absent-unlinked d bs ls c.args.pages.koid.0 c.args.backing.now c.requires.backed unlinked p ∙ absent-behind d c.args.backing.now c.args.pages.koid.0 p (last.behind p low less)))
    c.supply_counted.ensures.ok

pub returns-clause-free : goal.returns-clause-free
returns-clause-free g c =
    let t = c.args.table.now in
    let content = g.P.PageStore.content c.args.store.now in
    let bs = backings_of t in
    let ls = loose_links_of t in
    let last = c.seen_end-last.ensures in
    let unlinked = c.requires.readable.either c.args.pages.koid.0 c.args.backing.now c.requires.backed in
    let front = filter_front (is_end_absent bs ls content c.args.pages.koid.0) c.args.pages.first c.seen_end-last.result c.args.pages.end last.first last.end
    (λ p low less. end_absent-unlinked content bs ls c.args.pages.koid.0 c.args.backing.now c.requires.backed unlinked p ∙ absent-behind content c.args.backing.now c.args.pages.koid.0 p (last.behind p low less)) in
    let need = c.count_absent-need.ensures ∙ ap (λ (ps : List ℕ). length ps)
    (sym (absent_ends-unlinked content bs ls c.args.pages.koid.0 c.args.backing.now c.requires.backed unlinked c.args.pages.first c.seen_end-last.result) ∙ front) in
    on_ok_weaker c.supply_counted.result (subst (λ (n : ℕ). used content + n ≤ content.frames) need) c.supply_counted.ensures.free

pub returns-clause-err : goal.returns-clause-err
returns-clause-err g c =
    let t = c.args.table.now in
    let content = g.P.PageStore.content c.args.store.now in
    let bs = backings_of t in
    let ls = loose_links_of t in
    let last = c.seen_end-last.ensures in
    let unlinked = c.requires.readable.either c.args.pages.koid.0 c.args.backing.now c.requires.backed in
    let front = filter_front (is_end_absent bs ls content c.args.pages.koid.0) c.args.pages.first c.seen_end-last.result c.args.pages.end last.first last.end
    (λ p low less. end_absent-unlinked content bs ls c.args.pages.koid.0 c.args.backing.now c.requires.backed unlinked p ∙ absent-behind content c.args.backing.now c.args.pages.koid.0 p (last.behind p low less)) in
    let need = c.count_absent-need.ensures ∙ ap (λ (ps : List ℕ). length ps)
    (sym (absent_ends-unlinked content bs ls c.args.pages.koid.0 c.args.backing.now c.requires.backed unlinked c.args.pages.first c.seen_end-last.result) ∙ front) in
    IfErr-weaker c.supply_counted.result _ _ (λ refusal. subst (λ (n : ℕ). LacksFrames content n refusal) need) c.supply_counted.ensures.err
