use Rattle.std.proofs.Common.{◌∙◌, sym}
use Rattle.source_vm.specs.Table.{source_state_of}
use Rattle.source_vm.proofs.StepLaws.{out_of_range}
use Rattle.source_vm.proofs.RowLaws.{whole_past, whole_loose}
use Rattle.source_vm.proofs.AccessLaws.{unlinked_of, linked_of}
use Rattle.source_vm.proofs.accesses.whole_pages.Goals as goal

pub is_in_range-requires-clause-vmo : goal.is_in_range-requires-clause-vmo
is_in_range-requires-clause-vmo g c = c.requires.agrees.good.known c.args.range.name.0 c.in-Some.v.0 c.in-Some.ensures

pub returns-in_default-find-clause-err : goal.returns-in_default-find-clause-err
returns-in_default-find-clause-err g c =
    let t = c.args.table.now in
    let content = g.P.PageStore.content c.args.store.now in
    let s = source_state_of content t in
    let good = c.requires.agrees.good in
    let linked = linked_of s c.in-Some.v.0 good (good.known c.args.range.name.0 c.in-Some.v.0 c.in-Some.ensures) (sym c.find-2.ensures ∙ c.in_default-find.is) in
    whole_loose s c.args.range.name c.in-Some.v.0 c.in-Some.ensures c.args.range.offset c.args.range.len linked.0 (sym c.are_aligned.ensures ∙ c.if-not-are_aligned.false) linked.1

pub returns-then-not-is_in_range-clause-err : goal.returns-then-not-is_in_range-clause-err
returns-then-not-is_in_range-clause-err g c =
    let t = c.args.table.now in
    let content = g.P.PageStore.content c.args.store.now in
    let s = source_state_of content t in
    let good = c.requires.agrees.good in
    let unlinked = unlinked_of s c.in-Some.v.0 c.in-Some-find.backing good (good.known c.args.range.name.0 c.in-Some.v.0 c.in-Some.ensures) (sym c.find-2.ensures ∙ c.in-Some-find.is) in
    whole_past s c.args.range.name c.in-Some.v.0 c.in-Some.ensures c.args.range.offset c.args.range.len
    (sym c.are_aligned.ensures ∙ c.if-not-are_aligned.false) unlinked (out_of_range c.is_in_range.result _ _ c.is_in_range.ensures c.if-not-is_in_range.true)

pub returns-clause-ok : goal.returns-clause-ok
returns-clause-ok g c =
    let t = c.args.table.now in
    let content = g.P.PageStore.content c.args.store.now in
    let s = source_state_of content t in
    let good = c.requires.agrees.good in
    let backed = sym c.find-2.ensures ∙ c.in-Some-find.is in
    record {
      named = c.in-Some.ensures;
      backed = backed;
      unlinked = unlinked_of s c.in-Some.v.0 c.in-Some-find.backing good (good.known c.args.range.name.0 c.in-Some.v.0 c.in-Some.ensures) backed;
      aligned = sym c.are_aligned.ensures ∙ c.if-not-are_aligned.false;
      inside = c.is_in_range.ensures.0 c.if-not-is_in_range.false;
    }
