use Rattle.source_vm.specs.Table.{source_names_of, owners_of, backings_of, loose_links_of, children_of, source_state_of}
use Rattle.source_vm.proofs.ClosingLaws.{IsLeaving-start, IsLeaving-next, Leaves-last, Leaves-kept, IsUnkept-indexed, LeavesOne-from, parent_of, no_parent}
use Rattle.source_vm.proofs.closing.leave_upwards.Goals as goal

pub loop-top-init : goal.loop-top-init
loop-top-init g c = record {
  leaving = IsLeaving-start _ _ c.requires.unnamed;
  indexed = c.requires.indexed;
}

pub returns-in_default-clause-leaves : goal.returns-in_default-clause-leaves
returns-in_default-clause-leaves g c =
    let t = c.loop-top.table in
    let content = g.P.PageStore.content c.loop-top.store in
    let top = c.loop-top.top.0 in
    let inv = c.loop-top.invariant in
    let tests = c.is_kept.ensures.not_kept c.loop-top-test.true in
    let unkept = IsUnkept-indexed (source_state_of content t) (owners_of t) (children_of t) top inv.indexed tests.0 tests.1 in
    Leaves-last _ (source_state_of content t) _ top inv.leaving unkept
    (LeavesOne-from content _ (source_names_of t) _ (backings_of t) _ (loose_links_of t) _ top unkept c.drop_vmo.ensures c.leave.ensures.names c.leave.ensures.backings c.leave.ensures.links)
    (no_parent (loose_links_of t top) c.in_default.ensures.parent)

pub loop-top-preserved : goal.loop-top-preserved
loop-top-preserved g c =
    let t = c.loop-top.table in
    let content = g.P.PageStore.content c.loop-top.store in
    let top = c.loop-top.top.0 in
    let inv = c.loop-top.invariant in
    let tests = c.is_kept.ensures.not_kept c.loop-top-test.true in
    let unkept = IsUnkept-indexed (source_state_of content t) (owners_of t) (children_of t) top inv.indexed tests.0 tests.1 in
    let link = parent_of (loose_links_of t top) c.in-Some.parent c.in-Some.ensures.parent in
    record {
      leaving = IsLeaving-next _ (source_state_of content t) _ top inv.leaving unkept
          (LeavesOne-from content _ (source_names_of t) _ (backings_of t) _ (loose_links_of t) _ top unkept c.drop_vmo.ensures c.leave.ensures.names c.leave.ensures.backings c.leave.ensures.links)
          c.in-Some.parent.0 link.0 link.1 link.2;
      indexed = c.leave.ensures.indexed;
    }

pub returns-clause-leaves : goal.returns-clause-leaves
returns-clause-leaves g c =
    let t = c.loop-top.table in
    let inv = c.loop-top.invariant in
    Leaves-kept _ (source_state_of (g.P.PageStore.content c.loop-top.store) t) (owners_of t) (children_of t) c.loop-top.top.0 inv.leaving inv.indexed
    (c.is_kept.ensures.kept c.loop-top-test.false)
