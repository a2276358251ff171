use Rattle.cow_forest.proofs.Words.{ap, sym, ◌∙◌, arith, is_some, forest_of, tree, nodes_of}
use Rattle.cow_forest.proofs.LeavingLaws.{one-of, store-left, content-left}
use Rattle.cow_jump.proofs.JumpRowLaws.{jumps-retired}
use Rattle.cow_forest.proofs.JumpKeptLaws.{jumps-closed}
use Rattle.cow_forest.proofs.FounderLaws.{founders-stay}
use Rattle.cow_forest.proofs.forest.CowForestPageStore.drop_vmo.Goals as goal

pub disown-merged-requires-clause-leaf : goal.disown-merged-requires-clause-leaf
disown-merged-requires-clause-leaf c =
    let h = c.self.invariant.store.named c.args.v.0 c.get-node.result c.get-node.ensures in
    ap is_some h.is.at

pub close_by_jumps-requires-clause-leaf : goal.close_by_jumps-requires-clause-leaf
close_by_jumps-requires-clause-leaf c =
    let h = c.self.invariant.store.named c.args.v.0 c.get-node.result c.get-node.ensures in
    rw h.is.at (ap is_some h.is.has_koid)

pub leave_other-requires : goal.leave_other-requires
leave_other-requires c =
    let s = c.self.invariant.store in
    one-of (forest_of c.self.inside) c.close_by_jumps.new.arena c.close_by_jumps.new.lists _ c.get-node.result.0 c.disown-merged.result s.exact.forest c.close_by_jumps.ensures.gone
    (record { family = c.disown-merged.ensures.family; root = c.disown-merged.ensures.root })

pub invariant_of-self : goal.invariant_of-self
invariant_of-self c =
    let s = c.self.invariant.store in
    let h = s.named c.args.v.0 c.get-node.result c.get-node.ensures in
    record {
      store = store-left (forest_of c.self.inside) _ _ _ _ _ _ c.args.v.0 c.get-node.result.0 s h c.close_by_jumps.ensures.gone
          c.close_by_jumps.ensures.kept c.close_by_jumps.ensures.visible c.disown-merged.result
          (record { family = c.disown-merged.ensures.family; root = c.disown-merged.ensures.root }) c.disown-merged.ensures.disowned c.leave_other.ensures
          c.leave.ensures;
      jumps = c.renew_merged.ensures c.self.inside.next
          (jumps-closed (tree (forest_of c.self.inside)) _ c.self.inside.next c.get-node.result.0 c.self.inside.jumps c.retire_pair.new.jumps c.self.invariant.jumps
          c.retire_pair.ensures c.close_by_jumps.ensures.gone);
      founders = founders-stay (nodes_of c.self.inside.arena) (nodes_of c.close_by_jumps.new.arena) c.self.inside.next c.self.inside.next (omega arith)
          c.close_by_jumps.ensures.gone.parents
          (λ k now at hidden. let was = c.close_by_jumps.ensures.gone.came k now at in (was.node, was.at, sym was.koid ∙ hidden))
          c.self.inside.founders c.self.invariant.founders;
    }

pub returns-clause-content : goal.returns-clause-content
returns-clause-content c =
    let s = c.self.invariant.store in
    let h = s.named c.args.v.0 c.get-node.result c.get-node.ensures in
    rw (← c.self.view_is)
    (content-left (forest_of c.self.inside) _ _ _ _ _ _ c.args.v.0 c.get-node.result.0 s h c.close_by_jumps.ensures.gone
    c.close_by_jumps.ensures.kept c.close_by_jumps.ensures.visible c.disown-merged.result
    (record { family = c.disown-merged.ensures.family; root = c.disown-merged.ensures.root }) c.disown-merged.ensures.disowned c.leave_other.ensures
    c.leave.ensures)

pub close_by_jumps-requires-clause-jumps : goal.close_by_jumps-requires-clause-jumps
close_by_jumps-requires-clause-jumps c = (
  c.self.inside.next,
  jumps-retired (tree (forest_of c.self.inside)) c.self.inside.next c.get-node.result.0 c.self.inside.jumps c.retire_pair.new.jumps c.self.invariant.jumps
      c.retire_pair.ensures,
)

pub renew_merged-requires : goal.renew_merged-requires
renew_merged-requires c = record {
  forest = c.close_by_jumps.ensures.kept.exact.forest;
  merged =
      let s = c.self.invariant.store in
      one-of (forest_of c.self.inside) c.close_by_jumps.new.arena c.close_by_jumps.new.lists _ c.get-node.result.0 c.disown-merged.result s.exact.forest c.close_by_jumps.ensures.gone
      (record { family = c.disown-merged.ensures.family; root = c.disown-merged.ensures.root });
  jumps = (
    c.self.inside.next,
    jumps-closed (tree (forest_of c.self.inside)) _ c.self.inside.next c.get-node.result.0 c.self.inside.jumps c.retire_pair.new.jumps c.self.invariant.jumps
        c.retire_pair.ensures c.close_by_jumps.ensures.gone,
  );
}
