-- What the parent holds is spared, and the others come to no row of it.
use Rattle.cow_merge.proofs.Words.{◌≡◌, ◌+◌, ◌≤◌, Some, sym, ap, subst, ◌∙◌, arith, some_same, slots_of, Node}
use Rattle.cow_merge.proofs.PassingLaws.{passing-above, above-there, above-fits, above-parent, above-visible, above-list}
use Rattle.cow_merge.proofs.JumpingLaws.{jumps-left}
use Rattle.cow_merge.proofs.ranges.leave_out_above.Goals as goal
use Rattle.cow_merge.proofs.RangeLaws.{lost-then}

pub drop_rows-requires-clause-leaf : goal.drop_rows-requires-clause-leaf
drop_rows-requires-clause-leaf c = above-visible c.args.arena.now c.args.family.leaf.0 c.args.family.hidden c.requires.leaf

pub node-above-requires : goal.node-above-requires
node-above-requires c = above-there c.args.arena.now c.args.family.leaf.0 c.args.family.hidden c.requires.exact.forest c.node-node.result c.requires.leaf c.node-node.ensures

pub overflow_add-to : goal.overflow_add-to
overflow_add-to c =
    let fits = above-fits c.args.arena.now c.args.family.leaf.0 c.args.family.hidden c.requires.exact.forest c.node-node.result c.node-above.result c.requires.leaf c.node-node.ensures
    c.node-above.ensures in
    omega arith

pub leave_out_further-requires-clause-passing : goal.leave_out_further-requires-clause-passing
leave_out_further-requires-clause-passing c = λ above at. record {
  spared = Some c.args.family.hidden;
  passing = (passing-above c.drop_rows.ensures.bare c.node-node.ensures
      (above-parent c.args.arena.now c.args.family.leaf.0 c.args.family.hidden c.node-node.result c.requires.leaf c.node-node.ensures) at);
}

pub leave_out_further-requires-clause-base : goal.leave_out_further-requires-clause-base
leave_out_further-requires-clause-base c = λ node at. ap (λ (n : Node). n.first) (some_same (sym c.node-node.ensures ∙ at))

pub leave_out_further-requires-clause-end : goal.leave_out_further-requires-clause-end
leave_out_further-requires-clause-end c = λ node at.
    subst (λ (n : Node). c.node-node.result.first + c.node-node.result.seen ≤ c.node-node.result.first + n.seen) (some_same (sym c.node-node.ensures ∙ at)) (omega arith)

pub returns : goal.returns
returns c = record {
  sparing =
      c.leave_out_further.ensures.sparing (Some c.args.family.hidden) c.node-above.result c.node-above.ensures (passing-above c.drop_rows.ensures.bare c.node-node.ensures
      (above-parent c.args.arena.now c.args.family.leaf.0 c.args.family.hidden c.node-node.result c.requires.leaf c.node-node.ensures) c.node-above.ensures);
  kept = λ above at.
      let same : c.node-above.result ≡ above = some_same (sym c.node-above.ensures ∙ at) in
      c.leave_out_further.ensures.kept above at
      ∙ subst (λ (n : Node). slots_of c.drop_rows.new.lists n.list.0 ≡ slots_of c.args.lists.now n.list.0) same
      (c.drop_rows.ensures.others c.node-node.result c.node-node.ensures c.node-above.result.list.0
      (above-list c.args.arena.now c.args.family.leaf.0 c.args.family.hidden c.requires.exact.forest c.node-node.result c.node-above.result c.requires.leaf c.node-node.ensures
      c.node-above.ensures));
  lost = lost-then c.drop_rows.ensures.lost c.leave_out_further.ensures.lost;
}

pub leave_out_further-requires-clause-jumps : goal.leave_out_further-requires-clause-jumps
leave_out_further-requires-clause-jumps c =
    jumps-left c.drop_rows.ensures.bare.has c.drop_rows.ensures.lost _ c.requires.jumps
