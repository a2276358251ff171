use Rattle.cow_fork.proofs.Words.{◌+◌, ◌≤◌, is_some, refl, sym, ap, ◌∙◌, subst, arith, some_same, Node, tree_of}
use Rattle.cow_split.proofs.CostLaws.{parent-there}
use Rattle.cow_split.proofs.ZeroRowLaws.{bare-above, bare-past}
use Rattle.cow_jump.proofs.JumpLaws.{window-fits}
use Rattle.cow_fork.proofs.HolderLaws.{held-shown}
use Rattle.cow_fork.proofs.sweeping.hides_frame.Goals as goal

pub returns-then-node-page : goal.returns-then-node-page
returns-then-node-page c = λ node at.
    let same = some_same (sym c.node-node.ensures ∙ at) in
    sym (ap is_some (bare-past (tree_of c.args.arena.now c.args.lists.now) c.requires.forest c.args.at.0 c.args.page node at
    (subst (λ (n : Node). n.seen ≤ c.args.page) same c.if-node-page.true)))

pub node-above-requires : goal.node-above-requires
node-above-requires c = parent-there _ _ c.requires.forest _ _ _ c.node-node.ensures c.in-Some.is

pub overflow_add-node : goal.overflow_add-node
overflow_add-node c =
    let above = window-fits (tree_of c.args.arena.now c.args.lists.now) c.requires.forest c.args.at.0 c.in-Some.parent c.node-node.result
    c.node-above.result c.node-node.ensures c.in-Some.is c.node-above.ensures in
    omega (arith, above, c.if-node-page.false)

pub returns : goal.returns
returns c = λ node at.
    let t = tree_of c.args.arena.now c.args.lists.now in
    c.has_frame.ensures ∙ ap is_some
    (held-shown t c.in-Some.parent.0 (c.node-node.result.first + c.args.page) _ c.holder_by_jumps.ensures
    ∙ sym (bare-above t c.requires.forest c.args.at.0 c.args.page node at c.in-Some.parent.0 (c.node-node.result.first + c.args.page) (record {
      node = c.node-node.result;
      at = c.node-node.ensures;
      inside = omega (arith, c.if-node-page.false);
      parent = c.in-Some.is;
      page = refl;
    })))
