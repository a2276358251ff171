-- All pages are out of sight, so that the node goes, with its parent where it has one.
use Rattle.cow_merge.proofs.Words.{◌≡◌, ℕ, ◌+◌, None, Some, sym, ap, subst, ◌∙◌, arith, is_some, some_same, Node, tree_of, all_in_sight}
use Rattle.cow_merge.proofs.Words.{is_taken, slots_of, nodes_of, IsHeldBy}
use Rattle.cow_merge.proofs.RangeLaws.{visible-of, lost-then}
use Rattle.cow_merge.proofs.CloseLaws.{closed-root, closed-spliced, closed-over, root-of, root-ready, child-ready, family-of}
use Rattle.cow_merge.proofs.SeenLaws.{seen-start, seen-kept}
use Rattle.cow_merge.proofs.LiftedLaws.{lifting-start, lifting-end, lost-lifted}
use Rattle.cow_merge.proofs.closing.close_with.Goals as goal
use Rattle.cow_merge.proofs.closing.close_with.Goals.{in_default-via-in-Some+in_default, in_default-via-in_default}
use Rattle.cow_merge.proofs.HandLaws.{lost-handed}
use Rattle.cow_merge.proofs.JumpingLaws.{jumps-left}
use Rattle.cow_split.proofs.RowLaws.{only-none}

pub remove_root-requires : goal.remove_root-requires
remove_root-requires c =
    let visible = visible-of c.args.arena.now c.requires.leaf c.node.ensures in
    root-ready c.args.arena.now c.args.leaf.0 c.node.result visible (elim c.in_default.branch [
      | in_default-via-in-Some+in_default w ↦
          root-of c.node.result c.sibling.result (c.sibling.ensures.root c.node.result c.node.ensures) w.in_default.is-1
      | in_default-via-in_default w ↦ w.in_default.is-0
    ])

pub returns-in_default : goal.returns-in_default
returns-in_default c =
    let closed =
    let visible = visible-of c.args.arena.now c.requires.leaf c.node.ensures in
    closed-root c.args.arena.now c.remove_root.new.self c.args.lists.now c.leave_out.new.lists c.args.frames.now c.leave_out.new.frames c.args.leaf.0
    c.node.result visible (elim c.in_default.branch [
      | in_default-via-in-Some+in_default w ↦
          root-of c.node.result c.sibling.result (c.sibling.ensures.root c.node.result c.node.ensures) w.in_default.is-1
      | in_default-via-in_default w ↦ w.in_default.is-0
    ]) (c.leave_out.ensures.left c.node.result c.node.ensures) c.leave_out.ensures.lost c.remove_root.ensures.nodes c.remove_root.ensures.lists
    c.remove_root.ensures.forest in
    record {
      kept = closed.0;
      gone = closed.1;
      visible = c.remove_root.ensures.visible;
    }

pub leave_out_above-requires : goal.leave_out_above-requires
leave_out_above-requires c = record {
  leaf =
      child-ready c.args.arena.now c.args.leaf.0 c.node.result c.in-Some-Some.hidden (visible-of c.args.arena.now c.requires.leaf c.node.ensures) c.in-Some-Some.is-0;
  family =
      family-of c.args.arena.now c.requires.exact.forest (visible-of c.args.arena.now c.requires.leaf c.node.ensures) c.in-Some-Some.is-0 c.in-Some-Some.ensures.sibling;
  exact = (c.uncover.ensures.freed c.node.result c.node.ensures).exact;
  jumps =
      let freed = c.uncover.ensures.freed c.node.result c.node.ensures in
      jumps-left (record { out = all_in_sight; exact = freed.exact; only = only-none c.args.leaf.0; node = freed.node; visible = freed.visible }) c.uncover.ensures.lost _
      c.requires.jumps;
}

pub leave_out_above-requires-else-goes_over-clause-family : goal.leave_out_above-requires-else-goes_over-clause-family
leave_out_above-requires-else-goes_over-clause-family c =
    family-of c.args.arena.now c.requires.exact.forest (visible-of c.args.arena.now c.requires.leaf c.node.ensures) c.in-Some-Some.is-0 c.in-Some-Some.ensures.sibling

pub lift_rows-requires : goal.lift_rows-requires
lift_rows-requires c =
    let visible = visible-of c.args.arena.now c.requires.leaf c.node.ensures in
    lifting-start c.leave_out_above-else-goes_over.ensures.sparing (family-of c.args.arena.now c.requires.exact.forest visible c.in-Some-Some.is-0 c.in-Some-Some.ensures.sibling)

pub returns-else-goes_over : goal.returns-else-goes_over
returns-else-goes_over c =
    let closed =
    let of = c.lift_rows.ensures.lifting.of in
    let was = lost-lifted c.requires.exact.forest of c.leave_out_above-else-goes_over.ensures.lost c.lift_rows.ensures.moves in
    let empty : (p : ℕ) → slots_of c.lift_rows.new.lists of.parent.list.0 p ≡ None = λ p. c.lift_rows.ensures.empty of.parent of.family.parent_at p (omega arith) tt in
    closed-spliced c.args.arena.now c.splice.new.self c.args.lists.now c.lift_rows.new.lists c.args.frames.now c.lift_rows.new.frames c.args.leaf.0
    c.in-Some-Some.hidden.0 c.in-Some-Some.sibling.0 of.node of.parent of.sibling of.visible of.family (lifting-end c.lift_rows.ensures.lifting empty) was empty
    (c.splice.ensures.nodes c.in-Some-Some.hidden.0 c.in-Some-Some.sibling.0 of.node of.parent of.sibling of.family) c.splice.ensures.lists in
    record {
      kept = closed.0;
      gone = closed.1;
      visible = c.splice.ensures.visible;
    }

-- ---- the parent's list goes over

pub goes_over-requires-clause-child : goal.goes_over-requires-clause-child
goes_over-requires-clause-child c =
    let visible = visible-of c.args.arena.now c.requires.leaf c.node.ensures in
    let of = family-of c.args.arena.now c.requires.exact.forest visible c.in-Some-Some.is-0 c.in-Some-Some.ensures.sibling in
    ap is_some of.family.sibling_at

pub uncover-requires-clause-leaf : goal.uncover-requires-clause-leaf
uncover-requires-clause-leaf c =
    child-ready c.args.arena.now c.args.leaf.0 c.node.result c.in-Some-Some.hidden (visible-of c.args.arena.now c.requires.leaf c.node.ensures) c.in-Some-Some.is-0

pub hand_over-requires-clause-lifting : goal.hand_over-requires-clause-lifting
hand_over-requires-clause-lifting c =
    let visible = visible-of c.args.arena.now c.requires.leaf c.node.ensures in
    lifting-start c.leave_out_above.ensures.sparing (family-of c.args.arena.now c.requires.exact.forest visible c.in-Some-Some.is-0 c.in-Some-Some.ensures.sibling)

pub hand_over-requires-clause-seen : goal.hand_over-requires-clause-seen
hand_over-requires-clause-seen c = λ node parent at parent_at.
    let visible = visible-of c.args.arena.now c.requires.leaf at in
    let up : node.parent ≡ Some c.in-Some-Some.hidden =
    ap (λ (n : Node). n.parent) (some_same (sym at ∙ c.node.ensures)) ∙ c.in-Some-Some.is-0 in
    let freed = c.uncover.ensures.freed node at in
    let one : freed.node ≡ node = some_same (sym freed.visible.at ∙ at) in
    seen-kept (slots_of c.uncover.new.lists) (slots_of c.leave_out_above.new.lists) parent c.args.leaf.0 node.first (node.first + node.seen)
    (c.leave_out_above.ensures.kept parent parent_at)
    (seen-start (tree_of c.args.arena.now c.uncover.new.lists) (is_taken c.uncover.new.frames) freed.exact c.args.leaf.0 c.in-Some-Some.hidden.0 node parent visible
    up parent_at
    (λ p held. subst (λ (n : Node). slots_of c.uncover.new.lists n.list.0 p ≡ None) one (freed.free p held.inside
    (subst (λ (n : Node). IsHeldBy (nodes_of c.args.arena.now) (slots_of c.uncover.new.lists) c.in-Some-Some.hidden.0 n p) (sym one) held))))

pub returns-then-goes_over : goal.returns-then-goes_over
returns-then-goes_over c =
    let closed =
    let over = lost-handed c.hand_over.ensures (lost-then c.uncover.ensures.lost c.leave_out_above.ensures.lost) in
    closed-over c.args.arena.now c.splice_over.new.self c.args.lists.now c.hand_over.new.lists c.args.frames.now c.hand_over.new.frames c.args.leaf.0
    c.in-Some-Some.hidden.0 c.in-Some-Some.sibling.0 over
    (c.splice_over.ensures.nodes c.in-Some-Some.hidden.0 c.in-Some-Some.sibling.0 over.of.node over.of.parent over.of.sibling over.of.family)
    c.splice_over.ensures.lists in
    record {
      kept = closed.0;
      gone = closed.1;
      visible = c.splice_over.ensures.visible;
    }
