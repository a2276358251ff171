-- The way goes down while it has pages, to a VMO's node.
use Rattle.cow_merge.proofs.Words.{◌≡◌, ◌-◌, refl, sym, ap, ◌∙◌, arith, is_some, some_same, Node, other_side, side_of}
use Rattle.cow_merge.proofs.BesideLaws.{beside-start, beside-down, beside-none, hidden-there, no-koid_of}
use Rattle.cow_merge.proofs.WitnessLaws.{beside-witness}
use Rattle.cow_merge.proofs.JumpingLaws.{jumps-left}
use Rattle.cow_merge.proofs.witness.leave_out_beside.Goals as goal
use Rattle.cow_merge.proofs.RangeLaws.{lost-same, lost-then}

pub node-requires : goal.node-requires
node-requires c = ap is_some c.requires.family.family.parent_at

pub enter-way-requires : goal.enter-way-requires
enter-way-requires c = record { child = ap is_some c.requires.family.family.sibling_at }

pub loop-left-init : goal.loop-left-init
loop-left-init c = record {
  beside = λ spared above at was.
      beside-start c.args.arena.now c.args.lists.now c.args.frames.now c.args.family.leaf.0 c.args.span.first spared above c.args.span.shift c.args.span.to c.args.family.hidden.0
      c.args.family.sibling (omega arith) c.requires.family at c.min-end.result (omega (arith, c.min-end.ensures)) c.enter-way.result c.enter-way.ensures was;
  lost = lost-same;
  kept = λ above at. refl;
}

pub node-node-requires : goal.node-node-requires
node-node-requires c =
    let of = c.requires.family in
    let under = c.requires.passing of.parent of.family.parent_at in
    let there = c.loop-left.invariant.beside under.spared of.parent of.family.parent_at under.passing in
    ap is_some there.place.node_at

pub cut_under-requires-clause-down : goal.cut_under-requires-clause-down
cut_under-requires-clause-down c =
    let of = c.requires.family in
    let under = c.requires.passing of.parent of.family.parent_at in
    record {
      first = c.args.span.first;
      spared = under.spared;
      above = of.parent;
      to = c.args.span.to;
      fits = omega arith;
      side = other_side (side_of of.parent c.args.family.leaf.0);
      beside = (c.loop-left.invariant.beside under.spared of.parent of.family.parent_at under.passing);
    }

pub pages_of-requires-clause-from : goal.pages_of-requires-clause-from
pages_of-requires-clause-from c =
    let of = c.requires.family in
    let under = c.requires.passing of.parent of.family.parent_at in
    let there = c.loop-left.invariant.beside under.spared of.parent of.family.parent_at under.passing in
    let low = there.place.within.low c.loop-left.way.from (omega arith) (omega arith) in
    omega arith

pub pages_of-requires-clause-to : goal.pages_of-requires-clause-to
pages_of-requires-clause-to c =
    let of = c.requires.family in
    let under = c.requires.passing of.parent of.family.parent_at in
    let there = c.loop-left.invariant.beside under.spared of.parent of.family.parent_at under.passing in
    let high = there.place.within.high (c.loop-left.way.to - 1) (omega arith) (omega arith) in
    omega arith

pub wider-child-requires-clause-forest : goal.wider-child-requires-clause-forest
wider-child-requires-clause-forest c =
    (c.requires.passing c.requires.family.parent c.requires.family.family.parent_at).passing.bare.has.exact.forest

pub wider-child-requires-clause-hidden : goal.wider-child-requires-clause-hidden
wider-child-requires-clause-hidden c =
    hidden-there c.args.arena.now c.loop-left.way.at.0 c.node-node.result c.node-node.ensures (no-koid_of c.node-node.result.koid (sym c.is_some.ensures ∙ c.if-is_some.false))

pub enter-way-requires-in-loop-left : goal.enter-way-requires-in-loop-left
enter-way-requires-in-loop-left c = record { child = ap is_some c.wider-child.ensures.at }

pub loop-left-preserved : goal.loop-left-preserved
loop-left-preserved c = record {
  beside = λ spared above at was.
      let it = (c.cut_under.ensures.beside c.args.span.first spared above c.args.span.to (other_side (side_of above c.args.family.leaf.0))
      (c.loop-left.invariant.beside spared above at was)).0 in
      let child = c.wider-child.ensures in
      beside-down it (omega arith) c.wider-child.result child.node child.at child.parent
      c.enter-way-in-loop-left.result (c.enter-way-in-loop-left.ensures child.node child.at);
  lost =
      let of = c.requires.family in
      let under = c.requires.passing of.parent of.family.parent_at in
      lost-then c.loop-left.invariant.lost (c.cut_under.ensures.beside c.args.span.first under.spared of.parent c.args.span.to (other_side (side_of of.parent c.args.family.leaf.0))
      (c.loop-left.invariant.beside under.spared of.parent of.family.parent_at under.passing)).1;
  kept = λ above at. c.cut_under.ensures.kept above at ∙ c.loop-left.invariant.kept above at;
}

pub returns-else-way-clause-passing : goal.returns-else-way-clause-passing
returns-else-way-clause-passing c = λ spared above at was.
    beside-none (c.loop-left.invariant.beside spared above at was)

pub returns-after-loop-left-clause-passing : goal.returns-after-loop-left-clause-passing
returns-after-loop-left-clause-passing c = λ spared above at was.
    beside-none (c.loop-left.invariant.beside spared above at was)

pub returns-then-is_some-clause-passing : goal.returns-then-is_some-clause-passing
returns-then-is_some-clause-passing c = λ spared above at was.
    let it = (c.cut_under.ensures.beside c.args.span.first spared above c.args.span.to (other_side (side_of above c.args.family.leaf.0))
    (c.loop-left.invariant.beside spared above at was)).0 in
    let of = c.requires.family in
    let leaf : of.node ≡ it.bare.has.node = some_same (sym of.family.at ∙ it.bare.has.visible.at) in
    let node : c.node-node.result ≡ it.place.node = some_same (sym c.node-node.ensures ∙ it.place.node_at) in
    beside-witness it
    (ap (λ (n : Node). is_some n.koid) (sym node) ∙ (sym c.is_some.ensures ∙ c.if-is_some.true))
    (ap (λ (n : Node). n.parent) (sym leaf) ∙ of.family.parent_is) (c.requires.base of.node of.family.at ∙ ap (λ (n : Node). n.first) leaf) refl
    c.pages_of.result.from c.pages_of.result.to c.pages_of.ensures.from c.pages_of.ensures.to (omega arith)

pub returns-then-is_some-clause-lost : goal.returns-then-is_some-clause-lost
returns-then-is_some-clause-lost c =
    let of = c.requires.family in
    let under = c.requires.passing of.parent of.family.parent_at in
    lost-then c.loop-left.invariant.lost (c.cut_under.ensures.beside c.args.span.first under.spared of.parent c.args.span.to (other_side (side_of of.parent c.args.family.leaf.0))
    (c.loop-left.invariant.beside under.spared of.parent of.family.parent_at under.passing)).1

-- ---- the jumps

pub cut_under-requires-clause-jumps : goal.cut_under-requires-clause-jumps
cut_under-requires-clause-jumps c =
    let of = c.requires.family in
    let under = c.requires.passing of.parent of.family.parent_at in
    let there = c.loop-left.invariant.beside under.spared of.parent of.family.parent_at under.passing in
    jumps-left there.bare.has c.loop-left.invariant.lost _ c.requires.jumps
