use Rattle.std.proofs.Common.{IsSome, refl, sym, ap, subst, ◌∙◌, arith, inr}
use Rattle.mapping_set.proofs.ChangeLaws.{with_pages-beside, perms-none, perms-next}
use Rattle.mapping_set.proofs.mapping_set.MappingSet.restrict_pieces.Goals as goal

pub loop-at-init : goal.loop-at-init
loop-at-init c = record {
  low = omega arith;
  high = c.requires.order;
  table = perms-none _ c.args.root.0 c.args.first _;
  begins = c.requires.begins;
  ends = c.requires.ends;
  spare = omega arith;
  places = refl;
}

pub restrict_piece-at-requires-clause-some : goal.restrict_piece-at-requires-clause-some
restrict_piece-at-requires-clause-some c =
    subst IsSome (sym (ap (λ t. t c.args.root.0 c.loop-at.at) c.loop-at.invariant.table
    ∙ with_pages-beside _ c.args.root.0 c.args.first c.loop-at.at _ c.loop-at.at (inr (omega arith))))
    (c.requires.full c.loop-at.at c.loop-at.invariant.low (omega arith))

pub loop-at-preserved : goal.loop-at-preserved
loop-at-preserved c = record {
  low = omega (arith, c.loop-at.invariant.low, c.restrict_piece-at.ensures.order.0);
  high = c.restrict_piece-at.ensures.order.1;
  table = perms-next _ c.args.root.0 c.args.perm c.args.first c.loop-at.at c.restrict_piece-at.result c.loop-at.invariant.low
      (omega (arith, c.restrict_piece-at.ensures.order.0)) _ _ c.loop-at.invariant.table c.restrict_piece-at.ensures.table;
  begins = c.restrict_piece-at.ensures.begins;
  ends = c.restrict_piece-at.ensures.ends;
  spare = omega (arith, c.loop-at.invariant.spare, c.restrict_piece-at.ensures.spare);
  places = c.restrict_piece-at.ensures.places ∙ c.loop-at.invariant.places;
}
