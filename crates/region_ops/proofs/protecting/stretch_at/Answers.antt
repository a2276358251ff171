use Rattle.std.proofs.Common.{◌∙◌, sym, arith}
use Rattle.std.proofs.lemmas.Bool.{not-true, not-false}
use Rattle.region_ops.proofs.CoverLaws.{covered-piece, hole-behind, hole-other, hole-none}
use Rattle.region_ops.proofs.protecting.stretch_at.Goals as goal
use Rattle.region_ops.proofs.protecting.stretch_at.Goals.{then-piece-at-via-then-piece-at, then-piece-at-via-else-piece-at+then-ne}

pub returns-in_default : goal.returns-in_default
returns-in_default c = hole-none _ c.args.region.0 c.args.perm.0 c.args.at c.args.end c.requires c.in_default.ensures.piece

pub returns-then-piece-at : goal.returns-then-piece-at
returns-then-piece-at c = elim c.then-piece-at.branch [
  | then-piece-at-via-then-piece-at w ↦ hole-behind _ c.args.region.0 c.args.perm.0 c.args.at c.args.end c.in-Some.piece c.requires w.if-piece-at.true c.in-Some.ensures.piece
  | then-piece-at-via-else-piece-at+then-ne w ↦ hole-other _ c.args.region.0 c.args.perm.0 c.args.at c.args.end c.in-Some.piece c.requires w.if-piece-at.false
      (not-true _ (sym w.ne.ensures ∙ w.if-ne.true)) c.in-Some.ensures.piece
]

pub returns : goal.returns
returns c = (
  omega (arith, c.requires, c.min.ensures, c.in-Some.ensures.piece.is.some),
  omega (arith, c.min.ensures),
  rw c.contains.ensures (covered-piece _ c.args.region.0 c.args.perm.0 c.args.at c.min.result c.in-Some.piece (omega (arith, c.requires, c.min.ensures, c.in-Some.ensures.piece.is.some))
      (omega (arith, c.min.ensures)) c.if-piece-at.false (not-false _ (sym c.ne.ensures ∙ c.if-ne.false)) c.in-Some.ensures.piece),
)
