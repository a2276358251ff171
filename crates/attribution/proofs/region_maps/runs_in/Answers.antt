use Rattle.std.proofs.lemmas.Result.{MatchResult-from_err}
use Rattle.attribution.proofs.RunLaws.{AreBegun-none, AreBegun-piece, AreBegun-end, is_mapped_in-piece}
use Rattle.attribution.proofs.region_maps.runs_in.Goals as goal

pub loop-piece-init : goal.loop-piece-init
loop-piece-init c = AreBegun-none _ _ _ _ c.new-runs.ensures

pub returns-in_err-join : goal.returns-in_err-join
returns-in_err-join c =
    MatchResult-from_err c.from_residual.result _ _ c.from_residual.ensures.0 (λ lack.
    is_mapped_in-piece _ _ _ _ c.in-Some.ensures c.args.first c.loop-piece.invariant.start)

pub loop-piece-preserved : goal.loop-piece-preserved
loop-piece-preserved c =
    AreBegun-piece _ _ _ _ _ _ c.loop-piece.invariant _ _ _ _ c.in-Some.ensures c.run_of.ensures c.in_ok-join.ensures

pub returns : goal.returns
returns c = AreBegun-end _ _ _ _ _ _ c.loop-piece.invariant c.in_default.ensures _ c.close.ensures
