use Rattle.cow_arena.proofs.Words.{ap, sym, ◌∙◌, is_none}
use Rattle.cow_arena.proofs.LinkLaws.{parents_held, above_none}
use Rattle.cow_arena.proofs.arena.CowArena.side.Goals as goal

pub above-requires-clause-parent : goal.above-requires-clause-parent
above-requires-clause-parent c = λ node at. parents_held _ _ c.self.invariant.forest c.args.at.0 node at

pub returns-in_err-above-clause-root : goal.returns-in_err-above-clause-root
returns-in_err-above-clause-root c = λ node at.
    ap is_none c.from_residual.ensures ∙ (ap is_none (sym c.in_err-above.was ∙ c.above.ensures) ∙ above_none _ _ c.self.invariant.forest _ node (rw (← c.self.view_is) at at))
