use Rattle.cow_arena.proofs.Words.{ap, sym, ◌∙◌, is_none, get}
use Rattle.cow_arena.proofs.LinkLaws.{parents_held, sibling_none, above_none, sibling_below}
use Rattle.cow_arena.proofs.arena.CowArena.sibling.Goals as goal

pub above-requires-clause-parent : goal.above-requires-clause-parent
above-requires-clause-parent c = λ node at. parents_held _ _ c.self.invariant.forest c.args.at.0 node at

pub returns-in_err-above-clause-root : goal.returns-in_err-above-clause-root
returns-in_err-above-clause-root c = λ node at.
    ap is_none c.from_residual.ensures ∙ (ap is_none (sym c.in_err-above.was ∙ c.above.ensures) ∙ above_none _ _ c.self.invariant.forest _ node (rw (← c.self.view_is) at at))

pub returns-clause-root : goal.returns-clause-root
returns-clause-root c = λ node at.
    let nodes = rw (← c.self.view_is) at at in
    ap is_none (c.sibling_of.ensures ∙ sym (sibling_below (get c.self.inside.nodes) c.args.at.0 c.in_ok-above.field-0 (sym c.above.ensures ∙ c.in_ok-above.was)))
    ∙ sibling_none (get c.self.inside.nodes) _ c.self.invariant.forest _ node nodes
