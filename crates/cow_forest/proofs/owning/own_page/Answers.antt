use Rattle.cow_forest.proofs.Words.{sym, ap, ◌∙◌, holder_of}
use Rattle.cow_arena.proofs.WalkLaws.{walk-row}
use Rattle.cow_forest.proofs.owning.own_page.Goals as goal

pub own_row-requires-clause-found : goal.own_row-requires-clause-found
own_row-requires-clause-found c =
    ap holder_of (sym (walk-row _ c.requires.exact.forest _ _ _ (record { node = c.look.result.now; at = c.look.ensures; row = sym c.find.ensures ∙ c.in-Some.is })))
