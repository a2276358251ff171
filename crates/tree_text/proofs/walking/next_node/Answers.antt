use Rattle.std.proofs.Common.{◌∷◌, refl, ap, subst, sym, ◌∙◌}
use Rattle.std.specs.Prelude.{IsSome}
use Rattle.cow_arena.proofs.ReachLaws.{child-there}
use Rattle.cow_arena.specs.declared.node.Side.TheVariants as side
use Rattle.tree_text.proofs.WalkLaws.{ahead-down, ahead-leaf}
use Rattle.tree_text.proofs.walking.next_node.Goals as goal

pub returns-in-Some-clause-next : goal.returns-in-Some-clause-next
returns-in-Some-clause-next c = ahead-down _ _ c.requires.forest _ _ c.in-Some.left c.node.ensures c.in-Some.is

pub returns-in-Some-clause-there : goal.returns-in-Some-clause-there
returns-in-Some-clause-there c = subst IsSome (sym (child-there _ _ c.requires.forest _ _ _ side.Left c.node.ensures c.in-Some.is).at) refl

pub returns-in-None-clause-next : goal.returns-in-None-clause-next
returns-in-None-clause-next c = ahead-leaf _ _ c.requires.forest _ _ c.node.ensures c.in-None.is ∙ ap (λ list. c.args.at.0 ∷ list) c.next_after.ensures.next
