use Rattle.std.proofs.Common.{sym, ◌∙◌}
use Rattle.mapping_set.proofs.TakenLaws.{place-test, none-taken}
use Rattle.mapping_set.proofs.taken.is_place.Goals as goal

pub returns-in-Some-clause-yes : goal.returns-in-Some-clause-yes
returns-in-Some-clause-yes c = (place-test _ _ _ c.in-Some.extent (sym c.find.ensures ∙ c.in-Some.is) _ c.is_some.ensures).0

pub returns-in-Some-clause-no : goal.returns-in-Some-clause-no
returns-in-Some-clause-no c = (place-test _ _ _ c.in-Some.extent (sym c.find.ensures ∙ c.in-Some.is) _ c.is_some.ensures).1

pub returns-in-None-clause-no : goal.returns-in-None-clause-no
returns-in-None-clause-no c = λ off. (none-taken _ _ _ (sym c.find.ensures ∙ c.in-None.is)).1
