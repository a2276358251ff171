use Rattle.vm_model.proofs.ExampleLaws.{example_only, example_exists}
use Rattle.vm_model.proofs.laws.the_example_has_one_outcome.Goals as goal

pub returns-clause-only : goal.returns-clause-only
returns-clause-only c = example_only

pub returns-clause-exists : goal.returns-clause-exists
returns-clause-exists c = example_exists
