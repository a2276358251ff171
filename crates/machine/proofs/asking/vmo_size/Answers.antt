use Rattle.machine.proofs.AskingLaws.{size_named}
use Rattle.machine.proofs.HandleLaws.{inside_named}
use Rattle.machine.proofs.asking.vmo_size.Goals as goal

pub size_of_name-requires-clause-inside : goal.size_of_name-requires-clause-inside
size_of_name-requires-clause-inside g c = inside_named c.requires c.args.name c.in-Some.ensures

pub returns-in-Some : goal.returns-in-Some
returns-in-Some g c = size_named c.args.name _ c.requires.counted c.in-Some.ensures c.size_of_name.result c.size_of_name.ensures
