use Rattle.mapping_set.specs.Tables.{table_of}
use Rattle.region_tree.specs.Tree.{regions_of, spaces_of}
use Rattle.vm_model.specs.declared.command.Command.TheVariants.{Maps}
use Rattle.region_ops.specs.Spaces.{with_spaces}
use Rattle.checker_machine.proofs.WantLaws.{lack_refused}
use Rattle.checker_machine.proofs.wanting.list_wants.Goals as goal

pub returns-in-Err : goal.returns-in-Err
returns-in-Err c = λ s. lack_refused (with_spaces s (spaces_of (regions_of c.args.regions.now) (table_of c.args.maps.now))) (Maps c.args.region) (c.in-Err.ensures _)
