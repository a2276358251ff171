use Rattle.mapping_set.specs.Tables.{table_of}
use Rattle.region_tree.specs.Tree.{regions_of, spaces_of}
use Rattle.std.proofs.Common.{◌∙◌}
use Rattle.vm_model.specs.declared.command.Command.TheVariants.{VmarUnmap}
use Rattle.region_ops.specs.Spaces.{with_spaces}
use Rattle.checker_machine.proofs.WantLaws.{lack_free, lack_refused, mapped_any}
use Rattle.checker_machine.proofs.wanting.unmap_wants.Goals as goal

pub returns-in-Err : goal.returns-in-Err
returns-in-Err c = λ s. lack_refused (with_spaces s (spaces_of (regions_of c.args.regions.now) (table_of c.args.maps.now))) (VmarUnmap c.args.range.region c.args.range.addr c.args.range.len) (c.in-Err.ensures _)

pub returns-in-Ok-ask_to_unmap : goal.returns-in-Ok-ask_to_unmap
returns-in-Ok-ask_to_unmap c = λ s.
    lack_free (with_spaces s (spaces_of (regions_of c.args.regions.now) (table_of c.args.maps.now))) (VmarUnmap c.args.range.region c.args.range.addr c.args.range.len) (c.in-Ok-ask_to_unmap.ensures.1 (table_of c.args.maps.now) s)
    ((rw c.in-Ok-ask_to_unmap.ensures.0 at c.is_mapped_in.ensures) ∙ mapped_any (regions_of c.args.regions.now) (table_of c.args.maps.now) c.args.range.region.0 c.in-Ok.ensures.0 _ _)

pub returns-in-Err-ask_to_unmap : goal.returns-in-Err-ask_to_unmap
returns-in-Err-ask_to_unmap c = λ s. lack_refused (with_spaces s (spaces_of (regions_of c.args.regions.now) (table_of c.args.maps.now))) (VmarUnmap c.args.range.region c.args.range.addr c.args.range.len) (c.in-Err-ask_to_unmap.ensures (table_of c.args.maps.now) s)
