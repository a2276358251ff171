use Rattle.std.proofs.Common.{refl, sym}
use Rattle.vm_model.specs.declared.command.Command.TheVariants.{VmarMap}
use Rattle.mapping_set.specs.Tables.{table_of}
use Rattle.region_tree.specs.Tree.{regions_of, spaces_of}
use Rattle.region_ops.specs.Spaces.{with_all}
use Rattle.vmo_ops.proofs.NameLaws.{parts_inside}
use Rattle.page_store.specs.Flat.{flat_content}
use Rattle.checker_machine.proofs.WantLaws.{lack_asked}
use Rattle.checker_machine.proofs.wanting.map_wants.Goals as goal

pub ask_to_map-requires-clause-inside : goal.ask_to_map-requires-clause-inside
ask_to_map-requires-clause-inside c = rw c.of.ensures (parts_inside _ _ _ c.requires.parts (c.args.request.mapped.0, sym c.in-Some.ensures))

pub returns : goal.returns
returns c = λ s.
    let r = c.args.request in
    let t = with_all s (flat_content c.args.pages.now) c.args.vmos.now (spaces_of (regions_of c.args.regions.now) (table_of c.args.maps.now)) in
    lack_asked t (VmarMap r.region r.offset r.mapped r.vmo_offset r.len r.perm r.flags) c.ask_to_map.result c.is_ok.ensures.value refl
    (λ first e. (rw c.of.ensures at (rw e at c.ask_to_map.ensures).0) t r.mapped (sym c.in-Some.ensures))
    (λ refusal e. (rw c.of.ensures at (rw e at c.ask_to_map.ensures)) t r.mapped (sym c.in-Some.ensures))
