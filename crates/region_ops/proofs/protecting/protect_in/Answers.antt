use Rattle.std.proofs.Common.{◌∙◌, refl, sym, ap}
use Rattle.vm_model.specs.Space.AddressSpaces.{mapped_count}
use Rattle.vm_model.specs.declared.command.Command.TheVariants.{VmarProtect}
use Rattle.vm_model.proofs.StepLaws.{Step-lacks}
use Rattle.mapping_set.specs.Tables.{table_of}
use Rattle.region_tree.specs.Tree.{regions_of, spaces_of}
use Rattle.region_ops.specs.Spaces.{with_spaces}
use Rattle.region_ops.proofs.CoverLaws.{full, mapped_count-protected, protect_done}
use Rattle.region_ops.proofs.PlaceLaws.{Step-refused}
use Rattle.region_ops.proofs.protecting.protect_in.Goals as goal

pub returns-in-Err-clause-step : goal.returns-in-Err-clause-step
returns-in-Err-clause-step c = λ s. Step-refused (with_spaces s (spaces_of (regions_of c.args.regions.now) (table_of c.args.maps.now))) _ _ (sym (c.in-Err.ensures s))

pub returns-in_default-clause-step : goal.returns-in_default-clause-step
returns-in_default-clause-step c = λ s.
    rw c.in_default.ensures.table (Step-lacks (with_spaces s (spaces_of (regions_of c.args.regions.now) (table_of c.args.maps.now))) (VmarProtect c.args.range.region c.args.range.addr c.args.range.len c.args.perm)
    (sym (c.in-Ok.ensures.2 s)) refl)

pub returns-clause-step : goal.returns-clause-step
returns-clause-step c = λ s.
    protect_done (with_spaces s (spaces_of (regions_of c.args.regions.now) (table_of c.args.maps.now))) c.args.range.region c.args.range.addr c.args.range.len c.args.perm c.args.above c.requires.above
    (sym (c.in-Ok.ensures.2 s)) (table_of c.restrict.new.self) (rw (c.in-Ok.ensures.0, c.in-Ok-reserve.ensures.table) at c.restrict.ensures.table)

pub restrict-requires-clause-full : goal.restrict-requires-clause-full
restrict-requires-clause-full c = rw c.in-Ok-reserve.ensures.table (full _ c.args.range.region.0 c.args.perm.0 _ _ c.in-Ok.ensures.1)

pub returns-clause-mapped : goal.returns-clause-mapped
returns-clause-mapped c = λ v.
    let regions = regions_of c.args.regions.now in
    ap (λ table. mapped_count (spaces_of regions table) v) c.restrict.ensures.table
    ∙ (mapped_count-protected (spaces_of regions (table_of c.reserve.new.self)) c.args.above.root.0 _ _ c.args.perm v
    ∙ ap (λ table. mapped_count (spaces_of regions table) v) c.in-Ok-reserve.ensures.table)
