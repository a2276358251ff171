use Rattle.std.proofs.Common.{◌∙◌, sym}
use Rattle.mapping_set.specs.Tables.{table_of}
use Rattle.region_tree.specs.Tree.{regions_of, spaces_of}
use Rattle.region_ops.specs.Spaces.{with_spaces}
use Rattle.region_ops.proofs.PlaceLaws.{allocate_fits, allocate_full}
use Rattle.region_ops.proofs.allocating.ask_to_allocate.Goals as goal

pub returns-in-Ok : goal.returns-in-Ok
returns-in-Ok c =
    let place = rw c.by-wanted.ensures at c.in-Ok.ensures in (
      λ name free s.
          sym (allocate_fits (with_spaces s (spaces_of (regions_of c.args.regions.now) (table_of c.args.maps.now))) name c.args.request.parent c.args.request.offset c.args.request.len c.args.request.flags c.args.request.caps c.args.searched.region
          c.requires.above free c.requires.live (sym c.allows.ensures ∙ c.if-not-allows.false) (rw c.by-wanted.ensures at (sym c.is_misplaced.ensures ∙ c.if-is_misplaced.false)) _ place),
      place,
    )

pub returns-in-Err : goal.returns-in-Err
returns-in-Err c = λ name free s.
    sym (allocate_full (with_spaces s (spaces_of (regions_of c.args.regions.now) (table_of c.args.maps.now))) name c.args.request.parent c.args.request.offset c.args.request.len c.args.request.flags c.args.request.caps c.args.searched.region
    c.requires.above free c.requires.live (sym c.allows.ensures ∙ c.if-not-allows.false) (rw c.by-wanted.ensures at (sym c.is_misplaced.ensures ∙ c.if-is_misplaced.false)) _
    (rw c.by-wanted.ensures at c.in-Err.ensures))
