use Rattle.std.proofs.Common.{length, refl, arith}
use Rattle.std.proofs.Common.{◌+◌, ◌*◌, ◌≤◌}
use Rattle.vm_base.specs.declared.limits.TheConstants.{PAGE}
use Rattle.vm_model.specs.Contents.Writing.{pieces}
use Rattle.vmo_ops.proofs.OwningLaws.{IsOwning-start, IsOwning-room, IsOwning-end}
use Rattle.vmo_ops.proofs.PartLaws.{part_at-one, part_bytes-one}
use Rattle.vmo_ops.proofs.WriteLaws.{writing, IsOwning-written}
use Rattle.vmo_ops.proofs.writing.write_range.Goals as goal

pub write_page-requires-clause-room : goal.write_page-requires-clause-room
write_page-requires-clause-room g c =
    let pages = c.requires.touched in
    let start = IsOwning-start (writing c.args.v.0 c.args.offset c.args.bytes.now) c.args.v.0 _ _ _ _ _ _
    c.requires.good c.requires.inside pages.end pages.order pages.row c.requires.room c.requires.free in
    IsOwning-room start (omega (arith, c.if-end-first-eq1.true))

pub returns-then-end-first-eq1 : goal.returns-then-end-first-eq1
unfolding pieces
returns-then-end-first-eq1 g c =
    let bytes = c.args.bytes.now in
    let pages = c.requires.touched in
    let page = c.args.pages.first in
    let inside : c.args.offset + length bytes ≤ PAGE * (page + 1) = omega (
      arith,
      pages.first,
      pages.all,
      c.if-end-first-eq1.true,
    ) in
    let start = IsOwning-start (writing c.args.v.0 c.args.offset bytes) c.args.v.0 _ _ _ _ _ _ c.requires.good
    c.requires.inside pages.end pages.order pages.row c.requires.room c.requires.free in
    IsOwning-end
    (IsOwning-written c.args.offset bytes start (omega (arith, c.if-end-first-eq1.true)) (omega (arith, pages.first))
    c.write_page.ensures.writes (part_at-one c.args.offset (length bytes) page pages.first inside)
    (part_bytes-one c.args.offset (length bytes) page pages.first inside bytes refl) c.write_page.ensures.spare)
    (omega (arith, c.if-end-first-eq1.true)) refl
