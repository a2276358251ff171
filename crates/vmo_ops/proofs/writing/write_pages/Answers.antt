use Rattle.std.proofs.Common.{length, refl, arith, rules}
use Rattle.vm_model.specs.Contents.Writing.{pieces}
use Rattle.vmo_ops.proofs.OwningLaws.{IsOwning-start, IsOwning-room, IsOwning-end}
use Rattle.vmo_ops.proofs.PartLaws.{part_bytes-slice}
use Rattle.vmo_ops.proofs.WriteLaws.{IsOwning-written}
use Rattle.vmo_ops.proofs.writing.write_pages.Goals as goal

pub loop-page-init : goal.loop-page-init
loop-page-init g c = search (rules, IsOwning-start)

pub write_page-requires-clause-room : goal.write_page-requires-clause-room
write_page-requires-clause-room g c = IsOwning-room c.loop-page.invariant c.loop-page-test.true

pub loop-page-preserved : goal.loop-page-preserved
loop-page-preserved g c =
    let part = c.part_in_page-part.ensures in
    IsOwning-written _ _ c.loop-page.invariant c.loop-page-test.true (omega arith) c.write_page.ensures.writes part.at
    (part_bytes-slice c.args.offset (length c.args.bytes.now) c.loop-page.page _ _ part.from part.until _ refl)
    c.write_page.ensures.spare

pub returns : goal.returns
unfolding pieces
returns g c = grind (arith, IsOwning-end)
