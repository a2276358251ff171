use Rattle.std.proofs.Common.{length, refl, arith, rules}
use Rattle.vm_model.specs.Contents.Writing.{pieces}
use Rattle.vmo_ops.proofs.OwningLaws.{IsOwning-start, IsOwning-room, IsOwning-end}
use Rattle.vmo_ops.proofs.PartLaws.{part_bytes-slice}
use Rattle.source_vm.specs.Table.{backings_of, loose_links_of}
use Rattle.source_vm.proofs.WriteLaws.{IsOwning-filled, IsReadable-filled}
use Rattle.source_vm.proofs.SupplyLaws.{FillsPages-none}
use Rattle.source_vm.proofs.ranges.write_range.Goals as goal

pub loop-page-init : goal.loop-page-init
loop-page-init g c = record {
  owning = search (rules, IsOwning-start);
  readable = c.requires.readable;
}

pub fill_page-requires-clause-readable : goal.fill_page-requires-clause-readable
fill_page-requires-clause-readable g c = c.loop-page.invariant.readable

pub fill_page-requires-clause-page : goal.fill_page-requires-clause-page
fill_page-requires-clause-page g c = omega (arith, c.loop-page.invariant.owning.way.inside, c.loop-page-test.true)

pub fill_page-requires-clause-room : goal.fill_page-requires-clause-room
fill_page-requires-clause-room g c = IsOwning-room c.loop-page.invariant.owning c.loop-page-test.true

pub loop-page-preserved : goal.loop-page-preserved
loop-page-preserved g c =
    let part = c.part_in_page-part.ensures in
    let t = c.args.table.now in
    record {
      owning = IsOwning-filled (backings_of t) (loose_links_of t) _ _ c.loop-page.invariant.readable c.loop-page.invariant.owning c.loop-page-test.true (omega arith) c.fill_page.ensures.fills part.at
          (part_bytes-slice c.args.offset (length c.args.bytes.now) c.loop-page.page _ _ part.from part.until _ refl)
          c.fill_page.ensures.spare;
      readable = IsReadable-filled (backings_of t) (loose_links_of t) _ _ c.args.v.0 c.loop-page.page _ _ c.loop-page.invariant.readable
          (omega (arith, c.loop-page.invariant.owning.way.inside, c.loop-page-test.true)) (omega (arith, part.within)) c.fill_page.ensures.fills;
    }

pub returns : goal.returns
unfolding pieces
returns g c = IsOwning-end c.loop-page.invariant.owning (omega arith) (FillsPages-none (backings_of c.args.table.now) (loose_links_of c.args.table.now) _)
