use Rattle.std.proofs.Common.{◌/◌, length, refl, sym, ap, inr, arith}
use Rattle.vm_base.specs.declared.limits.TheConstants.{PAGE}
use Rattle.vm_model.specs.declared.space.Readiness.TheVariants.{Write}
use Rattle.mapping_set.specs.Tables.{table_of}
use Rattle.page_store.specs.Flat.{flat_content}
use Rattle.checker_ready.specs.Notes.{rows_of, ready_in}
use Rattle.checker_ready.specs.inside.Pages.{list_of}
use Rattle.checker_ready.proofs.FaultLaws.{faults_want}
use Rattle.checker_ready.proofs.WriteLaws.{MayWrite-found, WritesTo, writes_same, AreGoodNotes-written}
use Rattle.checker_ready.proofs.noted.ReadyMapReadyPagesFlatStore.write.Goals as goal

pub returns-in_default-clause-outcome : goal.returns-in_default-clause-outcome
returns-in_default-clause-outcome c =
    let touches = c.touch-accessed.ensures (flat_content c.args.pages.now) (table_of c.args.maps.now) (length c.args.bytes.now) c.in-Ok.ensures.1 in (
      record {
        why = inr (
          sym c.in-Ok.ensures.0,
          refl,
          rw touches.pages (faults_want (flat_content c.args.pages.now) (table_of c.args.maps.now) (ready_in (rows_of c.args.self.now)) c.args.root.0 Write (c.args.addr / PAGE)
              (list_of c.touch-accessed.result) touches.each (omega (arith, c.in_default.ensures.wanted, c.faults-faults.ensures.faults))),
        );
      },
      c.in_default.ensures.content,
      ap ready_in c.in_default.ensures.same,
    )

pub write_touched-requires-clause-may : goal.write_touched-requires-clause-may
write_touched-requires-clause-may c =
    MayWrite-found (flat_content c.args.pages.now) (flat_content c.make_room.new.pages) (table_of c.args.maps.now) (rows_of c.args.self.now) c.args.root.0 c.args.addr (length c.args.bytes.now)
    (list_of c.touch-accessed.result) c.in-Ok-make_room.ensures.content c.requires.backed.good c.requires.notes c.in-Ok.ensures.0
    (c.touch-accessed.ensures (flat_content c.args.pages.now) (table_of c.args.maps.now) (length c.args.bytes.now) c.in-Ok.ensures.1)

-- the bytes were written
writes_in : (c : goal.After-write_touched)
    → WritesTo (table_of c.args.maps.now) (flat_content c.args.pages.now) (rows_of c.args.self.now) c.args.root.0 c.args.addr c.args.bytes.now
    (list_of c.touch-accessed.result) (flat_content c.write_touched.new.pages) (rows_of c.write_touched.new.ready)
writes_in c =
    writes_same (table_of c.args.maps.now) (flat_content c.make_room.new.pages) (flat_content c.args.pages.now) (rows_of c.make_room.new.ready) (rows_of c.args.self.now) c.args.root.0 c.args.addr
    c.args.bytes.now (list_of c.touch-accessed.result) (flat_content c.write_touched.new.pages) (rows_of c.write_touched.new.ready) c.in-Ok-make_room.ensures.content c.in-Ok-make_room.ensures.same
    (c.write_touched.ensures.writes (table_of c.args.maps.now)) (sym c.in-Ok.ensures.0) c.requires.notes.true_rows
    (c.touch-accessed.ensures (flat_content c.args.pages.now) (table_of c.args.maps.now) (length c.args.bytes.now) c.in-Ok.ensures.1)

pub returns-clause-outcome : goal.returns-clause-outcome
returns-clause-outcome c = rw c.faults-faults.ensures.faults (writes_in c).0

pub returns-clause-notes : goal.returns-clause-notes
returns-clause-notes c =
    let writes = writes_in c in
    AreGoodNotes-written (flat_content c.args.pages.now) (flat_content c.write_touched.new.pages) (table_of c.args.maps.now) c.args.root.0 c.args.addr c.args.bytes.now
    (rows_of c.args.self.now) (rows_of c.write_touched.new.ready) _ c.requires.backed.good c.requires.notes writes.0 writes.1
