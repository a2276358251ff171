use Rattle.std.proofs.Common.{◌≡◌, ◌/◌, length, take, refl, sym, ap, ◌∙◌, inr, arith}
use Rattle.std.proofs.lemmas.List.{length-take}
use Rattle.vm_base.specs.declared.limits.TheConstants.{PAGE}
use Rattle.vm_model.specs.declared.space.Readiness.TheVariants.{Read}
use Rattle.vm_model.specs.Contents.Writing.{touched}
use Rattle.mapping_set.specs.Tables.{table_of}
use Rattle.page_store.specs.Flat.{flat_content}
use Rattle.checker_ready.specs.Notes.{rows_of, ready_in}
use Rattle.checker_ready.specs.inside.Pages.{list_of}
use Rattle.checker_ready.proofs.FaultLaws.{faults_want}
use Rattle.checker_ready.proofs.ReadLaws.{Reads, lie_inside, reads_same, AreGoodNotes-read}
use Rattle.checker_ready.proofs.noted.ReadyMapReadyPagesFlatStore.read.Goals as goal

pub returns-in_default-clause-outcome : goal.returns-in_default-clause-outcome
returns-in_default-clause-outcome c =
    let touches = c.touch-accessed.ensures (flat_content c.args.pages.now) (table_of c.args.maps.now) c.args.len c.in-Ok.ensures.1 in (
      record {
        why = inr (
          sym c.in-Ok.ensures.0,
          refl,
          rw touches.pages (faults_want (flat_content c.args.pages.now) (table_of c.args.maps.now) (ready_in (rows_of c.args.self.now)) c.args.root.0 Read (c.args.addr / PAGE)
              (list_of c.touch-accessed.result) touches.each (omega (arith, c.in_default.ensures.wanted, c.faults-faults.ensures.faults))),
        );
      },
      ap ready_in c.in_default.ensures.same,
    )

pub read_touched-requires-clause-inside : goal.read_touched-requires-clause-inside
read_touched-requires-clause-inside c =
    let same : length (take c.args.len c.args.room.now) ≡ c.args.len = omega (arith, c.requires.len, c.requires.room, length-take c.args.len c.args.room.now) in
    let touches = c.touch-accessed.ensures (flat_content c.args.pages.now) (table_of c.args.maps.now) c.args.len c.in-Ok.ensures.1 in
    record {
      pages = ap (touched c.args.addr) same ∙ touches.pages;
      each = lie_inside (flat_content c.args.pages.now) (table_of c.args.maps.now) (ready_in (rows_of c.args.self.now)) c.args.root.0 (c.args.addr / PAGE) (list_of c.touch-accessed.result) touches.each;
    }

-- the bytes were read
reads_in : (c : goal.After-new)
    → Reads (table_of c.args.maps.now) (flat_content c.args.pages.now) c.args.root.0 c.args.addr (rows_of c.args.self.now) c.args.len
    (list_of c.touch-accessed.result) c.read_touched.new.out (rows_of c.read_touched.new.ready)
reads_in c =
    let same : length (take c.args.len c.args.room.now) ≡ c.args.len = omega (arith, c.requires.len, c.requires.room, length-take c.args.len c.args.room.now) in
    reads_same (table_of c.args.maps.now) (flat_content c.args.pages.now) c.args.root.0 c.args.addr (length (take c.args.len c.args.room.now)) c.args.len
    (rows_of c.reserve.new.self) (rows_of c.args.self.now) (list_of c.touch-accessed.result) c.read_touched.new.out (rows_of c.read_touched.new.ready) same c.in-Ok-reserve.ensures.same
    (c.read_touched.ensures.reads (table_of c.args.maps.now) c.requires.backed.good) (sym c.in-Ok.ensures.0) c.requires.notes.true_rows
    (c.touch-accessed.ensures (flat_content c.args.pages.now) (table_of c.args.maps.now) c.args.len c.in-Ok.ensures.1)

pub returns-clause-outcome : goal.returns-clause-outcome
returns-clause-outcome c =
    let reads = (reads_in c).0 in
    record { free = reads.free; faults_are = c.faults-faults.ensures.faults ∙ reads.faults_are; bytes_are = c.new.ensures ∙ reads.bytes_are; ready = reads.ready }

pub returns-clause-notes : goal.returns-clause-notes
returns-clause-notes c =
    let reads = reads_in c in
    AreGoodNotes-read (flat_content c.args.pages.now) (table_of c.args.maps.now) c.args.root.0 c.args.addr c.args.len _ (rows_of c.args.self.now) (rows_of c.read_touched.new.ready) _ c.requires.notes reads.0 reads.1
