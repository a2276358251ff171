use Rattle.vm_model.specs.declared.command.Command.TheVariants.{MemRead, MemWrite}
use Rattle.vm_model.specs.Machine.State.{State, empty_state}
use Rattle.vm_model.specs.Machine.Machine.{Machine}
use Rattle.mapping_set.specs.Tables.{Mappings, table_of}
use Rattle.region_tree.specs.Tree.{RegionRows, regions_of, spaces_of}
use Rattle.page_store.specs.Flat.{Flat, flat_content}
use Rattle.checker_ready.specs.Notes.{Notes}
use Rattle.checker_machine.specs.Machine.{ready_by}
use Rattle.checker_machine.proofs.WantLaws.{lack_free, read_few, want_refused}
use Rattle.checker_machine.proofs.wanting.memory_wants.Goals as goal

-- the machine that is asked for memory
abbrev asked : Flat → RegionRows → Mappings → Notes → State → Machine
asked pages regions maps ready s = record { state = record s { content = flat_content pages; spaces = spaces_of (regions_of regions) (table_of maps) }; ready = ready_by ready }

pub wants_memory_to_read-requires : goal.wants_memory_to_read-requires
wants_memory_to_read-requires c =
    read_few (asked c.args.pages.now c.args.regions.now c.args.maps.now c.args.ready.now (empty_state 0)).state c.in-MemRead.region c.in-MemRead.addr c.in-MemRead.len (c.in-None.ensures (empty_state 0))

pub returns-in-Some : goal.returns-in-Some
returns-in-Some c = rw c.in-MemRead.is (λ s.
    want_refused (asked c.args.pages.now c.args.regions.now c.args.maps.now c.args.ready.now s) (MemRead c.in-MemRead.region c.in-MemRead.addr c.in-MemRead.len) (c.in-Some.ensures s))

pub returns-in-None : goal.returns-in-None
returns-in-None c = rw c.in-MemRead.is (λ s.
    lack_free (asked c.args.pages.now c.args.regions.now c.args.maps.now c.args.ready.now s).state (MemRead c.in-MemRead.region c.in-MemRead.addr c.in-MemRead.len) (c.in-None.ensures s)
    (c.wants_memory_to_read.ensures s))

pub returns-in-Some-refusal_to_write : goal.returns-in-Some-refusal_to_write
returns-in-Some-refusal_to_write c = rw c.in-MemWrite.is (rw (← c.as_slice-written.ensures.value) (λ s.
    want_refused (asked c.args.pages.now c.args.regions.now c.args.maps.now c.args.ready.now s) (MemWrite c.in-MemWrite.region c.in-MemWrite.addr _) (c.in-Some-refusal_to_write.ensures s)))

pub returns-in-None-refusal_to_write : goal.returns-in-None-refusal_to_write
returns-in-None-refusal_to_write c = rw c.in-MemWrite.is (rw (← c.as_slice-written.ensures.value) (λ s.
    lack_free (asked c.args.pages.now c.args.regions.now c.args.maps.now c.args.ready.now s).state (MemWrite c.in-MemWrite.region c.in-MemWrite.addr _) (c.in-None-refusal_to_write.ensures s)
    (c.wants_memory_to_write.ensures s)))
