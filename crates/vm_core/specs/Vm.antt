-- What a `Vm` is to its callers, and the machine that it and its store stand for.
use Rattle.vm_model.specs.Contents.Content.{Content}
use Rattle.vm_model.specs.Machine.State.{IsGoodState}
use Rattle.vm_model.specs.Machine.Machine.{Machine}
use Rattle.mapping_set.specs.Tables.{table_of}
use Rattle.fault.specs.Table.{Table as Translations, translations_of, ready_of, AreTrue}
use Rattle.machine.specs.Machine.{MachineParts, state_of, machine_of_parts}
pub use Rattle.machine.specs.Machine.{bare_machine}

-- the table of names and VMOs, the table of pins, the regions, the mappings, and the translations
abbrev pub Parts : Type 0
Parts = MachineParts Translations

-- the machine: its state, and what its pages are ready for by their translations
abbrev pub machine_of : Content → Parts → Machine
machine_of c vm = machine_of_parts (λ translations. ready_of (translations_of translations)) c vm

-- The store and the parts stand for a good state, and each translation is true of it.
pub record Agrees (c : Content) (vm : Parts) : Type 0 where
  pub good : IsGoodState (state_of c vm)
  pub translations : AreTrue c (table_of vm.maps) (translations_of vm.ready)
