-- What holds of a machine whose translations are true.
use Rattle.std.proofs.Common.{◌∙◌}
use Rattle.vm_model.specs.Contents.Content.{Content}
use Rattle.vm_model.specs.Machine.State.{State, IsGoodState}
use Rattle.vm_model.specs.Machine.Machine.{Machine, IsGoodMachine}
use Rattle.fault.specs.Table.{Places, translations_of, ready_of, AreTrue}
use Rattle.fault.proofs.WrittenLaws.{ready_of-some}
use Rattle.machine.specs.Machine.{state_of}
use Rattle.vm_core.specs.Vm.{Parts, machine_of, Agrees}

-- the machine with these translations
abbrev pub machine_with : State → Places → Machine
machine_with s places = record { state = s; ready = ready_of places }

-- a good state with translations that are true of it is a good machine
pub IsGoodMachine-from : (s : State) (places : Places) → IsGoodState s → AreTrue s.content s.spaces.table places → IsGoodMachine (machine_with s places)
IsGoodMachine-from s places good true_of = record {
  state = good;
  ready = λ root p readiness e.
      let by = ready_of-some places root p readiness e in
      let x = by.0 in
      record {
        entry = x.entry;
        is = true_of.entry root p x by.1;
        below = true_of.below root p x by.1;
        alone = λ writes. true_of.alone root p x by.1 (by.2 ∙ writes);
      };
}

-- so are parts that agree with a store
pub agrees_good : (c : Content) (vm : Parts) → Agrees c vm → IsGoodMachine (machine_of c vm)
agrees_good c vm agrees = IsGoodMachine-from (state_of c vm) (translations_of vm.ready) agrees.good agrees.translations
