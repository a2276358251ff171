-- A machine with no names, pins and regions, over pages of no VMO.
use Rattle.std.proofs.Common.{◌≡◌, ℕ, ◌≤◌, None, sym, ap, ◌==◌, arith}
use Rattle.std.specs.Prelude.{is_some}
use Rattle.vm_model.specs.Contents.Content.{Content, nothing, HasNoVmo, IsGood}
use Rattle.vm_model.specs.Machine.State.{IsGoodState, empty_state}
use Rattle.vm_base.specs.declared.limits.TheConstants.{NAMES}
use Rattle.vm_base.proofs.EntryLaws.{entry_count-empty}
use Rattle.vm_model.specs.Naming.Pins.{Pin}
use Rattle.vmo_table.specs.Table.{names_of, lineage_in, keepers_of, CountsKeepers}
use Rattle.pin_table.specs.Table.{pins_of}
use Rattle.vm_model.specs.Space.AddressSpaces.{no_spaces}
use Rattle.mapping_set.specs.Tables.{table_of}
use Rattle.region_tree.specs.Tree.{regions_of}
use Rattle.vm_model.specs.Machine.Machine.{empty_machine}
use Rattle.machine.specs.Machine.{MachineParts, bare_state, bare_machine, state_of}
use Rattle.vm_model.proofs.SpaceLaws.{AreGoodSpaces-none, mapped_count-none}

-- tables in which nothing stands
pub state_of-bare : {R : Type 0} (c : Content) (vm : MachineParts R) → ((n : ℕ) → names_of vm.vmos n ≡ None)
    → ((v : ℕ) → lineage_in vm.vmos v ≡ None) → ((n : ℕ) → pins_of vm.pins n ≡ None)
    → regions_of vm.regions ≡ (λ n. None) → table_of vm.maps ≡ (λ root p. None) → state_of c vm ≡ bare_state c
unfolding empty_state no_spaces
state_of-bare c vm names lineage pins regions table = λ i. record (bare_state c) {
  names = λ n. names n i;
  lineage = λ v. lineage v i;
  pins = λ n. pins n i;
  spaces = record { regions = regions i; table = table i };
}

-- a content without VMOs and pages is good
IsGood-none : (c : Content) → HasNoVmo c → 1 ≤ c.next → IsGood c
IsGood-none c none first = record {
  koids = λ v n e. let no = none.none v in absurd cc;
  counts = λ v n e. let no = none.none v in absurd cc;
  first_koid = first;
  below = λ v p held e. let no = none.no_page v p in absurd cc;
  whole = λ v p held e. let no = none.no_page v p in absurd cc;
  tags = λ v p held e. let no = none.no_page v p in absurd cc;
  alike = λ v p w q held other e f same. let no = none.no_page v p in absurd cc;
  apart = λ v p q held other e f same. let no = none.no_page v p in absurd cc;
}

-- the state is good
pub IsGoodState-bare : (c : Content) → HasNoVmo c → 1 ≤ c.next → IsGoodState (bare_state c)
unfolding empty_state
IsGoodState-bare c none first = record {
  content = IsGood-none c none first;
  names = λ n target e. absurd cc;
  known = λ v. ap is_some (sym (none.none v));
  live = λ v h. absurd cc;
  parents = λ v p l e f. absurd cc;
  pins = λ n pin e. absurd cc;
  spaces = AreGoodSpaces-none c;
}

-- with the first koid to come it is the empty machine
bare_state-first : (c : Content) → HasNoVmo c → c.next ≡ 1 → bare_state c ≡ empty_state c.frames
unfolding empty_state nothing
bare_state-first c none first = λ i. record (bare_state c) {
  content = record c { next = first i; count = λ v. none.none v i; page = λ v p. none.no_page v p i };
}

pub bare_machine-first : (c : Content) → HasNoVmo c → c.next ≡ 1 → bare_machine c ≡ empty_machine c.frames
unfolding empty_machine
bare_machine-first c none first = λ i. record { state = bare_state-first c none first i; ready = λ root p. None }

-- in a table of VMOs without keepers no pin is counted
pub counts_none : {R : Type 0} (vm : MachineParts R) → ((v : ℕ) → keepers_of vm.vmos v ≡ 0) → ((n : ℕ) → pins_of vm.pins n ≡ None)
    → table_of vm.maps ≡ (λ root p. None) → CountsKeepers vm.vmos (state_of nothing vm)
counts_none vm none empty table v =
    let no_pin = entry_count-empty NAMES (λ (pin : Pin). pin.koid == v) (pins_of vm.pins) empty in
    let no_page = mapped_count-none (state_of nothing vm).spaces v table in
    omega (arith, none v, no_pin, no_page)
