-- A machine with nothing, and one that has page frames alone.
use Rattle.std.proofs.Common.{◌≡◌, ℕ, None, Some, sym, ap, subst, ◌∙◌}
use Rattle.std.specs.Option.{option_map}
use Rattle.std.specs.Prelude.{Result, OnOk, OnErr, MatchResult}
use Rattle.std.specs.declared.result.Result.TheVariants.{Ok, Err}
use Rattle.vm_base.specs.declared.refusal.HostMemory.{HostMemory as Lack}
use Rattle.vm_model.specs.Contents.Content.{Content, nothing}
use Rattle.vm_model.specs.Machine.State.{empty_state}
use Rattle.vm_model.specs.Machine.Machine.{Machine, empty_machine, IsGoodMachine}
use Rattle.vm_model.proofs.MachineLaws.{IsGoodMachine-empty}
use Rattle.page_store.specs.Flat.{Flat, flat_content}
use Rattle.checker_ready.specs.Notes.{rows_of, ready_in}
use Rattle.checker_ready.specs.declared.ready_map.ReadyPage.{ReadyPage}
use Rattle.machine.specs.Machine.{bare_state, state_of}
use Rattle.checker_machine.specs.Machine.{CheckerParts, checker_machine_of}
use Rattle.checker_machine.specs.inside.Fields.{AreSound}

-- ---- sound parts

-- in a machine with nothing but page frames nothing is ready
none_ready : (m : CheckerParts) (frames : ℕ) → checker_machine_of m ≡ empty_machine frames → (root p : ℕ) → ready_in (rows_of m.machine.ready) root p ≡ None
unfolding checker_machine_of empty_machine
none_ready m frames empty root p = ap (λ (n : Machine). n.ready root p) empty

-- so there are no notes
no_row : (m : CheckerParts) (frames : ℕ) → checker_machine_of m ≡ empty_machine frames → (root p : ℕ) (row : ReadyPage) → rows_of m.machine.ready root p ≡ Some row → ⊥
no_row m frames empty root p row e =
    let none = none_ready m frames empty root p in let some = ap (option_map (λ (x : ReadyPage). x.readiness)) e in absurd cc

-- and its parts are sound
pub empty_sound : (m : CheckerParts) (frames : ℕ) → checker_machine_of m ≡ empty_machine frames → AreSound m
unfolding checker_machine_of
empty_sound m frames empty = record {
  good = subst IsGoodMachine (sym empty) (IsGoodMachine-empty frames);
  notes = record {
    true_rows = λ root p row e. absurd (no_row m frames empty root p row e);
    ready = λ root p readiness e. let none = none_ready m frames empty root p in absurd cc;
  };
}

-- ---- nothing

pub checker_machine_of-start : (m : CheckerParts) → flat_content m.pages ≡ nothing → ((c : Content) → state_of c m.machine ≡ bare_state c)
    → rows_of m.machine.ready ≡ (λ root p. None) → checker_machine_of m ≡ empty_machine 0
unfolding checker_machine_of empty_machine empty_state nothing
checker_machine_of-start m pages bare rows =
    (λ i. record { state = bare (flat_content m.pages) i; ready = ready_in (rows i) })
    ∙ ap {B = Machine} (λ (c : Content). record { state = bare_state c; ready = λ root p. None }) pages

-- ---- page frames

-- the parts, with these pages
abbrev pub with_pages : CheckerParts → Flat → CheckerParts
with_pages m pages = record m { pages = pages }

-- a machine with nothing has no VMO
pub start_nothing : (m : CheckerParts) → checker_machine_of m ≡ empty_machine 0 → flat_content m.pages ≡ nothing
unfolding checker_machine_of empty_machine empty_state nothing
start_nothing m e = ap (λ (n : Machine). n.state.content) e

module _ (m : CheckerParts) (pages : Flat) where
  -- the machine, with this content
  abbrev with_content : Content → Machine
  with_content c = record { state = state_of c m.machine; ready = ready_in (rows_of m.machine.ready) }

  filled_machine : (frames : ℕ) → checker_machine_of m ≡ empty_machine 0 → flat_content pages ≡ record (flat_content m.pages) { frames = frames }
      → checker_machine_of (with_pages m pages) ≡ empty_machine frames
  unfolding checker_machine_of empty_machine empty_state
  filled_machine frames empty filled =
      ap with_content filled
      ∙ ap {B = Machine} (λ (n : Machine). record n { state = record (n.state) { content = record (n.state.content) { frames = frames } } }) empty

  kept_machine : flat_content pages ≡ flat_content m.pages → checker_machine_of (with_pages m pages) ≡ checker_machine_of m
  unfolding checker_machine_of
  kept_machine same = ap with_content same

  pub filled : (frames : ℕ) → checker_machine_of m ≡ empty_machine 0 → (r : Result (Unit {0}) Lack) → OnOk r (flat_content pages ≡ record (flat_content m.pages) { frames = frames })
      → OnErr r (flat_content pages ≡ flat_content m.pages)
      → MatchResult r (λ u. checker_machine_of (with_pages m pages) ≡ empty_machine frames) (λ lack. checker_machine_of (with_pages m pages) ≡ checker_machine_of m)
      × AreSound (with_pages m pages)
  filled frames empty (Ok u) done kept = let is = filled_machine frames empty done in (is, empty_sound (with_pages m pages) frames is)
  filled frames empty (Err lack) done kept = let is = kept_machine kept in (is, empty_sound (with_pages m pages) 0 (is ∙ empty))
