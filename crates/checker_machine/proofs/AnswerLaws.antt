-- What the machine answered, as an outcome in which want of memory is apart.
use Rattle.std.proofs.Common.{◌≡◌, ℕ, true, Option, None, Some, refl, sym, subst, inl, inr}
use Rattle.std.specs.Prelude.{Result, ⊤, OnErr, MatchResult, MatchOption}
use Rattle.std.specs.declared.result.Result.TheVariants.{Ok, Err}
use Rattle.vm_base.specs.declared.refusal.HostMemory.{HostMemory as Lack}
use Rattle.vm_base.specs.declared.refusal.Refusal.{Refusal}
use Rattle.vm_base.specs.declared.refusal.Refusal.TheVariants.{HostMemory}
use Rattle.vm_model.specs.Machine.Words.{Command, Reply}
use Rattle.vm_model.specs.declared.reply.Reply.TheVariants as Reply
use Rattle.vm_model.specs.declared.command.Command.TheVariants.{VmarAllocate, VmarMap}
use Rattle.vm_model.specs.declared.reply.Reply.TheVariants.{Address}
use Rattle.vm_model.specs.Machine.State.{State}
use Rattle.vm_model.specs.Machine.Refusals.{refusals, first_of}
use Rattle.vm_model.specs.Machine.Step.{Effect}
use Rattle.vm_model.specs.Machine.Machine.{Machine}
use Rattle.vm_model.specs.Machine.MachineStep.{may_want_memory, MachineStepAfter, MachineStep}
use Rattle.moving_model.specs.Moving.{tells_place}
use Rattle.moving_model.proofs.HostLaws.{lack_only}
use Rattle.machine.specs.Machine.{LacksPlace, IsAtPlace}

-- no such effect is no such step
no_step : (old : Machine) (command : Command) (told : ℕ) → first_of (refusals old.state command) ≡ None → tells_place command ≡ true
    → ((s : State) → Effect old.state command (Address told) s → ⊥) → (new : Machine) → MachineStep old command (Address told) new → ⊥
no_step old command told none asks never new step = go command (subst (λ (o : Option Refusal). MachineStepAfter o old command (Address told) new) none step.outcome) asks never where
  go : (command : Command) → MachineStepAfter None old command (Address told) new → tells_place command ≡ true → ((s : State) → Effect old.state command (Address told) s → ⊥) → ⊥
  go command (inr lacked) asks never = let other = lacked.0.answer in absurd cc
  go (VmarAllocate region parent offset len flags caps) (inl effect) asks never = never new.state effect.0
  go (VmarMap region offset name vmo_offset len perm flags) (inl effect) asks never = never new.state effect.0
  go _ (inl effect) asks never = absurd cc

module _ (old new : Machine) (command : Command) (told : ℕ) where
  -- what is answered with a told address
  abbrev pub IsGiven : Option Reply → Type 0
  IsGiven given = MatchOption given (LacksPlace old command (Some told) new) (λ answer. MachineStep old command answer new)

  -- the same, and that a place can't be there is no step
  abbrev pub IsStepOrNone : Option Reply → Type 0
  IsStepOrNone given = MatchOption given
      ((new ≡ old) × (tells_place command ≡ true) × (first_of (refusals old.state command) ≡ None) × ((other : Machine) → MachineStep old command (Address told) other → ⊥))
      (λ answer. MachineStep old command answer new)

  step_or_none : (given : Option Reply) → IsGiven given → IsStepOrNone given
  step_or_none None lacks = let misses = lacks.misses in (lacks.kept, misses.asks, misses.none, no_step old command told misses.none misses.asks (misses.never told refl))
  step_or_none (Some answer) step = step

  -- the machine stays as it is for want of memory
  pub outcome_step : (given : Option Reply) (outcome : Result (Option Reply) Lack) → MatchResult outcome (λ own. own ≡ given) (λ lack. given ≡ Some (Reply.Refused HostMemory))
      → IsGiven given → MatchResult outcome IsStepOrNone (λ lack. new ≡ old)
  outcome_step given (Ok own) is does = step_or_none own (subst IsGiven (sym is) does)
  outcome_step given (Err lack) is does = (lack_only old new command (subst IsGiven is does)).2

  -- and it comes only where nothing refuses the command, and it may want memory
  pub outcome_lack : (given : Option Reply) (outcome : Result (Option Reply) Lack) → MatchResult outcome (λ own. own ≡ given) (λ lack. given ≡ Some (Reply.Refused HostMemory))
      → IsGiven given → OnErr outcome ((first_of (refusals old.state command) ≡ None) × (may_want_memory old command ≡ true))
  outcome_lack given (Ok own) is does = tt
  outcome_lack given (Err lack) is does = let only = lack_only old new command (subst IsGiven is does) in (only.0, only.1)

-- the address of a place is the one that is told
module _ (command : Command) (told : ℕ) where
  abbrev pub IsPlaced : Option Reply → Type 0
  IsPlaced given = MatchOption given ⊤ (λ answer. tells_place command ≡ true → (address : ℕ) → answer ≡ Address address → address ≡ told)

  placed : (given : Option Reply) → MatchOption given ⊤ (λ answer. IsAtPlace command (Some told) answer) → IsPlaced given
  placed None at = tt
  placed (Some answer) at = λ asks address e. at asks address told refl e

  pub outcome_placed : (given : Option Reply) (outcome : Result (Option Reply) Lack) → MatchResult outcome (λ own. own ≡ given) (λ lack. given ≡ Some (Reply.Refused HostMemory))
      → MatchOption given ⊤ (λ answer. IsAtPlace command (Some told) answer) → MatchResult outcome IsPlaced (λ lack. ⊤)
  outcome_placed given (Ok own) is at = subst IsPlaced (sym is) (placed given at)
  outcome_placed given (Err lack) is at = tt
