-- Laws of places that are told: the address of a region or a mapping has 64 bits.
use Rattle.std.proofs.Common.{◌≡◌, ℕ, ◌+◌, ◌*◌, ◌/◌, ◌^◌, ◌<◌, ◌≤◌, true, false, ◌&&◌, List, ◌++◌, Option, None, Some, ◌⊎◌, refl, sym, ap, ◌∙◌, inl, inr, arith}
use Rattle.std.specs.Prelude.{codes}
use Rattle.std.specs.Fmt.{digits}
use Rattle.std.specs.Str.Parse.{digits_value}
use Rattle.std.proofs.lemmas.Bool.{and_parts, not-false}
use Rattle.std.proofs.lemmas.Fmt.{digits_is_IsNumeral}
use Rattle.std.proofs.lemmas.List.{same_from_push}
use Rattle.vm_base.specs.Pages.{rounded}
use Rattle.vm_base.specs.declared.limits.TheConstants.{PAGE, ROOT_END}
use Rattle.vm_base.specs.declared.refusal.Refusal.{Refusal}
use Rattle.vm_base.proofs.EntryLaws.{some_is}
use Rattle.vm_model.specs.Machine.Words.{Command, Reply}
use Rattle.vm_model.specs.declared.command.Command.TheVariants.{VmoChild, VmarAllocate, VmarMap, MemRead, MemWrite}
use Rattle.vm_model.specs.declared.command.ChildKind.TheVariants.{Snapshot}
use Rattle.vm_model.specs.declared.reply.Reply.TheVariants.{Address, Refused}
use Rattle.vm_model.specs.Language.Text.{reply_lines}
use Rattle.vm_model.specs.declared.space.Region.{Region}
use Rattle.vm_model.specs.Space.Rights.{has, specific, overwrite, upper_limit}
use Rattle.vm_model.specs.Space.Regions.{region_of, reaches_over}
use Rattle.vm_model.specs.Machine.State.{State, is_open, is_given, IsGoodState}
use Rattle.vm_model.specs.Machine.Refusals.{refusals, first_of}
use Rattle.vm_model.specs.Machine.Machine.{Machine, IsGoodMachine}
use Rattle.vm_model.specs.Machine.MachineStep.{MachineEffect, MachineStepAfter, MachineStep}
use Rattle.vm_model.proofs.RegionLaws.{region_of-at, reaches_over_parts, region_bounds}
use Rattle.vm_model.proofs.SpaceLaws.{is_free_parts}
use Rattle.vm_model.proofs.MappingLaws.{mismapped_parts, map_place}
use Rattle.vm_model.proofs.StepLaws.{AllOff-from_none}
use Rattle.moving_model.specs.Moving.{MovingStep, tells_place}
use Rattle.moving_model.specs.Following.{first_line}

-- what a live region has lies below the end of its address space
below_root : (s : State) (name first end : ℕ) → IsGoodState s → is_given s name ≡ true → (region_of s.spaces.regions name).live ≡ true
    → reaches_over first end (region_of s.spaces.regions name) ≡ true → end ≤ ROOT_END
below_root s name first end good given live reaches =
    let there = some_is (s.spaces.regions name) given in
    let is : s.spaces.regions name ≡ Some (region_of s.spaces.regions name) = there.1 ∙ ap (λ (r : Region). Some r) (sym (region_of-at s.spaces.regions name there.0 there.1)) in
    let bounds = region_bounds s.spaces.regions good.spaces.regions name (region_of s.spaces.regions name) is live in
    omega (arith, (reaches_over_parts first end (region_of s.spaces.regions name) reaches).1, bounds.0)

-- an address in bytes below it has 64 bits
address_fits : (a first end : ℕ) → a ≡ first * PAGE → first ≤ end → end ≤ ROOT_END → a < 2 ^ 64
address_fits a first end e h l = omega (arith, e, h, l)

told : {a b : ℕ} → ◌≡◌ {A = Reply} (Address a) (Address b) → a ≡ b
told e = cc

effect_address : (old new : Machine) (command : Command) (a : ℕ) → IsGoodMachine old → first_of (refusals old.state command) ≡ None → MachineEffect old command (Address a) new → a < 2 ^ 64
effect_address old new (VmarAllocate region parent offset len flags caps) a good none e =
    let off = AllOff-from_none (refusals old.state (VmarAllocate region parent offset len flags caps)) none in
    let first = e.0.0 in
    let end = first + rounded len / PAGE in
    let free = is_free_parts old.state.spaces parent.0 first end e.0.2.free in
    let low = below_root old.state parent.0 first end good.state (not-false (is_given old.state parent.0) off.0) (not-false (region_of old.state.spaces.regions parent.0).live off.1.1.0) free.1 in
    address_fits a first end (told e.0.1) (omega arith) low
effect_address old new (VmarMap region offset name vmo_offset len perm flags) a good none e =
    let off = AllOff-from_none (refusals old.state (VmarMap region offset name vmo_offset len perm flags)) none in
    let there = and_parts (is_given old.state region.0) (is_open old.state name.0) (not-false (is_given old.state region.0 && is_open old.state name.0) off.0) in
    let right = mismapped_parts old.state.spaces region.0 (has flags.0 overwrite) (has flags.0 specific) (has flags.0 upper_limit) offset vmo_offset len perm.0 off.1.1.1.0 in
    let place = map_place old.state.spaces region.0 (has flags.0 overwrite) (has flags.0 specific) (has flags.0 upper_limit) offset vmo_offset len perm.0 e.0.0 right e.0.2 in
    let low = below_root old.state region.0 e.0.0 (e.0.0 + rounded len / PAGE) good.state there.0 (not-false (region_of old.state.spaces.regions region.0).live off.1.0) place.0 in
    address_fits a e.0.0 (e.0.0 + rounded len / PAGE) (told e.0.1) (omega arith) low
effect_address old new (VmoChild name parent Snapshot offset size resizable no_write) a good none e = absurd (let f = e.0.0 in cc)
effect_address old new (MemRead region addr len) a good none e = absurd (let f = e.0 in cc)
effect_address old new (MemWrite region addr bytes) a good none e = absurd (let f = e.1 in cc)
effect_address old new command a good none e = absurd (let f = e.0.0 in cc)

pub step_address : (old new : Machine) (command : Command) (a : ℕ) → IsGoodMachine old → MachineStep old command (Address a) new → a < 2 ^ 64
step_address old new command a good step = go (first_of (refusals old.state command)) refl step.outcome where
  go : (o : Option Refusal) → first_of (refusals old.state command) ≡ o → MachineStepAfter o old command (Address a) new → a < 2 ^ 64
  go (Some refusal) e f = absurd (let answer = f.answer in cc)
  go None e (inl f) = effect_address old new command a good e f
  go None e (inr f) = absurd (let answer = f.0.answer in cc)

pub moving_address : (old new : Machine) (command : Command) (a : ℕ) → IsGoodMachine old → MovingStep old command (Address a) new → a < 2 ^ 64
moving_address old new command a good step = step_address old step.mid command a good step.step

-- ---- what is told of a place

placed_is : (old new : Machine) (command : Command) (reply : Reply) → tells_place command ≡ true → MachineEffect old command reply new → (a : ℕ) × (reply ≡ Address a)
placed_is old new (VmarAllocate region parent offset len flags caps) reply place e = (_, e.0.1)
placed_is old new (VmarMap region offset name vmo_offset len perm flags) reply place e = (_, e.0.1)
placed_is old new command reply place e = absurd cc

-- such a command is answered by an address, or is refused
pub place_cases : (old new : Machine) (command : Command) (reply : Reply) → tells_place command ≡ true → MachineStep old command reply new
    → ((a : ℕ) × (reply ≡ Address a)) ⊎ ((refusal : Refusal) × (reply ≡ Refused refusal))
place_cases old new command reply place step = go (first_of (refusals old.state command)) step.outcome where
  go : (o : Option Refusal) → MachineStepAfter o old command reply new → ((a : ℕ) × (reply ≡ Address a)) ⊎ ((refusal : Refusal) × (reply ≡ Refused refusal))
  go (Some refusal) e = inr (refusal, e.answer)
  go None (inl e) = inl (placed_is old new command reply place e)
  go None (inr e) = inr (_, e.0.answer)

address_line : (a : ℕ) → first_line (Address a) ≡ (codes "OK 0x" ++ digits 16 false a) ++ codes "\n"
unfolding reply_lines
address_line a = refl

-- two addresses of one line are one
pub address_text : (a b : ℕ) → a < 2 ^ 64 → b < 2 ^ 64 → first_line (Address a) ≡ first_line (Address b) → a ≡ b
address_text a b h l e =
    let whole = (same_from_push (codes "OK 0x" ++ digits 16 false a) (codes "OK 0x" ++ digits 16 false b) 10 10 (sym (address_line a) ∙ (e ∙ address_line b))).0 in
    let same = behind_same (digits 16 false a) (digits 16 false b) whole in
    sym (digits_is_IsNumeral 16 false (omega arith) (omega arith) a (omega (arith, h))).1
    ∙ (ap (digits_value 16) same ∙ (digits_is_IsNumeral 16 false (omega arith) (omega arith) b (omega (arith, l))).1) where
      behind_same : (xs ys : List ℕ) → codes "OK 0x" ++ xs ≡ codes "OK 0x" ++ ys → xs ≡ ys
      behind_same xs ys g = cc
