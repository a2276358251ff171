-- A pin as a step of the machine.
use Rattle.std.proofs.Common.{◌≡◌, ℕ, ◌+◌, ◌%◌, ◌*◌, ◌<◌, ◌==◌, ◌&&◌, ◌||◌, not, false, cond, ◌^◌, List, Option, None, Some, arith, rules}
use Rattle.vm_base.specs.Entries.{with_key}
use Rattle.vm_base.specs.declared.limits.TheConstants.{NAMES, PAGE, PIN_PAGES}
use Rattle.vm_base.specs.declared.names.PinName.{PinName}
use Rattle.vm_base.specs.declared.names.VmoName.{VmoName}
use Rattle.vm_model.specs.declared.command.Command.TheVariants.{VmoPin}
use Rattle.vm_model.specs.declared.names.Target.{Target}
use Rattle.vm_model.specs.declared.reply.Reply.TheVariants.{Pins}
use Rattle.vm_model.specs.Contents.Content.{Content}
use Rattle.vm_model.specs.Contents.Owning.{OwnsAll}
use Rattle.vm_model.specs.Contents.Writing.{touched}
use Rattle.vm_model.specs.Machine.State.{State, target_of}
use Rattle.vm_model.specs.Machine.Step.{Step, frames_of}
use Rattle.vm_model.specs.Naming.Pins.{Pin}
use Rattle.vm_model.proofs.PinLaws.{pin_count_le}
use Rattle.vm_model.proofs.SpaceLaws.{mapped_count_le}
use Rattle.vmo_table.specs.Table.{Vmos, keepers_of, CountsKeepers}
use Rattle.vmo_ops.specs.inside.Pinning.{pin_in, IsPinnable, IsPinRange}
use Rattle.vmo_ops.specs.Targets.{IsPlaced}
use Rattle.vmo_ops.proofs.KeeperLaws.{pin_count-with_key}
use Rattle.vmo_ops.proofs.AskLaws.{whole_parts}
use Rattle.std.specs.Prelude.{nat_lt}
use Rattle.std.proofs.lemmas.Bool.{or_parts, not-false, eqb-false, ltb-false}

module _ (s : State) (pin : PinName) (name : VmoName) (offset len : ℕ) (target : Target) (named : s.names name.0 ≡ Some target) (free : s.pins pin.0 ≡ None) where
  pub pinned_step : (at spare : ℕ) (d : Content) (numbers : List ℕ) → IsPinnable s.content target offset len at spare
      → OwnsAll s.content target.koid.0 (touched at len) d → numbers ≡ frames_of d (pin_in target.koid.0 at len)
      → Step s (VmoPin pin name offset len) (Pins numbers) (record s { content = d; pins = with_key s.pins pin.0 (pin_in target.koid.0 at len) })
  unfolding target_of
  pinned_step at spare d numbers can owns are = search rules

-- a range that a pin takes
pub pin_range : (offset len : ℕ) → (not (offset % PAGE == 0 && len % PAGE == 0) || (len == 0 || nat_lt (PIN_PAGES * PAGE) len)) ≡ false → IsPinRange offset len
pin_range offset len e =
    let outer = or_parts (not (offset % PAGE == 0 && len % PAGE == 0)) _ e in
    let whole = whole_parts offset len (not-false _ outer.0) in
    let count = or_parts (len == 0) (nat_lt (PIN_PAGES * PAGE) len) outer.1 in
    (whole.0, whole.1, omega (arith, eqb-false len 0 count.0), ltb-false (PIN_PAGES * PAGE) len count.1)

-- one pin more, and one keeper of its VMO
pub pinned_counts : (s : State) (old new : Vmos) (pins : ℕ → Option Pin) (n : ℕ) (pin : Pin) → n < NAMES → pins n ≡ None
    → ((v : ℕ) → keepers_of new v ≡ keepers_of old v + cond (v == pin.koid) 1 0)
    → CountsKeepers old (record s { pins = pins }) → CountsKeepers new (record s { pins = with_key pins n pin })
pinned_counts s old new pins n pin low free keepers counted = λ v. omega (arith, counted v, keepers v, pin_count-with_key pins n pin v low free)

-- and there is room for a count of one keeper more
pub few_keepers : (s : State) (t : Vmos) (v : ℕ) → CountsKeepers t s → keepers_of t v + 1 < 2 ^ 128
few_keepers s t v counted = omega (arith, counted v, pin_count_le s.pins v, mapped_count_le s.spaces v)

-- a range of a name that is a pin's is one in its VMO too
pub placed_range : (c : Content) (target : Target) (offset len at : ℕ) → IsPlaced c target offset len at → IsPinRange offset len → IsPinRange at len
placed_range c target offset len at placed range = (omega (arith, placed.place, range.0), range.1, range.2, range.3)
