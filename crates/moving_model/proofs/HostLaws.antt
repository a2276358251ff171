-- Laws of want of memory: it comes only where nothing refuses and the command may want memory.
use Rattle.std.proofs.Common.{◌≡◌, ◌≢◌, ℕ, Bool, true, false, cond, not, ◌||◌, List, [], ◌∷◌, length, Option, None, Some, refl, sym, ap, subst, ◌∙◌, inl, inr}
use Rattle.std.specs.Prelude.{nat_lt, unwrap_or}
use Rattle.std.specs.Option.{option_or}
use Rattle.std.specs.List.{list_any}
use Rattle.vm_base.specs.declared.refusal.Refusal.{Refusal}
use Rattle.vm_base.specs.declared.refusal.Refusal.TheVariants.{HostMemory, AccessDenied, OutOfRange, NotFound}
use Rattle.vm_base.proofs.EntryLaws.{some_same}
use Rattle.vm_model.specs.Machine.Words.{Command, Reply}
use Rattle.vm_model.specs.declared.command.Command.TheVariants.{VmoChild, MemRead, MemWrite}
use Rattle.vm_model.specs.declared.command.ChildKind.TheVariants.{Snapshot, Slice, Reference}
use Rattle.vm_model.specs.declared.reply.Reply.TheVariants.{Refused}
use Rattle.vm_model.specs.declared.space.Entry.{Entry}
use Rattle.vm_model.specs.Contents.Content.{Content, pages_of}
use Rattle.vm_model.specs.Contents.Writing.{touched}
use Rattle.vm_model.specs.Space.Rights.{has, reading, writing}
use Rattle.vm_model.specs.Machine.State.{State}
use Rattle.vm_model.specs.Machine.Access.{refusal_at, access_refusal}
use Rattle.vm_model.specs.Machine.Refusals.{refusals, first_of}
use Rattle.vm_model.specs.Machine.Machine.{Machine}
use Rattle.vm_model.specs.Machine.MachineStep.{may_want_memory, MachineStepAfter, MachineStep}
use Rattle.moving_model.proofs.OutcomeLaws.{not_refused}

-- the refusal is want of memory
abbrev pub is_host : Refusal → Bool
is_host HostMemory = true
is_host _ = false

-- an access is not refused so
page_host : (c : Content) (right : ℕ) (o : Option Entry) → is_host (unwrap_or (refusal_at c right o) NotFound) ≡ false
unfolding refusal_at
page_host c right None = refl
page_host c right (Some entry) = go (has entry.perm.0 right) (nat_lt entry.page (pages_of c entry.koid.0)) where
  go : (may inside : Bool) → is_host (unwrap_or (cond (not may) (Some AccessDenied) (cond inside None (Some OutOfRange))) NotFound) ≡ false
  go false inside = refl
  go true false = refl
  go true true = refl

access_host : (c : Content) (right : ℕ) (entries : ℕ → Option Entry) (ps : List ℕ) → is_host (unwrap_or (access_refusal c right entries ps) NotFound) ≡ false
unfolding access_refusal
access_host c right entries [] = refl
access_host c right entries (p ∷ ps) = first (refusal_at c right (entries p)) (access_refusal c right entries ps) (page_host c right (entries p)) (access_host c right entries ps) where
  first : (o rest : Option Refusal) → is_host (unwrap_or o NotFound) ≡ false → is_host (unwrap_or rest NotFound) ≡ false → is_host (unwrap_or (option_or o rest) NotFound) ≡ false
  first None rest e f = f
  first (Some refusal) rest e f = e

-- no row of refusals is want of memory
no_host : (s : State) (command : Command) → list_any (λ row. is_host row.1) (refusals s command) ≡ false
no_host s (VmoChild name parent Snapshot offset size resizable no_write) = refl
no_host s (VmoChild name parent Slice offset size resizable no_write) = refl
no_host s (VmoChild name parent Reference offset size resizable no_write) = refl
no_host s (MemRead region addr len) = ap (λ (b : Bool). b || false) (access_host s.content reading (s.spaces.table region.0) (touched addr len))
no_host s (MemWrite region addr bytes) = ap (λ (b : Bool). b || false) (access_host s.content writing (s.spaces.table region.0) (touched addr (length bytes)))
no_host s _ = refl

first_host : (rows : List (Bool × Refusal)) → list_any (λ row. is_host row.1) rows ≡ false → first_of rows ≢ Some HostMemory
first_host [] none e = absurd cc
first_host (row ∷ rows) none e = go row.0 e (first_host rows) (parts (is_host row.1) _ none) where
  parts : (a b : Bool) → (a || b) ≡ false → (a ≡ false) × (b ≡ false)
  parts true b f = absurd cc
  parts false b f = (refl, f)

  go : (b : Bool) → cond b (Some row.1) (first_of rows) ≡ Some HostMemory → (list_any (λ row. is_host row.1) rows ≡ false → first_of rows ≢ Some HostMemory)
      → (is_host row.1 ≡ false) × (list_any (λ row. is_host row.1) rows ≡ false) → ⊥
  go true f rest none = absurd (let same = ap is_host (some_same f) in let off = none.0 in cc)
  go false f rest none = rest none.1 f

refused_same : {a b : Refusal} → ◌≡◌ {A = Reply} (Refused a) (Refused b) → a ≡ b
refused_same e = cc

-- Want of memory comes only so, and leaves the machine as it is.
abbrev pub MayLack : Machine → Command → Machine → Type 0
MayLack old command new = (first_of (refusals old.state command) ≡ None) × (may_want_memory old command ≡ true) × (new ≡ old)

pub lack_only : (old new : Machine) (command : Command) → MachineStep old command (Refused HostMemory) new → MayLack old command new
lack_only old new command step = go (first_of (refusals old.state command)) refl step.outcome where
  go : (o : Option Refusal) → first_of (refusals old.state command) ≡ o → MachineStepAfter o old command (Refused HostMemory) new → MayLack old command new
  go (Some refusal) e refused = absurd (first_host (refusals old.state command) (no_host old.state command) (e ∙ ap (λ (a : Refusal). Some a) (sym (refused_same refused.answer))))
  go None e (inl effect) = absurd (not_refused old new command (Refused HostMemory) HostMemory effect refl)
  go None e (inr lacked) = (e, lacked.1, lacked.0.same)

-- and it may come so
pub lack_may : (old : Machine) (command : Command) → first_of (refusals old.state command) ≡ None → may_want_memory old command ≡ true → MachineStep old command (Refused HostMemory) old
lack_may old command none may =
    record { outcome = subst (λ (o : Option Refusal). MachineStepAfter o old command (Refused HostMemory) old) (sym none) (inr (record { answer = refl; same = refl }, may)) }
