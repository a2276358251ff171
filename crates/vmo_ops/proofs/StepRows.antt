-- Building a step: which row of the refusals is first, and what follows from it.
use Rattle.std.proofs.Common.{arith}
use Rattle.std.proofs.Common.{◌≡◌, ℕ, ◌+◌, ◌*◌, ◌/◌, Bool, false, not, List, ◌∷◌, None, Some, refl, sym, subst, ◌∙◌}
use Rattle.vm_base.specs.declared.names.VmoName.{VmoName}
use Rattle.vm_model.specs.Contents.Content.{Content}
use Rattle.vm_model.specs.Contents.Zeroing.{zeroed}
use Rattle.vm_model.specs.declared.command.Command.TheVariants.{VmoDecommit}
use Rattle.vm_model.specs.declared.reply.Reply.TheVariants.{Done}
use Rattle.vmo_ops.specs.Targets.{IsPlaced}
use Rattle.vm_base.specs.declared.limits.TheConstants.{PAGE}
use Rattle.vm_base.specs.declared.refusal.Refusal.{Refusal}
use Rattle.vm_model.specs.Machine.Words.{Command, Reply}
use Rattle.vm_model.specs.declared.names.Target.{Target}
use Rattle.vm_model.specs.Machine.State.{State, is_open, name_pages, size_of}
use Rattle.vm_model.specs.Machine.Refusals.{refusals, first_of}
use Rattle.vm_model.specs.Machine.Step.{Effect, Step}
use Rattle.vm_model.proofs.NamesLaws.{target_of-at}

-- ---- rows

pub first_of-skip : (condition : Bool) (refusal : Refusal) (rest : List (Bool × Refusal)) → condition ≡ false
    → first_of ((condition, refusal) ∷ rest) ≡ first_of rest
first_of-skip = grind (arith)

-- ---- steps

pub Step-done : (old : State) (command : Command) (reply : Reply) (new : State) → first_of (refusals old command) ≡ None
    → Effect old command reply new → Step old command reply new
Step-done = grind (arith)

-- ---- a name that is open

module _ (s : State) (n : ℕ) (target : Target) (named : s.names n ≡ Some target) where
  pub open_at : not (is_open s n) ≡ false
  open_at = grind (arith)

  pub size_of-at : size_of s n ≡ name_pages s.content target * PAGE
  size_of-at = grind (arith, target_of-at)

  -- a decommit is done, at this place in the VMO
  pub decommit_done : (name : VmoName) → n ≡ name.0 → (offset len at : ℕ) → IsPlaced s.content target offset len at
      → first_of (refusals s (VmoDecommit name offset len)) ≡ None → (d : Content) → d ≡ zeroed s.content target.koid.0 (at / PAGE) ((at + len) / PAGE)
      → Step s (VmoDecommit name offset len) Done (record s { content = d })
  decommit_done name is offset len at placed none d left =
      let from : at / PAGE ≡ (target.first * PAGE + offset) / PAGE = omega (arith, placed.place) in
      let to : (at + len) / PAGE ≡ (target.first * PAGE + (offset + len)) / PAGE = omega (arith, placed.place) in
      let same : d ≡ zeroed s.content target.koid.0 ((target.first * PAGE + offset) / PAGE) ((target.first * PAGE + (offset + len)) / PAGE) =
      left ∙ (λ i. zeroed s.content target.koid.0 (from i) (to i)) in
      Step-done s (VmoDecommit name offset len) Done (record s { content = d }) none
      (subst (λ (t : Target). (◌≡◌ {A = Reply} Done Done) × (record s { content = d } ≡ record s { content = zeroed s.content t.koid.0 ((t.first * PAGE + offset) / PAGE) ((t.first * PAGE + (offset + len)) / PAGE) }))
      (sym (target_of-at s name.0 target (subst (λ (m : ℕ). s.names m ≡ Some target) is named))) (refl, λ i. record s { content = same i }))
