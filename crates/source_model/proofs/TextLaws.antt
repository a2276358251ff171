-- Laws of texts: that paging changes none.
use Rattle.std.proofs.Common.{◌≡◌, ℕ, Bool, true, false, cond, List, [], ◌∷◌, map, Option, None, Some, ap, refl, inl, inr, ◌∙◌}
use Rattle.vm_base.specs.declared.names.VmoName.{VmoName}
use Rattle.vm_base.specs.declared.refusal.Refusal.{Refusal}
use Rattle.vm_base.specs.Pages.{replaced}
use Rattle.vm_model.specs.Machine.Words.{Reply}
use Rattle.vm_model.specs.Machine.Refusals.{first_of}
use Rattle.source_model.specs.Words.{SourceCommand}
use Rattle.source_model.specs.declared.command.SourceCommand.TheVariants.{Read, Supply, Evict}
use Rattle.source_model.specs.Links.{shows_through}
use Rattle.vm_model.specs.Contents.Owning.{VmoPage}
use Rattle.source_model.specs.State.{SourceState, below_of, pushed, supply_of, FillsEach}
use Rattle.source_model.specs.Commands.{SourceStep, SourceStepAfter, SourceEffect, source_refusals}
use Rattle.source_model.proofs.FillingLaws.{replaced-none}

pub pushed-none : (s : SourceState) (v p w q : ℕ) → pushed s (supply_of v p) w q ≡ s.text w q
unfolding pushed
pushed-none s v p w q = go (shows_through (below_of s) v p w q) where
  go : (bit : Bool) → cond bit (replaced (s.text w q) 0 []) (s.text w q) ≡ s.text w q
  go true = replaced-none (s.text w q)
  go false = refl

pub supplies_stay : {A : Type 0} (of : A → VmoPage) (old new : SourceState) (xs : List A) → FillsEach old (map (λ x. supply_of (of x).koid (of x).page) xs) new → (w q : ℕ) → new.text w q ≡ old.text w q
supplies_stay of old new [] fills w q = ap (λ (s : SourceState). s.text w q) fills
supplies_stay of old new (x ∷ xs) fills w q =
    supplies_stay of fills.0 new xs fills.2 w q ∙ (ap (λ (s : SourceState). s.text w q) fills.1.rest ∙ pushed-none old (of x).koid (of x).page w q)

stays_by : (old new : SourceState) (command : SourceCommand) (reply : Reply) → (SourceEffect old command reply new → new.text ≡ old.text) → SourceStep old command reply new → new.text ≡ old.text
stays_by old new command reply effect_stays step = go (first_of (source_refusals old command)) step.outcome where
  go : (o : Option Refusal) → SourceStepAfter o old command reply new → new.text ≡ old.text
  go (Some refusal) refused = ap (λ (s : SourceState). s.text) refused.same
  go None (inr lacked) = ap (λ (s : SourceState). s.text) lacked.0.same
  go None (inl effect) = effect_stays effect

pub read_stays : (old new : SourceState) (name : VmoName) (offset len : ℕ) (reply : Reply) → SourceStep old (Read name offset len) reply new → new.text ≡ old.text
read_stays old new name offset len reply step =
    stays_by old new (Read name offset len) reply (λ effect i w q. supplies_stay (λ (at : VmoPage). at) old new _ effect.1 w q i) step

pub supply_stays : (old new : SourceState) (name : VmoName) (offset len : ℕ) (reply : Reply) → SourceStep old (Supply name offset len) reply new → new.text ≡ old.text
supply_stays old new name offset len reply step =
    stays_by old new (Supply name offset len) reply (λ effect i w q. supplies_stay (λ p. record { koid = _; page = p }) old new _ effect.1 w q i) step

pub evict_stays : (old new : SourceState) (name : VmoName) (offset len : ℕ) (reply : Reply) → SourceStep old (Evict name offset len) reply new → new.text ≡ old.text
evict_stays old new name offset len reply step = stays_by old new (Evict name offset len) reply (λ effect. ap (λ (s : SourceState). s.text) effect.1) step
