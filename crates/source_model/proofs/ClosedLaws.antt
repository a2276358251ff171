-- Laws of a name that is closed: what lives without it stays.
use Rattle.std.proofs.Common.{◌≡◌, ℕ, inl, inr, Option, None, Some, refl, sym, ap, subst, ◌∙◌}
use Rattle.std.specs.Prelude.{IsSome, is_some}
use Rattle.vm_base.specs.declared.names.VmoName.{VmoName}
use Rattle.vm_base.specs.declared.refusal.Refusal.{Refusal}
use Rattle.vm_base.specs.Entries.{without_key}
use Rattle.vm_base.proofs.EntryLaws.{without_key-some}
use Rattle.vm_model.specs.Machine.Words.{Reply}
use Rattle.vm_model.specs.Machine.Refusals.{first_of}
use Rattle.source_model.specs.declared.command.SourceCommand.TheVariants.{Close}
use Rattle.source_model.specs.State.{SourceState}
use Rattle.source_model.specs.Living.{LivesBy, by_name, by_child, StaysAt}
use Rattle.source_model.specs.Commands.{SourceStep, SourceStepAfter, source_refusals}
use Rattle.source_model.specs.Good.{IsGoodSources}

-- what lives without a name is there
lives_there : (s : SourceState) (name v : ℕ) → IsGoodSources s → LivesBy (without_key s.names name) s.link v → IsSome (s.content.count v)
lives_there s name v good (by_name n u e) = good.known n v (without_key-some s.names name n v e).1
lives_there s name v good (by_child w u l e f live) = subst (λ (k : ℕ). IsSome (s.content.count k)) f (good.link w l e).vmo

StaysAt-same : (old new : SourceState) (v : ℕ) → new ≡ old → StaysAt old new v
StaysAt-same old new v e =
    subst (λ (s : SourceState). StaysAt old s v) (sym e) (record { count = refl; page = λ p. refl; backing = refl; link = refl; text = λ p. refl })

pub closed_stays : (old new : SourceState) (name : VmoName) (reply : Reply) → IsGoodSources old → SourceStep old (Close name) reply new → (v : ℕ)
    → LivesBy (without_key old.names name.0) old.link v → IsSome (new.content.count v) × StaysAt old new v
closed_stays old new name reply good step v live = (ap is_some stays.count ∙ lives_there old name.0 v good live, stays) where
  go : (o : Option Refusal) → SourceStepAfter o old (Close name) reply new → StaysAt old new v
  go (Some refusal) refused = StaysAt-same old new v refused.same
  go None (inr lacked) = StaysAt-same old new v lacked.0.same
  go None (inl effect) = elim (effect.1.each v) [
    | inl both ↦ record { count = both.1.count; page = both.1.page; backing = both.1.backing; link = both.1.link; text = both.1.text }
    | inr gone ↦ absurd (gone.0 live)
  ]

  stays : StaysAt old new v
  stays = go (first_of (source_refusals old (Close name))) step.outcome
