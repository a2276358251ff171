-- Laws of the translations once a page was translated.
use Rattle.std.proofs.Common.{◌≡◌, ◌≢◌, ℕ, ◌<◌, Bool, true, false, cond, Option, None, Some, ◌⊎◌, refl, sym, subst, inl, inr}
use Rattle.std.proofs.lemmas.Bool.{and_parts}
use Rattle.std.specs.Prelude.{◌==◌, ◌&&◌, IfSome}
use Rattle.std.specs.Option.{option_map}
use Rattle.vm_base.proofs.SearchLaws.{eqb_is, eqb_same, eqb_apart}
use Rattle.vm_model.specs.declared.space.Entry.{Entry}
use Rattle.vm_model.specs.declared.space.Readiness.{Readiness}
use Rattle.vm_model.specs.declared.space.Readiness.TheVariants.{Write}
use Rattle.vm_model.specs.Contents.Content.{Content, pages_of, sole}
use Rattle.vm_model.specs.Space.Readiness.{frame_at, with_ready}
use Rattle.fault.specs.declared.translation.Translation.{Translation}
use Rattle.fault.specs.Table.{Places, AreTrue, IsOfEntry, ready_of, translated_frame, with_translation}

-- a page that is not translated is not so for another entry
pub IsOfEntry-none : (places : Places) (root page : ℕ) (entry : Entry) → places root page ≡ None → IsOfEntry places root page entry
IsOfEntry-none places root page entry none = subst (λ (o : Option Translation). IfSome o (λ x. x.entry ≡ entry)) (sym none) tt

module _ (places : Places) (root page : ℕ) (x : Translation) where
  -- a translation that stands is the new one, or stood before
  pub with_translation-cases : (r p : ℕ) (y : Translation) → with_translation places root page x r p ≡ Some y
      → ((r ≡ root) × (p ≡ page) × (x ≡ y)) ⊎ (places r p ≡ Some y)
  unfolding with_translation
  with_translation-cases r p y is = go ((r == root) && (p == page)) refl is where
    go : (b : Bool) → ((r == root) && (p == page)) ≡ b → ◌≡◌ {A = Option Translation} (cond b (Some x) (places r p)) (Some y)
        → ((r ≡ root) × (p ≡ page) × (x ≡ y)) ⊎ (places r p ≡ Some y)
    go true here e = let both = and_parts (r == root) (p == page) here in inl (eqb_is r root both.0, eqb_is p page both.1, cc)
    go false other e = inr e

  -- another page's stays
  pub with_translation-other : (p : ℕ) → p ≢ page → with_translation places root page x root p ≡ places root p
  unfolding with_translation
  with_translation-other p apart = rw (eqb_same root, eqb_apart p page apart) refl

  -- the page is ready for what the translation says, and no other page changes
  pub ready_of-with_translation : ready_of (with_translation places root page x) ≡ with_ready (ready_of places) root page x.readiness
  unfolding with_translation with_ready
  ready_of-with_translation = λ i r p. go ((r == root) && (p == page)) (places r p) i where
    go : (b : Bool) (o : Option Translation) → option_map (λ (y : Translation). y.readiness) (cond {A = Option Translation} b (Some x) o)
        ≡ cond {A = Option Readiness} b (Some x.readiness) (option_map (λ (y : Translation). y.readiness) o)
    go true o = refl
    go false o = refl

-- translations stay true with one more that is true
pub AreTrue-with_translation : (c : Content) (table : ℕ → ℕ → Option Entry) (places : Places) (root page : ℕ) (x : Translation)
    → table root page ≡ Some x.entry → translated_frame x ≡ frame_at c x.entry.koid.0 x.entry.page → x.entry.page < pages_of c x.entry.koid.0
    → (x.readiness ≡ Write → sole c x.entry.koid.0 x.entry.page ≡ true)
    → AreTrue c table places → AreTrue c table (with_translation places root page x)
AreTrue-with_translation c table places root page x entry frame below alone old = record {
  entry = each (λ r p y. table r p ≡ Some y.entry) entry old.entry;
  frame = each (λ r p y. translated_frame y ≡ frame_at c y.entry.koid.0 y.entry.page) frame old.frame;
  below = each (λ r p y. y.entry.page < pages_of c y.entry.koid.0) below old.below;
  alone = each (λ r p y. y.readiness ≡ Write → sole c y.entry.koid.0 y.entry.page ≡ true) alone old.alone;
} where
  each : (P : ℕ → ℕ → Translation → Type 0) → P root page x → ((r p : ℕ) (y : Translation) → places r p ≡ Some y → P r p y)
      → (r p : ℕ) (y : Translation) → with_translation places root page x r p ≡ Some y → P r p y
  each P new was r p y is = elim (with_translation-cases places root page x r p y is) [
    | inl here ↦ rw (here.0, here.1, sym here.2) new
    | inr stood ↦ was r p y stood
  ]
