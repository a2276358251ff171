-- The frames in use, as frames are taken and given back.
use Rattle.cow_fork.proofs.Words.{◌≡◌, ℕ, Bool, true, false, List, Some, refl, sym, ap, ◌∙◌, subst, inl, inr, ◌&&◌, ◌||◌, not, is_some}
use Rattle.cow_fork.proofs.Words.{cases_eq, eq-eqb, eqb_apart, without_key, with_key-here, with_key-other, without_key-same}
use Rattle.cow_fork.proofs.Words.{without_key-other, Pool, Takes, taken_frames, is_taken, with_frame, without_frame}

-- a frame comes or goes
pub with_frame-same : (in_use : ℕ → Bool) (tag : ℕ) → with_frame in_use (Some tag) tag ≡ true
unfolding with_frame
with_frame-same in_use tag = ap (λ (b : Bool). b || in_use tag) (eq-eqb tag tag refl)

pub with_frame-other : (in_use : ℕ → Bool) (tag t : ℕ) → (t ≡ tag → ⊥) → with_frame in_use (Some tag) t ≡ in_use t
unfolding with_frame
with_frame-other in_use tag t apart = ap (λ (b : Bool). b || in_use t) (eqb_apart t tag apart)

pub without_frame-same : (in_use : ℕ → Bool) (tag : ℕ) → without_frame in_use (Some tag) tag ≡ false
unfolding without_frame
without_frame-same in_use tag = ap (λ (b : Bool). not b && in_use tag) (eq-eqb tag tag refl)

pub without_frame-other : (in_use : ℕ → Bool) (tag t : ℕ) → (t ≡ tag → ⊥) → without_frame in_use (Some tag) t ≡ in_use t
unfolding without_frame
without_frame-other in_use tag t apart = ap (λ (b : Bool). not b && in_use t) (eqb_apart t tag apart)

-- a frame in use that goes and comes again is in use as before
pub with_frame-back : (in_use : ℕ → Bool) (tag : ℕ) → in_use tag ≡ true → (t : ℕ) →
    with_frame (without_frame in_use (Some tag)) (Some tag) t ≡ in_use t
with_frame-back in_use tag used t = elim (cases_eq t tag) [
  | inl same ↦
      subst (λ n. with_frame (without_frame in_use (Some tag)) (Some tag) n ≡ in_use n) (sym same)
      (with_frame-same (without_frame in_use (Some tag)) tag ∙ sym used)
  | inr apart ↦ with_frame-other (without_frame in_use (Some tag)) tag t apart ∙ without_frame-other in_use tag t apart
]

-- a frame that is taken is in use then, and was not before
pub taken-with : (old new : Pool) (tag : ℕ) (bytes : List ℕ) → Takes old new tag bytes → (t : ℕ) →
    with_frame (is_taken old) (Some tag) t ≡ is_taken new t
taken-with old new tag bytes takes t = elim (cases_eq t tag) [
  | inl same ↦
      ap (with_frame (is_taken old) (Some tag)) same ∙ with_frame-same (is_taken old) tag
      ∙ sym (ap (λ map. is_some (map t)) takes.taken ∙ ap is_some (with_key-here (taken_frames old) tag bytes t same))
  | inr apart ↦
      with_frame-other (is_taken old) tag t apart
      ∙ sym (ap (λ map. is_some (map t)) takes.taken ∙ ap is_some (with_key-other (taken_frames old) tag bytes t apart))
]

pub taken-unused : (old new : Pool) (tag : ℕ) (bytes : List ℕ) → Takes old new tag bytes → is_taken old tag ≡ false
taken-unused old new tag bytes takes = ap is_some takes.was_free

-- a frame that is given back is in use no more
pub given-without : (old new : Pool) (tag : ℕ) → taken_frames new ≡ without_key (taken_frames old) tag → (t : ℕ) →
    without_frame (is_taken old) (Some tag) t ≡ is_taken new t
given-without old new tag given t = elim (cases_eq t tag) [
  | inl same ↦
      ap (without_frame (is_taken old) (Some tag)) same ∙ without_frame-same (is_taken old) tag
      ∙ sym (ap (λ map. is_some (map t)) given ∙ ap is_some (ap (without_key (taken_frames old) tag) same ∙ without_key-same (taken_frames old) tag))
  | inr apart ↦
      without_frame-other (is_taken old) tag t apart
      ∙ sym (ap (λ map. is_some (map t)) given ∙ ap is_some (without_key-other (taken_frames old) tag t apart))
]

-- the same frames are in use where the same are taken
pub taken-same : (old new : Pool) → taken_frames new ≡ taken_frames old → (t : ℕ) → is_taken old t ≡ is_taken new t
taken-same old new same t = sym (ap (λ map. is_some (map t)) same)
