-- How many notes count under a stamp.
use Rattle.std.proofs.Common.{◌≡◌, ℕ, zero, suc, ◌+◌, ◌≤◌, Bool, true, false, not, ◌&&◌, ◌==◌, Option, None, Some, refl, sym, ap, subst, ◌∙◌, inl, inr, arith}
use Rattle.std.specs.Prelude.{nat_lt}
use Rattle.std.proofs.lemmas.Bool.Decides.{nat_tests}
use Rattle.vm_base.specs.Entries.{passes}
use Rattle.vm_model.proofs.ContentLaws.{same_page}
use Rattle.pair_map.specs.Maps.{with_pair}
use Rattle.checker_ready.specs.declared.stamps.Kept.{Kept}
use Rattle.checker_ready.specs.Notes.{counting, HasCount}

-- ---- a number of places

-- the places without one
abbrev pub without_place : (ℕ → ℕ → Bool) → (r q : ℕ) → ℕ → ℕ → Bool
without_place among r q a b = among a b && not ((a == r) && (b == q))

-- the same places are as many
pub count-same : (old new : ℕ → ℕ → Bool) (n : ℕ) → ((r q : ℕ) → old r q ≡ new r q) → HasCount old n → HasCount new n
count-same old new n same count = subst (λ among. HasCount among n) (λ i r q. same r q i) count

-- one place more
pub count-more : (old new : ℕ → ℕ → Bool) (r q n : ℕ) → old r q ≡ false → new r q ≡ true → ((a b : ℕ) → (a ≡ r → b ≡ q → ⊥) → new a b ≡ old a b)
    → HasCount old n → HasCount new (n + 1)
count-more old new r q n out is same count = let next : suc n ≡ n + 1 = omega arith in subst (HasCount new) next (r, q, is, count-same old (without_place new r q) n each count) where
  each : (a b : ℕ) → old a b ≡ without_place new r q a b
  each a b = elim (same_page r q a b) [
    | inl here ↦
        let was : old a b ≡ false = (λ i. old (here.0 i) (here.1 i)) ∙ out in
        let hit : ((a == r) && (b == q)) ≡ true = grind (arith, nat_tests) in
        was ∙ grind (arith, nat_tests)
    | inr apart ↦
        let stays : new a b ≡ old a b = same a b apart in
        let miss : ((a == r) && (b == q)) ≡ false = grind (arith, nat_tests) in
        grind (arith, nat_tests)
  ]

-- one place less
pub count-less : (n : ℕ) (among : ℕ → ℕ → Bool) (r q : ℕ) → HasCount among n → among r q ≡ true → (m : ℕ) × (n ≡ suc m) × HasCount (without_place among r q) m
count-less zero among r q count is = absurd (let none = count r q in cc)
count-less (suc n) among r q count is = elim (same_page count.0 count.1 r q) [
  | inl here ↦ (n, refl, subst (λ s. HasCount s n) (λ i. without_place among (sym here.0 i) (sym here.1 i)) count.3)
  | inr apart ↦
      let other : without_place among count.0 count.1 r q ≡ true = grind (arith, nat_tests) in
      let less = count-less n (without_place among count.0 count.1) r q count.3 other in
      let first : without_place among r q count.0 count.1 ≡ true = kept among r q count.0 count.1 count.2 (λ a b. apart (sym a) (sym b)) in (
        n,
        refl,
        subst (HasCount (without_place among r q)) (sym less.1)
            (count.0, count.1, first, count-same (without_place (without_place among count.0 count.1) r q) (without_place (without_place among r q) count.0 count.1) less.0 (λ a b. turned among r q count.0 count.1 a b) less.2),
      )
]
  where
    kept : (among : ℕ → ℕ → Bool) (r q a b : ℕ) → among a b ≡ true → (a ≡ r → b ≡ q → ⊥) → without_place among r q a b ≡ true
    kept among r q a b is apart = grind (arith, nat_tests)

    turned : (among : ℕ → ℕ → Bool) (r q s t a b : ℕ) → without_place (without_place among s t) r q a b ≡ without_place (without_place among r q) s t a b
    turned among r q s t a b = bits (among a b) ((a == s) && (b == t)) ((a == r) && (b == q)) where
      bits : (x y z : Bool) → ((x && not y) && not z) ≡ ((x && not z) && not y)
      bits true true true = refl
      bits true true false = refl
      bits true false true = refl
      bits true false false = refl
      bits false y z = refl

-- none
pub count-none : (n : ℕ) (among : ℕ → ℕ → Bool) → HasCount among n → n ≡ 0 → (r q : ℕ) → among r q ≡ false
count-none zero among count none r q = count r q
count-none (suc n) among count none r q = absurd (omega arith)

-- one or more
pub count-some : (n : ℕ) (among : ℕ → ℕ → Bool) → HasCount among n → 1 ≤ n → (r : ℕ) × (q : ℕ) × (among r q ≡ true)
count-some zero among count some = absurd (omega arith)
count-some (suc n) among count some = (count.0, count.1, count.2)

-- the places without one that is not among them
pub without-none : (among : ℕ → ℕ → Bool) (r q : ℕ) → among r q ≡ false → (a b : ℕ) → without_place among r q a b ≡ among a b
without-none among r q none a b = elim (same_page r q a b) [
  | inl here ↦
      let was : among a b ≡ false = (λ i. among (here.0 i) (here.1 i)) ∙ none in
      grind (arith, nat_tests)
  | inr apart ↦ grind (arith, nat_tests)
]

-- ---- the notes that count under a stamp

-- the note is of page p of the VMO v, and was made at this time or later
abbrev pub counts : (v p since : ℕ) → Kept → Bool
counts v p since kept = (kept.koid.0 == v) && (kept.page == p) && not (nat_lt kept.made since)

-- a note of the page that was made in time
pub counts-is : (k : Kept) (v p since : ℕ) → k.koid.0 ≡ v → k.page ≡ p → nat_lt k.made since ≡ false → counts v p since k ≡ true
counts-is k v p since koid page new = grind (arith, nat_tests)

-- one of another page
pub counts-apart : (k : Kept) (v p since : ℕ) → (v ≡ k.koid.0 → p ≡ k.page → ⊥) → counts v p since k ≡ false
counts-apart k v p since apart = grind (arith, nat_tests)

-- one from before
pub counts-old : (k : Kept) (v p since : ℕ) → nat_lt k.made since ≡ true → counts v p since k ≡ false
counts-old k v p since old = grind (arith, nat_tests)

-- one that does not count is of another page, or from before
pub counts-not : (k : Kept) (v p since : ℕ) → counts v p since k ≡ false → k.koid.0 ≡ v → k.page ≡ p → nat_lt k.made since ≡ true
counts-not k v p since not_counted koid page = go (nat_lt k.made since) refl where
  go : (b : Bool) → nat_lt k.made since ≡ b → b ≡ true
  go true e = refl
  go false e = absurd (let is = counts-is k v p since koid page e in cc)

-- the note at a place
pub counting-at : (places : ℕ → ℕ → Option Kept) (v p since r q : ℕ) (o : Option Kept) → places r q ≡ o → counting places v p since r q ≡ passes (counts v p since) o
counting-at places v p since r q o e = ap (passes (counts v p since)) e

module _ (old : ℕ → ℕ → Option Kept) (new : ℕ → ℕ → Option Kept) (root at : ℕ) where
  -- a place loses its note
  pub counting-dropped : new ≡ with_pair old root at None → (v p since r q : ℕ) → without_place (counting old v p since) root at r q ≡ counting new v p since r q
  unfolding with_pair passes
  counting-dropped gone v p since r q = go ((r == root) && (q == at)) refl ∙ sym (ap (λ (map : ℕ → ℕ → Option Kept). counting map v p since r q) gone) where
    go : (hit : Bool) → ((r == root) && (q == at)) ≡ hit → without_place (counting old v p since) root at r q ≡ counting (with_pair old root at None) v p since r q
    go true here = rw here (bit (counting old v p since r q)) where
      bit : (b : Bool) → (b && false) ≡ false
      bit true = refl
      bit false = refl
    go false miss = rw miss (bit (counting old v p since r q)) where
      bit : (b : Bool) → (b && true) ≡ b
      bit true = refl
      bit false = refl

  -- a place gets a note
  pub counting-here : (k : Kept) → new ≡ with_pair old root at (Some k) → (v p since : ℕ) → counting new v p since root at ≡ counts v p since k
  unfolding with_pair passes
  counting-here k put v p since =
      let here : ((root == root) && (at == at)) ≡ true = grind (arith, nat_tests) in
      ap (λ (map : ℕ → ℕ → Option Kept). counting map v p since root at) put ∙ rw here refl

  pub counting-other : (k : Kept) → new ≡ with_pair old root at (Some k) → (v p since r q : ℕ) → (r ≡ root → q ≡ at → ⊥) → counting new v p since r q ≡ counting old v p since r q
  unfolding with_pair passes
  counting-other k put v p since r q apart =
      let miss : ((r == root) && (q == at)) ≡ false = grind (arith, nat_tests) in
      ap (λ (map : ℕ → ℕ → Option Kept). counting map v p since r q) put ∙ rw miss refl
