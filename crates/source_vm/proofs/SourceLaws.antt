-- Laws of the bytes of a page of a source: the first of them determines the others.
use Rattle.std.proofs.Common.{◌≡◌, ◌≢◌, ℕ, zero, suc, ◌+◌, ◌*◌, ◌/◌, ◌%◌, ◌<◌, ◌==◌, ◌∷◌, Bool, cond, List, map, replicate, refl, sym, ap, ◌∙◌, arith}
use Rattle.std.specs.List.{range_with_len}
use Rattle.vm_base.specs.declared.limits.TheConstants.{PAGE}
use Rattle.vm_base.proofs.SearchLaws.{eqb_apart}
use Rattle.source_model.specs.Sources.{source_byte, source_page}

-- two maps over ranges of one length are the same where they agree at each place
pub map-ranges : (f g : ℕ → ℕ) (a b n : ℕ) → ((k : ℕ) → k < n → f (a + k) ≡ g (b + k)) → map f (range_with_len a n) ≡ map g (range_with_len b n)
map-ranges f g a b zero same = refl
map-ranges f g a b (suc n) same =
    let first : f a ≡ g b = ap f (omega arith) ∙ (same 0 (omega arith) ∙ ap g (omega arith)) in
    let rest = map-ranges f g (a + 1) (b + 1) n (λ k less. ap f (omega arith) ∙ (same (k + 1) (omega arith) ∙ ap g (omega arith))) in
    ap (λ (x : ℕ). x ∷ map f (range_with_len (a + 1) n)) first ∙ ap (λ (xs : List ℕ). g b ∷ xs) rest

-- a map that is the same throughout a range
pub map-same : (g : ℕ → ℕ) (x b n : ℕ) → ((k : ℕ) → k < n → x ≡ g (b + k)) → replicate n x ≡ map g (range_with_len b n)
map-same g x b zero same = refl
map-same g x b (suc n) same =
    let first : x ≡ g b = same 0 (omega arith) ∙ ap g (omega arith) in
    let rest = map-same g x (b + 1) n (λ k less. same (k + 1) (omega arith) ∙ ap g (omega arith)) in
    ap (λ (y : ℕ). y ∷ replicate n x) first ∙ ap (λ (xs : List ℕ). g b ∷ xs) rest

-- the bytes of a source of kind 1 count up
byte-counted : (kind seed at first k : ℕ) → kind ≡ 1 → first ≡ source_byte kind seed at → (first + k) % 256 ≡ source_byte kind seed (at + k)
unfolding source_byte
byte-counted kind seed at first k one is =
    let start : first ≡ (seed + at) % 256 = is ∙ ap (λ (n : ℕ). source_byte n seed at) one in
    let sum : (first + k) % 256 ≡ (seed + (at + k)) % 256 = omega (arith, start) in
    sum ∙ ap (λ (n : ℕ). source_byte n seed (at + k)) (sym one)

-- those of a page of another source are the same
byte-same : (kind seed page k : ℕ) → kind ≢ 1 → k < PAGE → source_byte kind seed (page * PAGE) ≡ source_byte kind seed (page * PAGE + k)
unfolding source_byte
byte-same kind seed page k other less =
    let not_one = eqb_apart kind 1 other in
    let quotient : page * PAGE / PAGE ≡ (page * PAGE + k) / PAGE = omega arith in
    ap (λ (b : Bool). cond (kind == 0) (seed % 256) (cond b ((seed + page * PAGE) % 256) ((seed + page * PAGE / PAGE) % 256))) not_one
    ∙ (ap (λ (q : ℕ). cond (kind == 0) (seed % 256) ((seed + q) % 256)) quotient
    ∙ sym (ap (λ (b : Bool). cond (kind == 0) (seed % 256) (cond b ((seed + (page * PAGE + k)) % 256) ((seed + (page * PAGE + k) / PAGE) % 256))) not_one))

-- the bytes of a page, by the first
pub page-counted : (kind seed page first : ℕ) → kind ≡ 1 → first ≡ source_byte kind seed (page * PAGE)
    → map (λ i. (first + i) % 256) (range_with_len 0 PAGE) ≡ source_page kind seed page
unfolding source_page
page-counted kind seed page first one is =
    map-ranges (λ i. (first + i) % 256) (source_byte kind seed) 0 (page * PAGE) PAGE (λ k less.
    let plain : 0 + k ≡ k = omega arith in
    ap (λ (j : ℕ). (first + j) % 256) plain ∙ byte-counted kind seed (page * PAGE) first k one is)

pub page-same : (kind seed page first : ℕ) → kind ≢ 1 → first ≡ source_byte kind seed (page * PAGE)
    → replicate PAGE first ≡ source_page kind seed page
unfolding source_page
page-same kind seed page first other is =
    map-same (source_byte kind seed) first (page * PAGE) PAGE (λ k less. is ∙ byte-same kind seed page k other less)
