-- Laws of look-ups from a loose child upwards: where they end, and what shows a page.
use Rattle.std.proofs.Common.{◌≡◌, ℕ, zero, suc, ◌<◌, ◌≤◌, ◌⊎◌, inl, inr, ◌&&◌, ◌||◌, ◌==◌, Bool, true, false, cond, Option, None, Some, refl, sym, ap, ◌∙◌, arith}
use Rattle.std.proofs.lemmas.Bool.{cases_Bool, and_parts}
use Rattle.vm_base.specs.Entries.{passes}
use Rattle.vm_base.proofs.SearchLaws.{eqb_same, eqb_is}
use Rattle.source_model.specs.Links.{Below, onwards, end_over, read_end, shows_over}
use Rattle.vm_model.specs.Contents.Owning.{VmoPage}

-- a page goes on to a VMO with a smaller koid
pub record GoesDown (below : Below) : Type 0 where
  pub smaller : (v p : ℕ) (u : VmoPage) → below v p ≡ Some u → u.koid < v

-- what a look-up does at a page
pub end_over-none : (n : ℕ) (below : Below) (at : VmoPage) → below at.koid at.page ≡ None → end_over n below at ≡ at
unfolding end_over
end_over-none zero below at e = refl
end_over-none (suc n) below at e = ap (onwards at (end_over n below)) e

pub end_over-some : (n : ℕ) (below : Below) (at u : VmoPage) → below at.koid at.page ≡ Some u → end_over (suc n) below at ≡ end_over n below u
unfolding end_over
end_over-some n below at u e = ap (onwards at (end_over n below)) e

-- each page goes on or not
pub cases_below : (o : Option VmoPage) → (o ≡ None) ⊎ ((u : VmoPage) × (o ≡ Some u))
cases_below None = inl refl
cases_below (Some u) = inr (u, refl)

module _ (below : Below) (down : GoesDown below) where
  -- a VMO with koid 0 goes on nowhere
  ends_at_zero : (at : VmoPage) → at.koid ≤ 0 → below at.koid at.page ≡ None
  ends_at_zero at h = elim (cases_below (below at.koid at.page)) [
    | inl none ↦ none
    | inr some ↦ absurd (let less = down.smaller at.koid at.page some.0 some.1 in omega (arith, less, h))
  ]

  -- steps beyond the koid change nothing
  pub end_alike : (n m : ℕ) (at : VmoPage) → at.koid ≤ n → at.koid ≤ m → end_over n below at ≡ end_over m below at
  end_alike zero m at h k = let none = ends_at_zero at h in end_over-none zero below at none ∙ sym (end_over-none m below at none)
  end_alike (suc n) zero at h k = let none = ends_at_zero at k in end_over-none (suc n) below at none ∙ sym (end_over-none zero below at none)
  end_alike (suc n) (suc m) at h k = elim (cases_below (below at.koid at.page)) [
    | inl none ↦ end_over-none (suc n) below at none ∙ sym (end_over-none (suc m) below at none)
    | inr some ↦
        let less = down.smaller at.koid at.page some.0 some.1 in
        end_over-some n below at some.0 some.1 ∙ (end_alike n m some.0 (omega (arith, less, h)) (omega (arith, less, k)) ∙ sym (end_over-some m below at some.0 some.1))
  ]

  -- a look-up ends at no greater koid
  pub end_le : (n : ℕ) (at : VmoPage) → (end_over n below at).koid ≤ at.koid
  unfolding end_over
  end_le zero at = omega arith
  end_le (suc n) at = elim (cases_below (below at.koid at.page)) [
    | inl none ↦ let same = ap (λ (u : VmoPage). u.koid) (end_over-none (suc n) below at none) in omega (arith, same)
    | inr some ↦
        let less = down.smaller at.koid at.page some.0 some.1 in
        let same = ap (λ (u : VmoPage). u.koid) (end_over-some n below at some.0 some.1) in
        omega (arith, same, less, end_le n some.0)
  ]

  -- the page that a page goes on to ends where it does
  pub end_through : (v p : ℕ) (u : VmoPage) → below v p ≡ Some u → read_end below v p ≡ read_end below u.koid u.page
  end_through zero p u e = absurd (let less = down.smaller zero p u e in omega (arith, less))
  end_through (suc v) p u e =
      let less = down.smaller (suc v) p u e in
      end_over-some v below (record { koid = suc v; page = p }) u e ∙ end_alike v u.koid u (omega (arith, less)) (omega arith)

-- ---- what shows a page

pub shows-here : (n : ℕ) (below : Below) (v p : ℕ) → shows_over n below v p v p ≡ true
unfolding shows_over
shows-here zero below v p = ap (λ (t : Bool). t && (p == p)) (eqb_same v) ∙ eqb_same p
shows-here (suc n) below v p =
    ap (λ (t : Bool). t || passes (λ (u : VmoPage). shows_over n below v p u.koid u.page) (below v p))
    (ap (λ (t : Bool). t && (p == p)) (eqb_same v) ∙ eqb_same p)

-- a page is the one that is asked for, or is not
module _ (v p w q : ℕ) where
  pub is_page : ((w ≡ v) × (q ≡ p) × (((w == v) && (q == p)) ≡ true)) ⊎ ((w ≡ v → q ≡ p → ⊥) × (((w == v) && (q == p)) ≡ false))
  is_page = elim (cases_Bool ((w == v) && (q == p))) [
    | inl e ↦ let both = and_parts (w == v) (q == p) e in inl (eqb_is w v both.0, eqb_is q p both.1, e)
    | inr e ↦ inr (
      λ a b. absurd (let yes = (ap (λ (k : ℕ). (k == v) && (q == p)) a ∙ (ap (λ (k : ℕ). (v == v) && (k == p)) b
          ∙ (ap (λ (t : Bool). t && (p == p)) (eqb_same v) ∙ eqb_same p))) in cc),
      e,
    )
  ]

-- another page shows it by the page that it goes on to
pub shows-none : (n : ℕ) (below : Below) (v p w q : ℕ) → ((w == v) && (q == p)) ≡ false → below w q ≡ None → shows_over n below v p w q ≡ false
unfolding shows_over passes
shows-none zero below v p w q apart none = apart
shows-none (suc n) below v p w q apart none =
    ap (λ (t : Bool). t || passes (λ (u : VmoPage). shows_over n below v p u.koid u.page) (below w q)) apart
    ∙ ap (passes (λ (u : VmoPage). shows_over n below v p u.koid u.page)) none

pub shows-through : (n : ℕ) (below : Below) (v p w q : ℕ) (u : VmoPage) → ((w == v) && (q == p)) ≡ false → below w q ≡ Some u
    → shows_over (suc n) below v p w q ≡ shows_over n below v p u.koid u.page
unfolding shows_over passes
shows-through n below v p w q u apart e =
    ap (λ (t : Bool). t || passes (λ (x : VmoPage). shows_over n below v p x.koid x.page) (below w q)) apart
    ∙ ap (passes (λ (x : VmoPage). shows_over n below v p x.koid x.page)) e

pub shows-zero : (below : Below) (v p w q : ℕ) → shows_over zero below v p w q ≡ ((w == v) && (q == p))
unfolding shows_over
shows-zero below v p w q = refl

-- what shows a page ends where it does
pub shown_end : (below : Below) → GoesDown below → (n v p w q : ℕ) → w ≤ n → shows_over n below v p w q ≡ true
    → end_over n below (record { koid = w; page = q }) ≡ read_end below v p
shown_end below down zero v p w q h e = elim (is_page v p w q) [
  | inl same ↦ rw (same.0, same.1) (end_alike below down zero v (record { koid = v; page = p }) (omega (arith, h, same.0)) (omega arith))
  | inr apart ↦ absurd (let differs = sym (shows-zero below v p w q ∙ apart.1) ∙ e in cc)
]
shown_end below down (suc n) v p w q h e = elim (is_page v p w q) [
  | inl same ↦ rw (same.0, same.1) (end_alike below down (suc n) v (record { koid = v; page = p }) (omega (arith, h, same.0)) (omega arith))
  | inr apart ↦ elim (cases_below (below w q)) [
    | inl none ↦ absurd (let differs = sym (shows-none (suc n) below v p w q apart.1 none) ∙ e in cc)
    | inr some ↦
        let less = down.smaller w q some.0 some.1 in
        end_over-some n below (record { koid = w; page = q }) some.0 some.1
        ∙ shown_end below down n v p some.0.koid some.0.page (omega (arith, less, h)) (sym (shows-through n below v p w q some.0 apart.1 some.1) ∙ e)
  ]
]

-- what does not show a page does not end there
pub not_shown : (below : Below) (n v p w q : ℕ) → shows_over n below v p w q ≡ false
    → (end_over n below (record { koid = w; page = q })).koid ≡ v → (end_over n below (record { koid = w; page = q })).page ≡ p → ⊥
unfolding end_over
not_shown below zero v p w q e k l = elim (is_page v p w q) [
  | inl same ↦ absurd (let differs = sym (shows-zero below v p w q ∙ same.2) ∙ e in cc)
  | inr apart ↦ apart.0 k l
]
not_shown below (suc n) v p w q e k l = elim (is_page v p w q) [
  | inl same ↦ absurd (let differs : true ≡ false = sym (shows-here (suc n) below v p) ∙ (rw (same.0, same.1) at e) in cc)
  | inr apart ↦ elim (cases_below (below w q)) [
    | inl none ↦
        let here = end_over-none (suc n) below (record { koid = w; page = q }) none in
        apart.0 (sym (ap (λ (u : VmoPage). u.koid) here) ∙ k) (sym (ap (λ (u : VmoPage). u.page) here) ∙ l)
    | inr some ↦
        let on = end_over-some n below (record { koid = w; page = q }) some.0 some.1 in
        not_shown below n v p some.0.koid some.0.page (sym (shows-through n below v p w q some.0 apart.1 some.1) ∙ e)
        (sym (ap (λ (u : VmoPage). u.koid) on) ∙ k) (sym (ap (λ (u : VmoPage). u.page) on) ∙ l)
  ]
]

-- a page that goes on nowhere any more cuts off the look-ups that went through it
pub end_cut : (old new : Below) (v p : ℕ) → new v p ≡ None → ((w q : ℕ) → (w ≡ v → q ≡ p → ⊥) → new w q ≡ old w q) → (n w q : ℕ)
    → end_over n new (record { koid = w; page = q })
    ≡ cond (shows_over n old v p w q) (record { koid = v; page = p }) (end_over n old (record { koid = w; page = q }))
unfolding end_over
end_cut old new v p none others zero w q = elim (is_page v p w q) [
  | inl same ↦ ap (λ (k : ℕ). record { koid = k; page = q }) same.0 ∙ (ap (λ (k : ℕ). record { koid = v; page = k }) same.1
      ∙ sym (ap (λ (t : Bool). cond t (record { koid = v; page = p }) (record { koid = w; page = q })) (shows-zero old v p w q ∙ same.2)))
  | inr apart ↦ sym (ap (λ (t : Bool). cond t (record { koid = v; page = p }) (record { koid = w; page = q })) (shows-zero old v p w q ∙ apart.1))
]
end_cut old new v p none others (suc n) w q = elim (is_page v p w q) [
  | inl same ↦ rw (same.0, same.1) (end_over-none (suc n) new (record { koid = v; page = p }) none
      ∙ sym (ap (λ (t : Bool). cond t (record { koid = v; page = p }) (end_over (suc n) old (record { koid = v; page = p }))) (shows-here (suc n) old v p)))
  | inr apart ↦ elim (cases_below (old w q)) [
    | inl gone ↦
        end_over-none (suc n) new (record { koid = w; page = q }) (others w q apart.0 ∙ gone)
        ∙ sym (ap (λ (t : Bool). cond t (record { koid = v; page = p }) (end_over (suc n) old (record { koid = w; page = q }))) (shows-none (suc n) old v p w q apart.1 gone)
        ∙ end_over-none (suc n) old (record { koid = w; page = q }) gone)
    | inr some ↦
        end_over-some n new (record { koid = w; page = q }) some.0 (others w q apart.0 ∙ some.1)
        ∙ (end_cut old new v p none others n some.0.koid some.0.page
        ∙ sym (ap (λ (t : Bool). cond t (record { koid = v; page = p }) (end_over (suc n) old (record { koid = w; page = q }))) (shows-through n old v p w q some.0 apart.1 some.1)
        ∙ ap (λ (u : VmoPage). cond (shows_over n old v p some.0.koid some.0.page) (record { koid = v; page = p }) u) (end_over-some n old (record { koid = w; page = q }) some.0 some.1)))
  ]
]

-- ---- different pages of one VMO

-- pages of one VMO go on to pages of one VMO, different ones to different ones
pub record AreWindows (below : Below) : Type 0 where
  pub vmo : (v p q : ℕ) (u x : VmoPage) → below v p ≡ Some u → below v q ≡ Some x → u.koid ≡ x.koid
  pub page : (v p q : ℕ) (u x : VmoPage) → below v p ≡ Some u → below v q ≡ Some x → u.page ≡ x.page → p ≡ q

-- so they end at different pages
pub ends_apart : (below : Below) → GoesDown below → AreWindows below → (n v p q : ℕ)
    → end_over n below (record { koid = v; page = p }) ≡ end_over n below (record { koid = v; page = q }) → p ≡ q
unfolding end_over
ends_apart below down windows zero v p q e = ap (λ (u : VmoPage). u.page) e
ends_apart below down windows (suc n) v p q e = elim (cases_below (below v p)) [
  | inl none ↦ elim (cases_below (below v q)) [
    | inl gone ↦ ap (λ (u : VmoPage). u.page) (sym (end_over-none (suc n) below (record { koid = v; page = p }) none) ∙ (e ∙ end_over-none (suc n) below (record { koid = v; page = q }) gone))
    | inr some ↦
        let koid = ap (λ (u : VmoPage). u.koid) (sym (end_over-none (suc n) below (record { koid = v; page = p }) none) ∙ (e ∙ end_over-some n below (record { koid = v; page = q }) some.0 some.1)) in
        let less = down.smaller v q some.0 some.1 in
        absurd (omega (arith, koid, less, end_le below down n some.0))
  ]
  | inr other ↦ elim (cases_below (below v q)) [
    | inl gone ↦
        let koid = ap (λ (u : VmoPage). u.koid) (sym (end_over-some n below (record { koid = v; page = p }) other.0 other.1) ∙ (e ∙ end_over-none (suc n) below (record { koid = v; page = q }) gone)) in
        let less = down.smaller v p other.0 other.1 in
        absurd (omega (arith, koid, less, end_le below down n other.0))
    | inr some ↦
        let same = windows.vmo v p q other.0 some.0 other.1 some.1 in
        let ends = sym (end_over-some n below (record { koid = v; page = p }) other.0 other.1) ∙ (e ∙ end_over-some n below (record { koid = v; page = q }) some.0 some.1) in
        windows.page v p q other.0 some.0 other.1 some.1
        (ends_apart below down windows n other.0.koid other.0.page some.0.page (ends ∙ ap (λ (k : ℕ). end_over n below (record { koid = k; page = some.0.page })) (sym same)))
  ]
]
