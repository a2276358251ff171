-- The pages that show a page are those that a write to it comes to.
use Rattle.std.proofs.Common.{◌≡◌, ℕ, zero, suc, ◌+◌, ◌≤◌, inl, inr, true, Some, sym, ap, ◌∙◌, arith}
use Rattle.source_model.specs.Links.{Below, shows_over, shows_through}
use Rattle.vm_model.specs.Contents.Owning.{VmoPage}
use Rattle.source_model.specs.State.{SourceState, below_of}
use Rattle.source_model.specs.Reaching.{WriteReaches, at_page, to_child}
use Rattle.source_model.proofs.WalkLaws.{GoesDown, cases_below, is_page, shows-here, shows-none, shows-through, shows-zero}
use Rattle.source_model.proofs.LinkLaws.{AreSmaller, below-some, below-seen, goes_down}

-- steps beyond the koid change nothing
shows_alike : (below : Below) → GoesDown below → (n m v p w q : ℕ) → w ≤ n → w ≤ m → shows_over n below v p w q ≡ true → shows_over m below v p w q ≡ true
shows_alike below down zero zero v p w q h k e = e
shows_alike below down zero (suc m) v p w q h k e = elim (is_page v p w q) [
  | inl same ↦ rw (same.0, same.1) (shows-here (suc m) below v p)
  | inr apart ↦ absurd (let differs = sym (shows-zero below v p w q ∙ apart.1) ∙ e in cc)
]
shows_alike below down (suc n) zero v p w q h k e = elim (is_page v p w q) [
  | inl same ↦ rw (same.0, same.1) (shows-here zero below v p)
  | inr apart ↦ elim (cases_below (below w q)) [
    | inl none ↦ absurd (let differs = sym (shows-none (suc n) below v p w q apart.1 none) ∙ e in cc)
    | inr some ↦ absurd (let less = down.smaller w q some.0 some.1 in omega (arith, less, k))
  ]
]
shows_alike below down (suc n) (suc m) v p w q h k e = elim (is_page v p w q) [
  | inl same ↦ rw (same.0, same.1) (shows-here (suc m) below v p)
  | inr apart ↦ elim (cases_below (below w q)) [
    | inl none ↦ absurd (let differs = sym (shows-none (suc n) below v p w q apart.1 none) ∙ e in cc)
    | inr some ↦
        let less = down.smaller w q some.0 some.1 in
        shows-through m below v p w q some.0 apart.1 some.1
        ∙ shows_alike below down n m v p some.0.koid some.0.page (omega (arith, less, h)) (omega (arith, less, k)) (sym (shows-through n below v p w q some.0 apart.1 some.1) ∙ e)
  ]
]

-- a page that goes on to one that shows it, shows it
shows_through-next : (below : Below) → GoesDown below → (v p w q : ℕ) (u : VmoPage) → below w q ≡ Some u → shows_through below v p u.koid u.page ≡ true → shows_through below v p w q ≡ true
shows_through-next below down v p zero q u e live = absurd (let less = down.smaller zero q u e in omega (arith, less))
shows_through-next below down v p (suc w) q u e live = elim (is_page v p (suc w) q) [
  | inl same ↦ rw (same.0, same.1) (shows-here v below v p)
  | inr apart ↦
      let less = down.smaller (suc w) q u e in
      shows-through w below v p (suc w) q u apart.1 e ∙ shows_alike below down u.koid w v p u.koid u.page (omega arith) (omega (arith, less)) live
]

module _ (s : SourceState) (smaller : AreSmaller s.link) where
  reaches_over : (n v p w q : ℕ) → shows_over n (below_of s) v p w q ≡ true → WriteReaches s v p w q
  reaches_over zero v p w q e = elim (is_page v p w q) [
    | inl same ↦ at_page w q same.0 same.1
    | inr apart ↦ absurd (let differs = sym (shows-zero (below_of s) v p w q ∙ apart.1) ∙ e in cc)
  ]
  reaches_over (suc n) v p w q e = elim (is_page v p w q) [
    | inl same ↦ at_page w q same.0 same.1
    | inr apart ↦ elim (cases_below (below_of s w q)) [
      | inl none ↦ absurd (let differs = sym (shows-none (suc n) (below_of s) v p w q apart.1 none) ∙ e in cc)
      | inr some ↦
          let on = below-some s.content s.link w q some.0 some.1 in
          to_child some.0.koid some.0.page w q on.by
          (reaches_over n v p some.0.koid some.0.page (sym (shows-through n (below_of s) v p w q some.0 apart.1 some.1) ∙ e))
          on.is (sym on.koid) on.free on.seen (sym on.page)
    ]
  ]

  pub shows_through-reaches : (v p w q : ℕ) → shows_through (below_of s) v p w q ≡ true → WriteReaches s v p w q
  shows_through-reaches v p w q e = reaches_over w v p w q e

  pub reaches-shows : (v p w q : ℕ) → WriteReaches s v p w q → shows_through (below_of s) v p w q ≡ true
  reaches-shows v p w q (at_page x y same here) = rw (same, here) (shows-here v (below_of s) v p)
  reaches-shows v p w q (to_child u r x y l up is koid free h page) =
      let next = below-seen s.content s.link x y l free is h in
      let live = reaches-shows v p u r up in
      shows_through-next (below_of s) (goes_down s.content s.link smaller) v p x y (record { koid = l.parent.0; page = l.base + y }) next
      (ap (λ (k : ℕ). shows_through (below_of s) v p k (l.base + y)) koid ∙ (ap (λ (k : ℕ). shows_through (below_of s) v p u k) page ∙ live))
