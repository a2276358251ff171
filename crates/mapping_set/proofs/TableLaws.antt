-- What pieces show, and how that changes where a piece comes or goes.
use Rattle.std.proofs.Common.{◌≡◌, ◌≢◌, ℕ, zero, suc, ◌+◌, ◌<◌, ◌≤◌, ◌&&◌, ◌==◌, Option, None, Some, IsSome, IfSome, ◌⊎◌, inl, inr, refl, sym, ap, subst, ◌∙◌, arith}
use Rattle.std.specs.Option.{option_map, MatchOption}
use Rattle.std.proofs.lemmas.Bool.{cases_Bool, cases_order, cases_lt, cond-true, cond-false, and_parts, and_from, false_from_ne_true, both_ways}
use Rattle.vm_base.specs.declared.limits.TheConstants.{PAGES_END}
use Rattle.vm_base.proofs.EntryLaws.{some_is}
use Rattle.vm_base.proofs.SearchLaws.{below_next, eqb_is, eqb_same}
use Rattle.balanced_tree.specs.Pairs.{with_pair, IsNext}
use Rattle.vm_model.specs.declared.space.Entry.{Entry}
use Rattle.vm_model.specs.Contents.Zeroing.{is_within}
use Rattle.vm_model.specs.Space.Table.{mapping_from, with_pages}
use Rattle.mapping_set.proofs.ChangeLaws.{with_pages-is}
use Rattle.vm_model.proofs.ZeroingLaws.{is_within-true, is_within-parts}
use Rattle.mapping_set.specs.declared.piece.Piece.{Piece}
use Rattle.mapping_set.specs.Pieces.{or_else, last_some, shown_by, table_in, ArePieces, IsHeld, HasNoHeld}
use Rattle.mapping_set.specs.Tables.{IsPieceOf}

-- ---- the last number that has a value

module _ {A : Type 0} where
  last_some-found : (n : ℕ) (f : ℕ → Option A) (a : A) → last_some n f ≡ Some a → (k : ℕ) × (k < n) × (f k ≡ Some a)
  unfolding last_some
  last_some-found zero f a e = absurd cc
  last_some-found (suc n) f a e = by (f n) refl (last_some-found n f a) e where
    by : (o : Option A) → f n ≡ o → (last_some n f ≡ Some a → (k : ℕ) × (k < n) × (f k ≡ Some a)) → or_else o (last_some n f) ≡ Some a
        → (k : ℕ) × (k < suc n) × (f k ≡ Some a)
    by None is rest e = let found = rest e in (found.0, omega (arith, found.1), found.2)
    by (Some b) is rest e = (n, omega arith, is ∙ e)

  last_some-none : (n : ℕ) (f : ℕ → Option A) → ((k : ℕ) → f k ≡ None) → last_some n f ≡ None
  unfolding last_some
  last_some-none zero f none = refl
  last_some-none (suc n) f none = ap (λ o. or_else o (last_some n f)) (none n) ∙ last_some-none n f none

  -- one number alone has a value
  last_some-at : (n k : ℕ) (f : ℕ → Option A) (a : A) → k < n → f k ≡ Some a → ((j : ℕ) → j ≢ k → f j ≡ None) → last_some n f ≡ Some a
  unfolding last_some
  last_some-at zero k f a h e alone = absurd (omega arith)
  last_some-at (suc n) k f a h e alone = elim (below_next k n h) [
    | inl same ↦ ap (λ o. or_else o (last_some n f)) (ap f (sym same) ∙ e)
    | inr less ↦ ap (λ o. or_else o (last_some n f)) (alone n (omega arith)) ∙ last_some-at n k f a less e alone
  ]

-- ---- a pair of numbers gets a value, or loses it

pub with_pair-cases : {V : Type 0} (map : ℕ → ℕ → Option V) (a b : ℕ) (v : Option V) (k q : ℕ)
    → ((k ≡ a) × (q ≡ b) × (with_pair map a b v k q ≡ v)) ⊎ ((k ≡ a → q ≡ b → ⊥) × (with_pair map a b v k q ≡ map k q))
unfolding with_pair
with_pair-cases map a b v k q = elim (cases_Bool ((k == a) && (q == b))) [
  | inl here ↦ let both = and_parts (k == a) (q == b) here in inl (eqb_is k a both.0, eqb_is q b both.1, cond-true _ _ _ here)
  | inr there ↦ inr (
    λ same other. both_ways ((k == a) && (q == b)) there
        (and_from (k == a) (q == b) (ap (λ n. n == a) same ∙ eqb_same a) (ap (λ n. n == b) other ∙ eqb_same b)),
    cond-false _ _ _ there,
  )
]

pub with_pair-same : {V : Type 0} (map : ℕ → ℕ → Option V) (a b : ℕ) (v : Option V) (k q : ℕ) → k ≡ a → q ≡ b → with_pair map a b v k q ≡ v
with_pair-same map a b v k q same other = elim (with_pair-cases map a b v k q) [
  | inl here ↦ here.2
  | inr there ↦ absurd (there.0 same other)
]

module _ {V : Type 0} (map : ℕ → ℕ → Option V) (a : ℕ) where
  -- the later of two values counts
  pub with_pair-over : (b : ℕ) (v w : Option V) → with_pair (with_pair map a b v) a b w ≡ with_pair map a b w
  with_pair-over b v w = λ i k q. at k q i where
    at : (k q : ℕ) → with_pair (with_pair map a b v) a b w k q ≡ with_pair map a b w k q
    at k q = elim (with_pair-cases (with_pair map a b v) a b w k q) [
      | inl here ↦ here.2 ∙ sym (with_pair-same map a b w k q here.0 here.1)
      | inr out ↦ out.1 ∙ elim (with_pair-cases map a b v k q) [
        | inl here ↦ absurd (out.0 here.0 here.1)
        | inr other ↦ other.1 ∙ elim (with_pair-cases map a b w k q) [
          | inl here ↦ absurd (out.0 here.0 here.1)
          | inr there ↦ sym there.1
        ]
      ]
    ]

  -- two numbers get their values in either order
  pub with_pair-swap : (b c : ℕ) (v w : Option V) → b ≢ c → with_pair (with_pair map a b v) a c w ≡ with_pair (with_pair map a c w) a b v
  with_pair-swap b c v w apart = λ i k q. at k q i where
    at : (k q : ℕ) → with_pair (with_pair map a b v) a c w k q ≡ with_pair (with_pair map a c w) a b v k q
    at k q = elim (with_pair-cases (with_pair map a b v) a c w k q) [
      | inl here ↦ here.2 ∙ elim (with_pair-cases (with_pair map a c w) a b v k q) [
        | inl both ↦ absurd (apart (sym both.1 ∙ here.1))
        | inr other ↦ sym (other.1 ∙ with_pair-same map a c w k q here.0 here.1)
      ]
      | inr out ↦ out.1 ∙ elim (with_pair-cases map a b v k q) [
        | inl here ↦ here.2 ∙ sym (with_pair-same (with_pair map a c w) a b v k q here.0 here.1)
        | inr other ↦ other.1 ∙ elim (with_pair-cases (with_pair map a c w) a b v k q) [
          | inl here ↦ absurd (other.0 here.0 here.1)
          | inr there ↦ sym (there.1 ∙ elim (with_pair-cases map a c w k q) [
            | inl here ↦ absurd (out.0 here.0 here.1)
            | inr none ↦ none.1
          ])
        ]
      ]
    ]

-- ---- what a piece shows

module _ (p last : ℕ) (x : Piece) where
  pub shown_by-in : x.first ≤ p → p ≤ last → shown_by p last (Some x) ≡ mapping_from x.first x.entry p
  shown_by-in low high = cond-true _ _ _ (is_within-true x.first (last + 1) p low (omega arith))

  pub shown_by-out : (x.first ≤ p → p ≤ last → ⊥) → shown_by p last (Some x) ≡ None
  shown_by-out out = cond-false _ _ _ (false_from_ne_true (is_within x.first (last + 1) p) (λ within.
      let parts = is_within-parts x.first (last + 1) p within in
      out parts.0 (omega (arith, parts.1))))

shown_by-found : (p last : ℕ) (o : Option Piece) (e : Entry) → shown_by p last o ≡ Some e
    → (x : Piece) × (o ≡ Some x) × (x.first ≤ p) × (p ≤ last) × (mapping_from x.first x.entry p ≡ Some e)
shown_by-found p last None e is = absurd cc
shown_by-found p last (Some x) e is = elim (cases_Bool (is_within x.first (last + 1) p)) [
  | inl within ↦
      let parts = is_within-parts x.first (last + 1) p within in
      (x, refl, parts.0, omega (arith, parts.1), sym (cond-true _ _ _ within) ∙ is)
  | inr out ↦ absurd (let none : shown_by p last (Some x) ≡ None = cond-false _ _ _ out in cc)
]

-- the first page of a piece
abbrev first_in : Option Piece → ℕ
first_in None = 0
first_in (Some piece) = piece.first

-- ---- what pieces show

module _ (pieces : ℕ → ℕ → Option Piece) where
  -- an entry is one of a piece
  pub table_in-found : (r p : ℕ) (e : Entry) → table_in pieces r p ≡ Some e
      → (b : ℕ) × (x : Piece) × (pieces r b ≡ Some x) × (x.first ≤ p) × (p ≤ b) × (b < PAGES_END) × (mapping_from x.first x.entry p ≡ Some e)
  unfolding table_in
  table_in-found r p e is =
      let found = last_some-found PAGES_END (λ last. shown_by p last (pieces r last)) e is in
      let by = shown_by-found p found.0 (pieces r found.0) e found.2 in
      (found.0, by.0, by.1, by.2, by.3, found.1, by.4)

  -- only pages below `PAGES_END` have an entry
  pub table_in-below : (r p : ℕ) → IsSome (table_in pieces r p) → p < PAGES_END
  table_in-below r p some =
      let entry = some_is (table_in pieces r p) some in
      let found = table_in-found r p entry.0 entry.1 in
      omega (arith, found.4, found.5)

  -- a page of no piece has no entry
  pub table_in-none : (r p : ℕ) → ((b : ℕ) (x : Piece) → pieces r b ≡ Some x → x.first ≤ p → p ≤ b → ⊥) → table_in pieces r p ≡ None
  unfolding table_in
  table_in-none r p none = last_some-none PAGES_END (λ last. shown_by p last (pieces r last)) (λ b. by b (pieces r b) refl) where
    by : (b : ℕ) (o : Option Piece) → pieces r b ≡ o → shown_by p b o ≡ None
    by b None is = refl
    by b (Some x) is = shown_by-out p b x (none b x is)

  -- no piece shows nothing
  pub table_in-empty : pieces ≡ (λ r b. None) → table_in pieces ≡ (λ r p. None)
  table_in-empty none = λ i r p. at r p i where
    at : (r p : ℕ) → table_in pieces r p ≡ None
    at r p = table_in-none r p (λ b x is low high. absurd (let gone = ap (λ (m : ℕ → ℕ → Option Piece). m r b) none in cc))

  module _ (h : ArePieces pieces) where
    -- a page lies in one piece alone
    pub one_piece : (r b c : ℕ) (x y : Piece) (p : ℕ) → pieces r b ≡ Some x → pieces r c ≡ Some y → x.first ≤ p → p ≤ b → y.first ≤ p → p ≤ c → b ≡ c
    one_piece r b c x y p is at low high low_y high_y = elim (cases_order b c) [
      | inl same ↦ same
      | inr (inl less) ↦ absurd (let apart = h.apart r b c x y is at less in omega arith)
      | inr (inr more) ↦ absurd (let apart = h.apart r c b y x at is more in omega arith)
    ]

    -- a page of a piece has the entry that the piece says
    pub table_in-at : (r b : ℕ) (x : Piece) (p : ℕ) → pieces r b ≡ Some x → x.first ≤ p → p ≤ b → table_in pieces r p ≡ mapping_from x.first x.entry p
    unfolding table_in
    table_in-at r b x p is low high =
        last_some-at PAGES_END b (λ last. shown_by p last (pieces r last)) _ (h.sound r b x is).end
        (ap (shown_by p b) is ∙ shown_by-in p b x low high)
        (λ c apart. by c (pieces r c) refl apart)
      where
        by : (c : ℕ) (o : Option Piece) → pieces r c ≡ o → c ≢ b → shown_by p c o ≡ None
        by c None at apart = refl
        by c (Some y) at apart = shown_by-out p c y (λ low_y high_y. apart (one_piece r c b y x p at is low_y high_y low high))

    -- a piece shows what it says
    pub shown_whole : (r b : ℕ) (x : Piece) → pieces r b ≡ Some x → IsPieceOf (table_in pieces r) x
    shown_whole r b x is =
        let sound = h.sound r b x is in
        let last = sound.last_is in
        let end = sound.end in
        record {
          some = sound.some;
          end = omega arith;
          pages = sound.pages;
          entries = λ p low high. table_in-at r b x p is low (omega arith);
        }

    -- the next piece is the first one that ends at or behind a page
    held_after : (r from : ℕ) (answer : Option (ℕ × Piece)) → IsNext (pieces r) from (option_map (λ (pair : ℕ × Piece). pair.0) answer)
        → IfSome answer (λ pair. pieces r pair.0 ≡ Some pair.1)
        → MatchOption answer (HasNoHeld pieces r from) (λ pair. IsHeld pieces r from pair.0 pair.1)
    held_after r from None next value = record {
      bare = λ p low. table_in-none r p (λ b x is first last. absurd (let none = next.none refl b (omega arith) in cc));
      before = λ b x is. elim (cases_lt b from) [
        | inl less ↦ less
        | inr more ↦ absurd (let none = next.none refl b more in cc)
      ];
    }
    held_after r from (Some (last, x)) next value =
        let least = next.least last refl in
        let sound = h.sound r last x value in
        record {
          is = value;
          sound = sound;
          not_before = least.0;
          free = λ p low less. table_in-none r p (λ b y at first high. elim (cases_order b last) [
            | inl same ↦
                let is : Some y ≡ Some x = sym at ∙ (ap (pieces r) same ∙ value) in
                let begins : y.first ≡ x.first = ap first_in is in
                absurd (omega arith)
            | inr (inl before) ↦ absurd (let none = least.2 b (omega arith) before in cc)
            | inr (inr behind) ↦ absurd (let apart = h.apart r last b x y value at behind in let end = sound.last_is in let some = sound.some in omega arith)
          ]);
          before = λ b y at less. elim (cases_lt b from) [
            | inl low ↦ low
            | inr high ↦ absurd (let none = least.2 b high less in cc)
          ];
          behind = λ b y at less. h.apart r last b x y value at less;
          entries = λ p low high. table_in-at r last x p value low (let end = sound.last_is in omega arith);
        }

    pub held-next : (r n : ℕ) → n ≡ r → (from : ℕ) (answer : Option (ℕ × Piece)) → IsNext (pieces n) from (option_map (λ (pair : ℕ × Piece). pair.0) answer)
        → IfSome answer (λ pair. pieces n pair.0 ≡ Some pair.1)
        → MatchOption answer (HasNoHeld pieces r from) (λ pair. IsHeld pieces r from pair.0 pair.1)
    held-next r n same from answer next value =
        held_after r from answer (subst (λ k. IsNext (pieces k) from (option_map (λ (pair : ℕ × Piece). pair.0) answer)) same next)
        (subst (λ k. IfSome answer (λ pair. pieces k pair.0 ≡ Some pair.1)) same value)

  -- pages show the same where each piece shows the same there
  table_in-same : (new : ℕ → ℕ → Option Piece) (r p : ℕ) → ((c : ℕ) → shown_by p c (new r c) ≡ shown_by p c (pieces r c)) → table_in new r p ≡ table_in pieces r p
  unfolding table_in
  table_in-same new r p same = ap (last_some PAGES_END) (λ i c. same c i)

  -- a piece comes or goes, which has the pages from `first` to below `end`
  module _ (root b : ℕ) (v : Option Piece) (first end : ℕ) (now : ℕ → Option Entry)
      (here : (p : ℕ) → first ≤ p → p < end → table_in (with_pair pieces root b v) root p ≡ now p)
      (out_new : (p : ℕ) → (first ≤ p → p < end → ⊥) → shown_by p b v ≡ None)
      (out_old : (p : ℕ) → (first ≤ p → p < end → ⊥) → shown_by p b (pieces root b) ≡ None) where
    pub table_in-changed : table_in (with_pair pieces root b v) ≡ with_pages (table_in pieces) root first end now
    table_in-changed = with_pages-is (table_in pieces) root first end now (table_in (with_pair pieces root b v)) here (λ r p out.
        table_in-same (with_pair pieces root b v) r p (λ c. elim (with_pair-cases pieces root b v r c) [
          | inl same ↦
              ap (shown_by p c) same.2
              ∙ (ap (λ k. shown_by p k v) same.1 ∙ (out_new p (out same.0)
              ∙ sym (ap (λ k. shown_by p k (pieces r c)) same.1
              ∙ (ap (shown_by p b) (ap (pieces r) same.1 ∙ ap (λ s. pieces s b) same.0) ∙ out_old p (out same.0)))))
          | inr other ↦ ap (shown_by p c) other.1
        ]))
