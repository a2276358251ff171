-- Contents that change on some pages of one VMO in a row: all else stays.
use Rattle.std.proofs.Common.{◌≡◌, ◌≢◌, ℕ, zero, suc, ◌+◌, ◌/◌, ◌<◌, ◌≤◌, Bool, List, [], ◌∷◌, length, map, replicate, ◌⊎◌, refl, sym, ap, subst, ◌∙◌, inl, inr, arith}
use Rattle.std.specs.List.{range_with_len}
use Rattle.std.proofs.lemmas.Bool.{cases_Bool}
use Rattle.std.proofs.lemmas.List.FromFn.{length-range_with_len}
use Rattle.vm_base.specs.declared.limits.TheConstants.{PAGE}
use Rattle.vm_model.specs.Contents.Content.{Page, Content, is_held, sole, hold}
use Rattle.vm_model.specs.Contents.Owning.{Owns, OwnsAll}
use Rattle.vm_model.specs.Contents.Writing.{touched, Piece, piece, pieces, WritesPiece, Writes}
use Rattle.vm_model.specs.Contents.Zeroing.{zeroed, is_cleared, ZeroesPage, Zeroes}
use Rattle.vm_model.proofs.ContentLaws.{page-hold_other}
use Rattle.vm_model.proofs.ZeroingLaws.{page-zeroed_out}
use Rattle.vm_model.proofs.RangeLaws.{touched-row, touched-nil, touched_end-is}

-- nothing changes but pages of v from `first` to below `end`
pub record ChangesWithin (v first end : ℕ) (old new : Content) : Type 0 where
  pub count : new.count ≡ old.count
  pub page : (w q : ℕ) → (w ≡ v → (q < first) ⊎ (end ≤ q)) → new.page w q ≡ old.page w q

module _ (v first end : ℕ) where
  -- where nothing changes
  ChangesWithin-same : (old new : Content) → new ≡ old → ChangesWithin v first end old new
  ChangesWithin-same old new e = subst (ChangesWithin v first end old) (sym e) (record { count = refl; page = λ w q out. refl })

  -- one change after another
  ChangesWithin-trans : (a b c : Content) → ChangesWithin v first end a b → ChangesWithin v first end b c → ChangesWithin v first end a c
  ChangesWithin-trans a b c p q = record { count = q.count ∙ p.count; page = λ w x out. q.page w x out ∙ p.page w x out }

  -- a part of the pages
  pub ChangesWithin-wider : (from to : ℕ) (old new : Content) → first ≤ from → to ≤ end → ChangesWithin v from to old new → ChangesWithin v first end old new
  ChangesWithin-wider from to old new low high part = record {
    count = part.count;
    page = λ w q out. part.page w q (λ same. elim (out same) [ inl before ↦ inl (omega (arith, before)) | inr behind ↦ inr (omega (arith, behind)) ]);
  }

  -- pages that become zero
  pub ChangesWithin-zeroed : (c : Content) → ChangesWithin v first end c (zeroed c v first end)
  unfolding zeroed
  ChangesWithin-zeroed c = record { count = refl; page = page-zeroed_out c v first end }

-- ---- one page

-- page p of v alone changes
abbrev ChangesAt : (v p : ℕ) → Content → Content → Type 0
ChangesAt v p = ChangesWithin v p (p + 1)

-- a page that is held
ChangesAt-hold : (c : Content) (v p : ℕ) (held : Page) → ChangesAt v p c (hold c v p held)
unfolding hold
ChangesAt-hold c v p held = record {
  count = refl;
  page = λ w q out. page-hold_other c v p held w q (λ vmo page. elim (out vmo) [ inl before ↦ omega (arith, before, page) | inr behind ↦ omega (arith, behind, page) ]);
}

-- a page that is owned
ChangesAt-owned : (old new : Content) (v p tag : ℕ) → Owns old new v p tag → ChangesAt v p old new
ChangesAt-owned old new v p tag owns = elim (cases_Bool (sole old v p)) [
  | inl alone ↦ ChangesWithin-same v p (p + 1) old new (owns.stays alone).0
  | inr shared ↦ subst (ChangesAt v p old) (sym (owns.copies shared).2) (ChangesAt-hold old v p _)
]

-- a piece that is written
ChangesAt-written : (old : Content) (part : Piece) (new : Content) → WritesPiece old part new → ChangesAt part.koid part.page old new
ChangesAt-written old part new writes =
    ChangesWithin-trans part.koid part.page (part.page + 1) old writes.owned new (ChangesAt-owned old writes.owned part.koid part.page writes.tag writes.owns)
    (subst (ChangesAt part.koid part.page writes.owned) (sym writes.bytes) (ChangesAt-hold writes.owned part.koid part.page _))

-- a page that is zeroed
ChangesAt-zeroed : (v : ℕ) (pinned : ℕ → Bool) (offset len : ℕ) (old : Content) (p : ℕ) (new : Content) → ZeroesPage old v pinned offset len p new → ChangesAt v p old new
ChangesAt-zeroed v pinned offset len old p new zeroes = elim (cases_Bool (is_cleared pinned offset len p)) [
  | inl cleared ↦ subst (ChangesAt v p old) (sym (zeroes.cleared cleared)) (ChangesWithin-zeroed v p (p + 1) old)
  | inr part ↦ elim (cases_Bool (is_held old v p)) [
    | inl held ↦ ChangesAt-written old (piece v offset (replicate len 0) p) new (zeroes.held part held)
    | inr free ↦ ChangesWithin-same v p (p + 1) old new (zeroes.zero part free)
  ]
]

-- ---- pages in any order

-- nothing changes but pages of v
pub record LeavesOthers (v : ℕ) (old new : Content) : Type 0 where
  pub count : new.count ≡ old.count
  pub page : (w q : ℕ) → w ≢ v → new.page w q ≡ old.page w q

-- pages of v that are owned
pub LeavesOthers-owns : (v : ℕ) (ps : List ℕ) (old new : Content) → OwnsAll old v ps new → LeavesOthers v old new
LeavesOthers-owns v [] old new owns = subst (LeavesOthers v old) (sym owns) (record { count = refl; page = λ w q apart. refl })
LeavesOthers-owns v (p ∷ ps) old new owns =
    let first = ChangesAt-owned old owns.0 v p owns.1 owns.2 in
    let rest = LeavesOthers-owns v ps owns.0 new owns.3 in
    record { count = rest.count ∙ first.count; page = λ w q apart. rest.page w q apart ∙ first.page w q (λ same. absurd (apart same)) }

-- ---- pages in a row

-- the touched pages stand in a row
pub touched-in_row : (offset len : ℕ) → touched offset len ≡ range_with_len (offset / PAGE) (length (touched offset len))
touched-in_row offset zero = touched-nil offset ∙ ap (range_with_len (offset / PAGE)) (sym (ap length (touched-nil offset)))
touched-in_row offset (suc len) =
    let row = touched-row offset (suc len) (omega arith) in
    row ∙ ap (range_with_len (offset / PAGE)) (sym (ap length row ∙ length-range_with_len (offset / PAGE) _))

-- the range ends in the last of them
pub touched_reaches : (offset len : ℕ) → (offset + len) / PAGE ≤ offset / PAGE + length (touched offset len)
touched_reaches offset zero = omega arith
touched_reaches offset (suc len) =
    let row = ap length (touched-row offset (suc len) (omega arith)) ∙ length-range_with_len (offset / PAGE) _ in omega (arith, row, touched_end-is offset (suc len))

module _ (v : ℕ) (Change : Content → ℕ → Content → Type 0) (Changes : Content → List ℕ → Content → Type 0)
    (none : (old new : Content) → Changes old [] new → new ≡ old)
    (more : (old new : Content) (p : ℕ) (ps : List ℕ) → Changes old (p ∷ ps) new → (mid : Content) × Change old p mid × Changes mid ps new)
    (one : (old : Content) (p : ℕ) (new : Content) → Change old p new → ChangesAt v p old new) where
  -- pages from one on
  row_changes : (first n : ℕ) (old new : Content) → Changes old (range_with_len first n) new → ChangesWithin v first (first + n) old new
  row_changes first zero old new changes = ChangesWithin-same v first (first + zero) old new (none old new changes)
  row_changes first (suc n) old new changes =
      let parts = more old new first (range_with_len (first + 1) n) changes in
      ChangesWithin-trans v first (first + suc n) old parts.0 new
      (ChangesWithin-wider v first (first + suc n) first (first + 1) old parts.0 (omega arith) (omega arith) (one old first parts.0 parts.1))
      (ChangesWithin-wider v first (first + suc n) (first + 1) (first + 1 + n) parts.0 new (omega arith) (omega arith) (row_changes (first + 1) n parts.0 new parts.2))

  -- the pages that a range touches
  touched_changes : (offset len : ℕ) (old new : Content) → Changes old (touched offset len) new
      → ChangesWithin v (offset / PAGE) (offset / PAGE + length (touched offset len)) old new
  touched_changes offset len old new changes =
      row_changes (offset / PAGE) (length (touched offset len)) old new (subst (λ (ps : List ℕ). Changes old ps new) (touched-in_row offset len) changes)

-- a write
pub ChangesWithin-writes : (v offset : ℕ) (bytes : List ℕ) (old new : Content) → Writes old (pieces v offset bytes) new
    → ChangesWithin v (offset / PAGE) (offset / PAGE + length (touched offset (length bytes))) old new
unfolding pieces
ChangesWithin-writes v offset bytes old new writes =
    touched_changes v (λ a p b. WritesPiece a (piece v offset bytes p) b) (λ a ps b. Writes a (map (piece v offset bytes) ps) b) (λ a b e. e) (λ a b p ps all. all)
    (λ a p b one. ChangesAt-written a (piece v offset bytes p) b one) offset (length bytes) old new writes

-- owning
pub ChangesWithin-owns : (v offset len : ℕ) (old new : Content) → OwnsAll old v (touched offset len) new
    → ChangesWithin v (offset / PAGE) (offset / PAGE + length (touched offset len)) old new
ChangesWithin-owns v offset len old new owns =
    touched_changes v (λ a p b. (tag : ℕ) × Owns a b v p tag) (λ a ps b. OwnsAll a v ps b) (λ a b e. e) (λ a b p ps all. (all.0, (all.1, all.2), all.3))
    (λ a p b one. ChangesAt-owned a b v p one.0 one.1) offset len old new owns

-- zeroing
pub ChangesWithin-zeroes : (v : ℕ) (pinned : ℕ → Bool) (offset len : ℕ) (old new : Content) → Zeroes old v pinned offset len (touched offset len) new
    → ChangesWithin v (offset / PAGE) (offset / PAGE + length (touched offset len)) old new
ChangesWithin-zeroes v pinned offset len old new zeroes =
    touched_changes v (λ a p b. ZeroesPage a v pinned offset len p b) (λ a ps b. Zeroes a v pinned offset len ps b) (λ a b e. e) (λ a b p ps all. all)
    (ChangesAt-zeroed v pinned offset len) offset len old new zeroes
