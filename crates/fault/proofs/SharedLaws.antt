-- Laws of the pages that a snapshot shares: they are left for reading alone, one gap between pinned pages after another.
use Rattle.std.proofs.Common.{◌≡◌, ◌≢◌, ℕ, ◌+◌, ◌-◌, ◌≤◌, ◌==◌, ◌||◌, Bool, true, false, not, cond, Option, None, Some, refl, sym, ap, ◌∙◌, inl, inr, arith}
use Rattle.std.specs.Cmp.{both_ways}
use Rattle.std.specs.Option.{option_map}
use Rattle.std.proofs.lemmas.Bool.{cases_lt, and_parts, and_from, or_left, or_right, or_cases, not-true, false_from_ne_true, both_ways as either}
use Rattle.vm_base.specs.Search.{HasNone, IsFirst}
use Rattle.vm_model.specs.declared.space.Entry.{Entry}
use Rattle.vm_model.specs.declared.space.Readiness.TheVariants.{Read}
use Rattle.vm_model.specs.Contents.Zeroing.{is_within}
use Rattle.vm_model.specs.Space.Readiness.{shows_in, shows_but}
use Rattle.vm_model.proofs.ZeroingLaws.{is_within-true, is_within-parts}
use Rattle.fault.specs.declared.translation.Translation.{Translation}
use Rattle.fault.specs.Table.{Places, with_read_only, restricted}
use Rattle.fault.specs.inside.Left.{restricted_but, with_read_only_but}

-- the entry shows a page of one range or of the range behind it, where no page of this one passes
shows_but-more : (stays : ℕ → Bool) (v first from end : ℕ) (entry : Entry) → first ≤ from → from ≤ end
    → HasNone stays from end → shows_but stays v first end entry ≡ (shows_but stays v first from entry || shows_in v from end entry)
shows_but-more stays v first from end entry low high none = both_ways (shows_but stays v first end entry) (shows_but stays v first from entry || shows_in v from end entry) there back where
  there : shows_but stays v first end entry ≡ true → (shows_but stays v first from entry || shows_in v from end entry) ≡ true
  there e =
      let parts = and_parts (shows_in v first end entry) (not (stays entry.page)) e in
      let shows = and_parts (entry.koid.0 == v) (is_within first end entry.page) parts.0 in
      let within = is_within-parts first end entry.page shows.1 in
      elim (cases_lt entry.page from) [
        | inl before ↦ or_left _ _ (and_from _ _ (and_from _ _ shows.0 (is_within-true first from entry.page within.0 before)) parts.1)
        | inr behind ↦ or_right _ _ (and_from _ _ shows.0 (is_within-true from end entry.page behind within.1))
      ]

  back : (shows_but stays v first from entry || shows_in v from end entry) ≡ true → shows_but stays v first end entry ≡ true
  back e = elim (or_cases (shows_but stays v first from entry) (shows_in v from end entry) e) [
    | inl one ↦
        let parts = and_parts (shows_in v first from entry) (not (stays entry.page)) one in
        let shows = and_parts (entry.koid.0 == v) (is_within first from entry.page) parts.0 in
        let within = is_within-parts first from entry.page shows.1 in
        and_from _ _ (and_from _ _ shows.0 (is_within-true first end entry.page within.0 (omega (arith, within.1)))) parts.1
    | inr other ↦
        let shows = and_parts (entry.koid.0 == v) (is_within from end entry.page) other in
        let within = is_within-parts from end entry.page shows.1 in
        and_from _ _ (and_from _ _ shows.0 (is_within-true first end entry.page (omega (arith, within.0)) within.1)) (ap not (none entry.page within.0 within.1))
  ]

-- a page behind the range that passes makes no difference
shows_but-passes : (stays : ℕ → Bool) (v first p : ℕ) (entry : Entry) → stays p ≡ true → shows_but stays v first (p + 1) entry ≡ shows_but stays v first p entry
shows_but-passes stays v first p entry passes = both_ways (shows_but stays v first (p + 1) entry) (shows_but stays v first p entry) there back where
  there : shows_but stays v first (p + 1) entry ≡ true → shows_but stays v first p entry ≡ true
  there e =
      let parts = and_parts (shows_in v first (p + 1) entry) (not (stays entry.page)) e in
      let shows = and_parts (entry.koid.0 == v) (is_within first (p + 1) entry.page) parts.0 in
      let within = is_within-parts first (p + 1) entry.page shows.1 in
      let apart : entry.page ≢ p = λ same. let off = not-true (stays entry.page) parts.1 in either (stays entry.page) off (ap stays same ∙ passes) in
      and_from _ _ (and_from _ _ shows.0 (is_within-true first p entry.page within.0 (omega (arith, within.1, apart)))) parts.1

  back : shows_but stays v first p entry ≡ true → shows_but stays v first (p + 1) entry ≡ true
  back e =
      let parts = and_parts (shows_in v first p entry) (not (stays entry.page)) e in
      let shows = and_parts (entry.koid.0 == v) (is_within first p entry.page) parts.0 in
      let within = is_within-parts first p entry.page shows.1 in
      and_from _ _ (and_from _ _ shows.0 (is_within-true first (p + 1) entry.page within.0 (omega (arith, within.1)))) parts.1

-- for reading alone once is for reading alone twice
read_twice : (one two both : Bool) (x : Translation) → both ≡ (one || two)
    → cond two (record (cond one (record x { readiness = Read }) x) { readiness = Read }) (cond one (record x { readiness = Read }) x) ≡ cond both (record x { readiness = Read }) x
read_twice true true both x e = rw e refl
read_twice true false both x e = rw e refl
read_twice false true both x e = rw e refl
read_twice false false both x e = rw e refl

-- the entry of a translation stays
entry-restricted : (b : Bool) (x : Translation) → (cond b (record x { readiness = Read }) x).entry ≡ x.entry
entry-restricted true x = refl
entry-restricted false x = refl

module _ (stays : ℕ → Bool) (v first from end : ℕ) (low : first ≤ from) (high : from ≤ end) (none : HasNone stays from end) where
  restricted_but-more : (x : Translation) → restricted v from end (restricted_but stays v first from x) ≡ restricted_but stays v first end x
  restricted_but-more x =
      ap (λ (e : Entry). cond (shows_in v from end e) (record (restricted_but stays v first from x) { readiness = Read }) (restricted_but stays v first from x))
      (entry-restricted (shows_but stays v first from x.entry) x)
      ∙ read_twice (shows_but stays v first from x.entry) (shows_in v from end x.entry) (shows_but stays v first end x.entry) x
      (shows_but-more stays v first from end x.entry low high none)

  -- a gap more
  pub gaps-end : (now next old : Places) → now ≡ with_read_only_but stays v first from old → next ≡ with_read_only v from end now
      → next ≡ with_read_only_but stays v first end old
  unfolding with_read_only_but with_read_only
  gaps-end now next old is made = made ∙ (ap {B = Places} (λ (places : Places) root p. option_map (restricted v from end) (places root p)) is ∙ (λ i root p. at (old root p) i)) where
    at : (o : Option Translation) → option_map (restricted v from end) (option_map (restricted_but stays v first from) o) ≡ option_map (restricted_but stays v first end) o
    at None = refl
    at (Some x) = ap (λ (y : Translation). Some y) (restricted_but-more x)

-- and the pinned page behind it
pub gaps-next : (stays : ℕ → Bool) (v first from p end : ℕ) → first ≤ from → IsFirst stays from end p → (now next old : Places)
    → now ≡ with_read_only_but stays v first from old → next ≡ with_read_only v from (from + (p - from)) now → next ≡ with_read_only_but stays v first (p + 1) old
unfolding with_read_only_but
gaps-next stays v first from p end low is now next old before made =
    let e : from + (p - from) ≡ p = omega (arith, is.order) in
    gaps-end stays v first from p low is.order is.gap now next old before (made ∙ ap (λ (n : ℕ). with_read_only v from n now) e)
    ∙ (λ i root q. at (old root q) i) where
      at : (o : Option Translation) → option_map (restricted_but stays v first p) o ≡ option_map (restricted_but stays v first (p + 1)) o
      at None = refl
      at (Some x) = ap (λ (b : Bool). Some (cond b (record x { readiness = Read }) x)) (sym (shows_but-passes stays v first p x.entry is.hit))

-- no page is in an empty range
pub gaps-start : (stays : ℕ → Bool) (v first : ℕ) (places : Places) → places ≡ with_read_only_but stays v first first places
unfolding with_read_only_but
gaps-start stays v first places = λ i root p. at (places root p) i where
  none : (entry : Entry) → shows_but stays v first first entry ≡ false
  none entry = false_from_ne_true (shows_but stays v first first entry) (λ e.
      let parts = and_parts (shows_in v first first entry) (not (stays entry.page)) e in
      let within = is_within-parts first first entry.page (and_parts (entry.koid.0 == v) (is_within first first entry.page) parts.0).1 in
      omega (arith, within.0, within.1))

  at : (o : Option Translation) → o ≡ option_map (restricted_but stays v first first) o
  at None = refl
  at (Some x) = sym (ap (λ (b : Bool). Some (cond b (record x { readiness = Read }) x)) (none x.entry))
