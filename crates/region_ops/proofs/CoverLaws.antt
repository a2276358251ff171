-- What a region finds on a range of pages, piece by piece, and what a change of permissions leaves as it is.
use Rattle.std.proofs.Common.{◌≡◌, ◌≢◌, ℕ, ◌+◌, ◌/◌, ◌<◌, ◌≤◌, Bool, true, false, not, ◌&&◌, ◌||◌, ◌==◌, Option, None, Some, refl, sym, ap, subst, ◌∙◌, inl, inr, arith}
use Rattle.std.specs.Prelude.{IsSome}
use Rattle.std.proofs.lemmas.Bool.{cases_Bool, cases_lt, not-false}
use Rattle.vm_base.specs.Entries.{passes}
use Rattle.vm_base.specs.Search.{count_below, sum_below}
use Rattle.vm_base.specs.declared.flags.Perm.{Perm}
use Rattle.vm_base.specs.declared.limits.TheConstants.{PAGE, NAMES, ROOT_END}
use Rattle.vm_base.specs.declared.names.RegionName.{RegionName}
use Rattle.vm_base.specs.Pages.{rounded}
use Rattle.vm_base.proofs.SearchLaws.{any_from_at, any_from-join, none_from, none_from_at}
use Rattle.vm_base.proofs.EntryLaws.{passes-none, passes-some}
use Rattle.vm_model.specs.declared.command.Command.TheVariants.{VmarProtect}
use Rattle.vm_model.specs.declared.reply.Reply.TheVariants.{Done}
use Rattle.vm_model.specs.declared.space.Entry.{Entry}
use Rattle.vm_model.specs.declared.space.Region.{Region}
use Rattle.vm_model.specs.Machine.State.{State}
use Rattle.vm_model.specs.Machine.Refusals.{refusals, first_of}
use Rattle.vm_model.specs.Machine.Step.{Step}
use Rattle.vm_model.specs.Space.Rights.{has}
use Rattle.vm_model.specs.Space.Table.{mapping_from, with_pages, with_perm, is_in}
use Rattle.vm_model.specs.Space.AddressSpaces.{Spaces, mapped_count}
use Rattle.vm_model.specs.Space.Mappings.{protected, has_hole, forbids}
use Rattle.mapping_set.specs.declared.piece.Piece.{Piece}
use Rattle.mapping_set.specs.Tables.{IsFull, IsBareFrom, IsNextPiece}
use Rattle.region_ops.specs.inside.Covers.{IsCovered}
use Rattle.vm_model.proofs.MappingLaws.{shows-protected}
use Rattle.vm_model.proofs.RegionLaws.{region_of-at}
use Rattle.vm_model.proofs.StepLaws.{Step-done}

-- ---- what a region finds, piece by piece

module _ (entries : ℕ → Option Entry) (region perm : ℕ) where
  -- no page
  pub covered-none : (first : ℕ) → IsCovered entries region perm first first true
  unfolding has_hole forbids
  covered-none first = record {
    whole = none_from _ first first (λ p low high. absurd (omega arith));
    free = sym (ap not (none_from _ first first (λ p low high. absurd (omega arith))));
  }

  -- pages, and some behind them
  pub covered-join : (first mid end : ℕ) (a b : Bool) → first ≤ mid → mid ≤ end → IsCovered entries region perm first mid a → IsCovered entries region perm mid end b
      → IsCovered entries region perm first end (a && b)
  unfolding has_hole forbids
  covered-join first mid end a b low high x y = record {
    whole = any_from-join _ first mid end low high ∙ rw (x.whole, y.whole) refl;
    free = rw (x.free, y.free) (both _ _) ∙ sym (ap not (any_from-join _ first mid end low high));
  } where
    both : (x y : Bool) → (not x && not y) ≡ not (x || y)
    both true y = refl
    both false y = refl

  -- the same, where a range ends there
  pub covered-end : (first at end : ℕ) (a : Bool) → at ≤ end → end ≤ at → IsCovered entries region perm first at a → IsCovered entries region perm first end a
  covered-end first at end a low high x = let same : at ≡ end = omega arith in subst (λ (n : ℕ). IsCovered entries region perm first n a) same x

  -- a page without an entry of the region
  pub hole_at : (first end p : ℕ) → first ≤ p → p < end → passes (is_in region) (entries p) ≡ false → has_hole entries region first end ≡ true
  unfolding has_hole
  hole_at first end p low high miss = any_from_at _ first end p low high (ap not miss)

  -- a hole in a part of a range
  pub hole-part : (first mid end : ℕ) → first ≤ mid → mid ≤ end → has_hole entries region mid end ≡ true → has_hole entries region first end ≡ true
  unfolding has_hole
  hole-part first mid end low high hole = any_from-join _ first mid end low high ∙ grind (arith, hole)

  -- the entries of one piece
  pub covered-piece : (first end : ℕ) (piece : Piece) → first < end → end ≤ first + piece.count → piece.first ≡ first → (piece.entry.region.0 == region) ≡ true
      → IsNextPiece entries first piece → IsCovered entries region perm first end (has piece.entry.cap.0 perm)
  unfolding has_hole forbids
  covered-piece first end piece some high begins same next = record {
    whole = none_from _ first end (λ p low less. ap not (passes-some (is_in region) (entries p) _ (shown p low less) ∙ same));
    free = elim (cases_Bool (has piece.entry.cap.0 perm)) [
      | inl all ↦ all ∙ sym (ap not (none_from _ first end (λ p low less. bad p low less ∙ ap not all)))
      | inr off ↦ off ∙ sym (ap not (any_from_at _ first end first (omega arith) some (bad first (omega arith) some ∙ ap not off)))
    ];
  } where
    shown : (p : ℕ) → first ≤ p → p < end → entries p ≡ mapping_from piece.first piece.entry p
    shown p low less = next.is.entries p (omega (arith, begins)) (omega (arith, begins))

    bad : (p : ℕ) → first ≤ p → p < end → passes (λ (entry : Entry). not (has entry.cap.0 perm)) (entries p) ≡ not (has piece.entry.cap.0 perm)
    bad p low less = passes-some (λ (entry : Entry). not (has entry.cap.0 perm)) (entries p) _ (shown p low less)

  -- the next piece begins behind the page, or belongs to another region
  pub hole-behind : (first end : ℕ) (piece : Piece) → first < end → piece.first ≢ first → IsNextPiece entries first piece → has_hole entries region first end ≡ true
  hole-behind first end piece some apart next =
      hole_at first end first (omega arith) some (passes-none (is_in region) (entries first) (next.bare first (omega arith)
      (elim (cases_lt first piece.first) [ inl less ↦ less | inr more ↦ absurd (apart (omega (arith, more, next.not_before))) ])))

  pub hole-other : (first end : ℕ) (piece : Piece) → first < end → piece.first ≡ first → (piece.entry.region.0 == region) ≡ false → IsNextPiece entries first piece
      → has_hole entries region first end ≡ true
  hole-other first end piece some begins apart next =
      hole_at first end first (omega arith) some (passes-some (is_in region) (entries first) _ (next.is.entries first (omega (arith, begins)) (omega (arith, begins, next.is.some)))
      ∙ apart)

  pub hole-none : (first end : ℕ) → first < end → IsBareFrom entries first → has_hole entries region first end ≡ true
  hole-none first end some bare = hole_at first end first (omega arith) some (passes-none (is_in region) (entries first) (bare first (omega arith)))

  -- where there is no hole, each page has an entry
  pub full : (first end : ℕ) → has_hole entries region first end ≡ false → IsFull entries first end
  unfolding has_hole passes
  full first end none p low high = there (entries p) (not-false _ (none_from_at _ first end p none low high)) where
    there : (o : Option Entry) → passes (is_in region) o ≡ true → IsSome o
    there None e = absurd cc
    there (Some entry) e = refl

-- ---- a change of permissions

-- so each VMO is mapped as often as before
pub mapped_count-protected : (spaces : Spaces) (root first end : ℕ) (perm : Perm) (v : ℕ) → mapped_count (protected spaces root first end perm) v ≡ mapped_count spaces v
unfolding mapped_count
mapped_count-protected spaces root first end perm v = λ i. sum_below NAMES (λ r. count_below ROOT_END (λ p. shows-protected spaces root first end perm v r p i))

-- the step, if nothing refuses it
pub protect_done : (s : State) (region : RegionName) (addr len : ℕ) (perm : Perm) (above : Region) → s.spaces.regions region.0 ≡ Some above
    → first_of (refusals s (VmarProtect region addr len perm)) ≡ None → (table : ℕ → ℕ → Option Entry)
    → table ≡ with_pages s.spaces.table above.root.0 (addr / PAGE) (addr / PAGE + rounded len / PAGE) (with_perm perm (s.spaces.table above.root.0))
    → Step s (VmarProtect region addr len perm) Done (record s { spaces = record s.spaces { table = table } })
protect_done s region addr len perm above given none table e =
    let same = e ∙ ap (λ (r : Region). with_pages s.spaces.table r.root.0 (addr / PAGE) (addr / PAGE + rounded len / PAGE) (with_perm perm (s.spaces.table r.root.0)))
    (sym (region_of-at s.spaces.regions region.0 above given)) in
    Step-done s (VmarProtect region addr len perm) Done (record s { spaces = record s.spaces { table = table } }) none (refl, λ i. record s { spaces = record s.spaces { table = same i } })
