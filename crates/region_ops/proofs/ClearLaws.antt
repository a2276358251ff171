-- Entries go piece by piece: what is left to take out, and what went so far.
use Rattle.std.proofs.Common.{◌≡◌, ℕ, ◌+◌, ◌<◌, ◌≤◌, true, false, cond, ◌==◌, ◌&&◌, Option, None, ◌⊎◌, refl, sym, ap, subst, ◌∙◌, inl, inr, arith}
use Rattle.std.specs.Prelude.{is_some}
use Rattle.std.proofs.lemmas.Bool.{cases_Bool, cases_eq, cases_lt, cond-true, cond-false, and_parts, and_from, and_right, both_ways, eq-eqb}
use Rattle.vm_base.specs.Search.{count_below}
use Rattle.vm_base.specs.Entries.{passes}
use Rattle.vm_base.specs.declared.limits.TheConstants.{PAGES_END}
use Rattle.vm_base.proofs.EntryLaws.{passes-none, passes-some, passes_found}
use Rattle.vm_base.proofs.SearchLaws.{eqb_is, none_from_at}
use Rattle.vm_model.specs.Contents.Content.{Content}
use Rattle.vm_model.specs.declared.space.Entry.{Entry}
use Rattle.vm_model.specs.Space.Table.{with_pages, is_in, has_entry}
use Rattle.vm_model.proofs.TableLaws.{with_pages-in, with_pages-out}
use Rattle.vmo_table.specs.Table.{Vmos}
use Rattle.mapping_set.specs.declared.piece.Piece.{Piece}
use Rattle.mapping_set.specs.Tables.{without_piece, IsPieceOf, IsPieceIn, IsFirstPiece, IsBare}
use Rattle.mapping_set.proofs.ChangeLaws.{with_pages-is}
use Rattle.region_ops.specs.Spaces.{without_entries, AreWell, LetsGo, with_entries}
use Rattle.region_ops.proofs.CountLaws.{HasLess, HasLess-same, HasLess-piece, count_below_range, entry_bounds}
use Rattle.region_ops.proofs.LeavingLaws.{LetsGo-same, LetsGo-next, AreWell-gone}

-- how many pages of an address space have an entry
abbrev pub entries_under : (ℕ → ℕ → Option Entry) → ℕ → ℕ
entries_under table root = count_below PAGES_END (λ p. is_some (table root p))

-- a page is one of a range of an address space, or not
cases_range : (root first end r p : ℕ) → ((r ≡ root) × (first ≤ p) × (p < end)) ⊎ (r ≡ root → first ≤ p → p < end → ⊥)
cases_range root first end r p = elim (cases_eq r root) [
  | inr apart ↦ inr (λ same low high. apart same)
  | inl same ↦ elim (cases_lt p first) [
    | inl before ↦ inr (λ is low high. omega (arith, before, low))
    | inr low ↦ elim (cases_lt p end) [ inl high ↦ inl (same, omega (arith, low), high) | inr behind ↦ inr (λ is from below. omega (arith, behind, below)) ]
  ]
]

-- ---- tables that are cleared

module _ (table : ℕ → ℕ → Option Entry) (root : ℕ) (piece : Piece) where
  -- fewer pages have an entry without a piece
  pub entries_under-piece : IsPieceOf (table root) piece → entries_under (without_piece table root piece) root < entries_under table root
  entries_under-piece is =
      let range = count_below_range true PAGES_END piece.first piece.count (λ p. is_some (table root p)) (λ p. is_some (without_piece table root piece root p)) is.end
      (λ p low high. (
        ap is_some (is.entries p low high),
        ap is_some (with_pages-in table root piece.first (piece.first + piece.count) (λ q. None) p low high),
      ))
      (λ p below out. ap is_some (with_pages-out table root piece.first (piece.first + piece.count) (λ q. None) root p (λ same low high. out low high))) in
      let some = is.some in
      omega (arith, range)

  -- a range is clear, whether one of its pieces went before or not
  pub cleared-piece : (first end : ℕ) → first ≤ piece.first → piece.first + piece.count ≤ end
      → with_pages (without_piece table root piece) root first end (λ p. None) ≡ with_pages table root first end (λ p. None)
  cleared-piece first end low high =
      with_pages-is table root first end (λ p. None) (with_pages (without_piece table root piece) root first end (λ p. None))
      (λ p from below. with_pages-in (without_piece table root piece) root first end (λ q. None) p from below)
      (λ r p out.
      with_pages-out (without_piece table root piece) root first end (λ q. None) r p out
      ∙ with_pages-out table root piece.first (piece.first + piece.count) (λ q. None) r p (λ same from below. out same (omega arith) (omega arith)))

  -- the entries of a region are gone, whether a piece of them went before or not
  pub without_entries-piece : (region : ℕ) → IsPieceIn (table root) region piece → without_entries (without_piece table root piece) root region ≡ without_entries table root region
  without_entries-piece region of = λ i r p. at r p i where
    inside : (r p : ℕ) → r ≡ root → piece.first ≤ p → p < piece.first + piece.count
        → without_entries (without_piece table root piece) root region r p ≡ without_entries table root region r p
    inside r p same low high =
        let none : without_piece table root piece r p ≡ None =
        ap (λ (k : ℕ). without_piece table root piece k p) same ∙ with_pages-in table root piece.first (piece.first + piece.count) (λ q. None) p low high in
        let its : passes (is_in region) (table r p) ≡ true =
        passes-some (is_in region) (table r p) _ (ap (λ (k : ℕ). table k p) same ∙ of.is.entries p low high) ∙ eq-eqb piece.entry.region.0 region of.region_is in
        cond-false _ _ _ (and_right (r == root) _ (passes-none (is_in region) _ none)) ∙ (none
        ∙ sym (cond-true _ _ _ (and_from (r == root) _ (eq-eqb r root same) its)))

    at : (r p : ℕ) → without_entries (without_piece table root piece) root region r p ≡ without_entries table root region r p
    at r p = elim (cases_range root piece.first (piece.first + piece.count) r p) [
      | inl is ↦ inside r p is.0 is.1 is.2
      | inr out ↦
          ap (λ (o : Option Entry). cond {A = Option Entry} ((r == root) && passes (is_in region) o) None o)
          (with_pages-out table root piece.first (piece.first + piece.count) (λ q. None) r p out)
    ]

-- a range that is bare is clear
pub cleared-bare : (table : ℕ → ℕ → Option Entry) (root first end : ℕ) → IsBare (table root) first end → table ≡ with_pages table root first end (λ p. None)
cleared-bare table root first end bare = with_pages-is table root first end (λ p. None) table bare (λ r p out. refl)

-- where no entry of a region is on a page, they are gone
pub without_entries-none : (c : Content) (vmos : Vmos) (table : ℕ → ℕ → Option Entry) (root region : ℕ) → AreWell c vmos table → has_entry table root region 0 PAGES_END ≡ false
    → table ≡ without_entries table root region
unfolding has_entry
without_entries-none c vmos table root region well off = λ i r p. at r p i where
  at : (r p : ℕ) → table r p ≡ without_entries table root region r p
  at r p = elim (cases_Bool ((r == root) && passes (is_in region) (table r p))) [
    | inr out ↦ sym (cond-false _ _ _ out)
    | inl is ↦
        let both = and_parts (r == root) (passes (is_in region) (table r p)) is in
        let found = passes_found (is_in region) (table r p) both.1 in
        let bounds = entry_bounds c (with_entries well.rest c vmos table).spaces well.well.good.spaces r p found.0 found.1 in
        let there : passes (is_in region) (table root p) ≡ true = ap (λ (k : ℕ). passes (is_in region) (table k p)) (sym (eqb_is r root both.0)) ∙ both.1 in
        absurd (both_ways _ (none_from_at _ 0 PAGES_END p off (omega arith) (omega (arith, bounds.1))) there)
  ]

-- ---- what went so far

-- Entries went one by one: those that are left were there, and what they kept is gone.
pub record IsOnTheWay (c : Content) (vmos : Vmos) (table : ℕ → ℕ → Option Entry) (d : Content) (after : Vmos) (less : ℕ → ℕ → Option Entry) : Type 0 where
  pub well : AreWell c vmos table
  pub kept : HasLess table less
  pub gone : LetsGo c vmos table d after less

module _ {c d : Content} {vmos after : Vmos} {table less : ℕ → ℕ → Option Entry} where
  pub IsOnTheWay-well : IsOnTheWay c vmos table d after less → AreWell d after less
  IsOnTheWay-well way = AreWell-gone c vmos table d after less way.well way.gone

  -- one piece more
  pub IsOnTheWay-piece : IsOnTheWay c vmos table d after less → (root : ℕ) (piece : Piece) (e : Content) (last : Vmos) → LetsGo d after less e last (without_piece less root piece)
      → IsOnTheWay c vmos table e last (without_piece less root piece)
  IsOnTheWay-piece way root piece e last next = record {
    well = way.well;
    kept = λ r p entry there. way.kept r p entry (HasLess-piece less root piece r p entry there);
    gone = LetsGo-next c vmos table d after less e last (without_piece less root piece) way.kept (HasLess-piece less root piece) way.gone next;
  }

-- nothing went yet
pub IsOnTheWay-start : {c : Content} {vmos : Vmos} {table : ℕ → ℕ → Option Entry} → AreWell c vmos table → IsOnTheWay c vmos table c vmos table
IsOnTheWay-start {c} {vmos} {table} well = record { well = well; kept = HasLess-same table; gone = LetsGo-same c vmos table }

-- room, while a range is cleared: as much as before, or a piece less and the range is bare
abbrev pub HasRoomLeft : (spare left : ℕ) → (ℕ → Option Entry) → (first end : ℕ) → Type 0
HasRoomLeft spare left entries first end = (spare ≤ left) ⊎ ((spare ≤ left + 1) × IsBare entries first end)

-- ---- one round of a loop

module _ (less new : ℕ → ℕ → Option Entry) (root : ℕ) (piece : Piece) (taken : new ≡ without_piece less root piece) where
  -- one piece more went
  pub IsOnTheWay-step : {c d : Content} {vmos after : Vmos} {table : ℕ → ℕ → Option Entry} → IsOnTheWay c vmos table d after less → IsPieceOf (less root) piece
      → (e : Content) (last : Vmos) → LetsGo d after less e last (without_piece less root piece) → IsOnTheWay c vmos table e last new
  IsOnTheWay-step {c} {d} {vmos} {after} {table} way is e last next = subst (IsOnTheWay c vmos table e last) (sym taken) (IsOnTheWay-piece way root piece e last next)

  -- fewer pages have an entry
  pub entries_under-step : IsPieceOf (less root) piece → entries_under new root < entries_under less root
  entries_under-step is = subst (λ (t : ℕ → ℕ → Option Entry). entries_under t root < entries_under less root) (sym taken) (entries_under-piece less root piece is)

  -- what the range is once it is clear stays
  pub cleared-step : (first end : ℕ) → IsFirstPiece (less root) first end piece → with_pages new root first end (λ p. None) ≡ with_pages less root first end (λ p. None)
  cleared-step first end at =
      ap (λ (t : ℕ → ℕ → Option Entry). with_pages t root first end (λ p. None)) taken ∙ cleared-piece less root piece first end at.next.not_before at.not_past

  -- room for one piece is lost at most, and then the range is bare
  pub HasRoomLeft-step : (first end spare left now : ℕ) → IsFirstPiece (less root) first end piece → left ≤ now + 1 → (now < left → IsBare (new root) first end)
      → HasRoomLeft spare left (less root) first end → HasRoomLeft spare now (new root) first end
  HasRoomLeft-step first end spare left now at few rest (inl all) = elim (cases_lt now left) [
    | inl lost ↦ inr (omega (arith, all, few), rest lost)
    | inr kept ↦ inl (omega (arith, all, kept))
  ]
  HasRoomLeft-step first end spare left now at few rest (inr bare) =
      let some = at.next.is.some in
      let past = at.not_past in
      let held = at.next.is.entries piece.first (omega arith) (omega arith) in
      let none = bare.1 piece.first at.next.not_before (omega arith) in
      absurd (let both = sym held ∙ none in cc)

  -- what the table is once the region has no entries stays
  pub without_entries-step : (region : ℕ) → IsPieceIn (less root) region piece → without_entries new root region ≡ without_entries less root region
  without_entries-step region of = ap (λ (t : ℕ → ℕ → Option Entry). without_entries t root region) taken ∙ without_entries-piece less root piece region of
