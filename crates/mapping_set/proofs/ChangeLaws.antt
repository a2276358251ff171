-- Tables whose entries change on a range of pages.
use Rattle.std.proofs.Common.{◌≡◌, ◌≢◌, ℕ, ◌+◌, ◌-◌, ◌<◌, ◌≤◌, cond, ◌&&◌, ◌==◌, Option, None, Some, ◌⊎◌, inl, inr, refl, sym, ap, ◌∙◌, arith}
use Rattle.std.specs.Option.{option_map}
use Rattle.std.proofs.lemmas.Bool.{cases_Bool, cases_lt, cases_eq, cond-true, cond-false, and_parts, and_from, both_ways}
use Rattle.vm_base.specs.declared.flags.Perm.{Perm}
use Rattle.vm_base.proofs.SearchLaws.{eqb_is, eqb_same}
use Rattle.vm_model.specs.declared.space.Entry.{Entry}
use Rattle.vm_model.specs.Contents.Zeroing.{is_within}
use Rattle.vm_model.specs.Space.Table.{mapping_from, with_pages, with_perm}
use Rattle.vm_model.proofs.TableLaws.{with_pages-in, with_pages-out}
use Rattle.vm_model.proofs.ZeroingLaws.{is_within-true, is_within-parts}
use Rattle.mapping_set.specs.declared.piece.Piece.{Piece}
use Rattle.mapping_set.specs.Pieces.{piece_from, piece_until, piece_with_perm}
use Rattle.mapping_set.specs.Tables.{with_piece, without_piece}

module _ (table : ℕ → ℕ → Option Entry) (root first end : ℕ) (now : ℕ → Option Entry) where
  -- a table of which both hold
  pub with_pages-is : (new : ℕ → ℕ → Option Entry) → ((p : ℕ) → first ≤ p → p < end → new root p ≡ now p)
      → ((r p : ℕ) → (r ≡ root → first ≤ p → p < end → ⊥) → new r p ≡ table r p) → new ≡ with_pages table root first end now
  unfolding with_pages
  with_pages-is new inside outside = λ i r p. at r p i where
    at : (r p : ℕ) → new r p ≡ cond ((r == root) && is_within first end p) (now p) (table r p)
    at r p = elim (cases_Bool ((r == root) && is_within first end p)) [
      | inl is ↦
          let both = and_parts (r == root) (is_within first end p) is in
          let within = is_within-parts first end p both.1 in
          ap (λ s. new s p) (eqb_is r root both.0) ∙ (inside p within.0 within.1 ∙ sym (cond-true _ _ _ is))
      | inr out ↦ outside r p (λ same low high. both_ways ((r == root) && is_within first end p) out
          (and_from (r == root) (is_within first end p) (ap (λ n. n == root) same ∙ eqb_same root) (is_within-true first end p low high)))
          ∙ sym (cond-false _ _ _ out)
    ]

  -- the same, by pages before and behind the range, and those of other root regions
  pub with_pages-are : (new : ℕ → ℕ → Option Entry) → ((p : ℕ) → first ≤ p → p < end → new root p ≡ now p)
      → ((p : ℕ) → (p < first) ⊎ (end ≤ p) → new root p ≡ table root p) → ((r p : ℕ) → r ≢ root → new r p ≡ table r p) → new ≡ with_pages table root first end now
  with_pages-are new inside beside elsewhere = with_pages-is new inside (λ r p out. elim (cases_eq r root) [
    | inl same ↦
        ap (λ s. new s p) same ∙ (beside p (elim (cases_lt p first) [
          | inl before ↦ inl before
          | inr low ↦ elim (cases_lt p end) [ inl high ↦ absurd (out same low high) | inr behind ↦ inr behind ]
        ]) ∙ ap (λ s. table s p) (sym same))
    | inr apart ↦ elsewhere r p apart
  ])

  pub with_pages-beside : (p : ℕ) → (p < first) ⊎ (end ≤ p) → with_pages table root first end now root p ≡ table root p
  with_pages-beside p out = with_pages-out table root first end now root p (λ same low high. elim out [ inl before ↦ absurd (omega arith) | inr behind ↦ absurd (omega arith) ])

  pub with_pages-elsewhere : (r p : ℕ) → r ≢ root → with_pages table root first end now r p ≡ table r p
  with_pages-elsewhere r p apart = with_pages-out table root first end now r p (λ same low high. apart same)

-- a part of a piece shows what the piece does
from-shows : (x : Piece) (page p : ℕ) → x.first ≤ page → page ≤ p → mapping_from (piece_from x page).first (piece_from x page).entry p ≡ mapping_from x.first x.entry p
from-shows x page p low high =
    let same : x.entry.page + (page - x.first) + (p - page) ≡ x.entry.page + (p - x.first) = omega arith in
    ap (λ (n : ℕ). Some (record x.entry { page = n })) same

module _ (table : ℕ → ℕ → Option Entry) (root : ℕ) (x : Piece) (shown : (p : ℕ) → x.first ≤ p → p < x.first + x.count → table root p ≡ mapping_from x.first x.entry p) where
  abbrev taken : ℕ → ℕ → Option Entry
  taken = without_piece table root x

  module _ (page : ℕ) (low : x.first < page) (high : page < x.first + x.count) where
    abbrev tail : Piece
    tail = piece_from x page

    abbrev head : Piece
    head = piece_until x page

    -- a piece goes, and the part of it from a page on comes back
    pub taken-tail : with_piece taken root tail ≡ without_piece table root head
    taken-tail = with_pages-are table root head.first (head.first + head.count) (λ p. None) (with_piece taken root tail)
        (λ p from below.
        with_pages-beside taken root tail.first (tail.first + tail.count) (mapping_from tail.first tail.entry) p (inl (omega arith))
        ∙ with_pages-in table root x.first (x.first + x.count) (λ q. None) p from (omega arith))
        (λ p out. elim (cases_lt p page) [
          | inl before ↦
              with_pages-beside taken root tail.first (tail.first + tail.count) (mapping_from tail.first tail.entry) p (inl before)
              ∙ with_pages-beside table root x.first (x.first + x.count) (λ q. None) p
              (elim out [ inl less ↦ inl less | inr more ↦ absurd (omega arith) ])
          | inr behind ↦ elim (cases_lt p (x.first + x.count)) [
            | inl below ↦
                with_pages-in taken root tail.first (tail.first + tail.count) (mapping_from tail.first tail.entry) p behind (omega arith)
                ∙ (from-shows x page p (omega arith) behind ∙ sym (shown p (omega arith) below))
            | inr past ↦
                with_pages-beside taken root tail.first (tail.first + tail.count) (mapping_from tail.first tail.entry) p (inr (omega arith))
                ∙ with_pages-beside table root x.first (x.first + x.count) (λ q. None) p (inr past)
          ]
        ])
        (λ r p apart.
        with_pages-elsewhere taken root tail.first (tail.first + tail.count) (mapping_from tail.first tail.entry) r p apart
        ∙ with_pages-elsewhere table root x.first (x.first + x.count) (λ q. None) r p apart)

  -- a piece goes, and the part of it before a page comes back
  pub taken-head : (page : ℕ) → x.first < page → page ≤ x.first + x.count → with_piece taken root (piece_until x page) ≡ with_pages table root page (x.first + x.count) (λ p. None)
  taken-head page low high = with_pages-are table root page (x.first + x.count) (λ p. None) (with_piece taken root (piece_until x page))
      (λ p from below.
      with_pages-beside taken root x.first (x.first + (page - x.first)) (mapping_from x.first x.entry) p (inr (omega arith))
      ∙ with_pages-in table root x.first (x.first + x.count) (λ q. None) p (omega arith) below)
      (λ p out. elim (cases_lt p x.first) [
        | inl before ↦
            with_pages-beside taken root x.first (x.first + (page - x.first)) (mapping_from x.first x.entry) p (inl before)
            ∙ with_pages-beside table root x.first (x.first + x.count) (λ q. None) p (inl before)
        | inr more ↦ elim out [
          | inl less ↦ with_pages-in taken root x.first (x.first + (page - x.first)) (mapping_from x.first x.entry) p more (omega arith) ∙ sym (shown p more (omega arith))
          | inr past ↦
              with_pages-beside taken root x.first (x.first + (page - x.first)) (mapping_from x.first x.entry) p (inr (omega arith))
              ∙ with_pages-beside table root x.first (x.first + x.count) (λ q. None) p (inr past)
        ]
      ])
      (λ r p apart.
      with_pages-elsewhere taken root x.first (x.first + (page - x.first)) (mapping_from x.first x.entry) r p apart
      ∙ with_pages-elsewhere table root x.first (x.first + x.count) (λ q. None) r p apart)

  -- a piece goes, and comes back with other permissions
  pub taken-perm : (perm : Perm) (y : Piece) → y ≡ piece_with_perm x perm → (at to : ℕ) → at ≡ x.first → to ≡ x.first + x.count
      → with_piece taken root y ≡ with_pages table root at to (with_perm perm (table root))
  taken-perm perm y is at to at_is to_is = ap (with_piece taken root) is ∙ with_pages-are table root at to (with_perm perm (table root)) (with_piece taken root (piece_with_perm x perm))
      (λ p low high.
      with_pages-in taken root x.first (x.first + x.count) (mapping_from x.first (piece_with_perm x perm).entry) p (omega arith) (omega arith)
      ∙ ap (option_map (λ (entry : Entry). record entry { perm = perm })) (sym (shown p (omega arith) (omega arith))))
      (λ p out.
      let beside : (p < x.first) ⊎ (x.first + x.count ≤ p) = elim out [ inl less ↦ inl (omega arith) | inr more ↦ inr (omega arith) ] in
      with_pages-beside taken root x.first (x.first + x.count) (mapping_from x.first (piece_with_perm x perm).entry) p beside
      ∙ with_pages-beside table root x.first (x.first + x.count) (λ q. None) p beside)
      (λ r p apart.
      with_pages-elsewhere taken root x.first (x.first + x.count) (mapping_from x.first (piece_with_perm x perm).entry) r p apart
      ∙ with_pages-elsewhere table root x.first (x.first + x.count) (λ q. None) r p apart)

-- permissions change on a range, and on the next one
module _ (table : ℕ → ℕ → Option Entry) (root : ℕ) (perm : Perm) (first at to : ℕ) (low : first ≤ at) (high : at ≤ to) where
  abbrev now : ℕ → Option Entry
  now = with_perm perm (table root)

  abbrev half : ℕ → ℕ → Option Entry
  half = with_pages table root first at now

  both : with_pages half root at to (with_perm perm (half root)) ≡ with_pages table root first to now
  both = with_pages-are table root first to now (with_pages half root at to (with_perm perm (half root)))
      (λ p from below. elim (cases_lt p at) [
        | inl before ↦
            with_pages-beside half root at to (with_perm perm (half root)) p (inl before)
            ∙ with_pages-in table root first at now p from before
        | inr behind ↦
            with_pages-in half root at to (with_perm perm (half root)) p behind below
            ∙ ap (option_map (λ (entry : Entry). record entry { perm = perm })) (with_pages-beside table root first at now p (inr behind))
      ])
      (λ p out.
      let beside : (p < at) ⊎ (to ≤ p) = elim out [ inl less ↦ inl (omega arith) | inr more ↦ inr more ] in
      let before : (p < first) ⊎ (at ≤ p) = elim out [ inl less ↦ inl less | inr more ↦ inr (omega arith) ] in
      with_pages-beside half root at to (with_perm perm (half root)) p beside ∙ with_pages-beside table root first at now p before)
      (λ r p apart.
      with_pages-elsewhere half root at to (with_perm perm (half root)) r p apart ∙ with_pages-elsewhere table root first at now r p apart)

  pub perms-next : (mid new : ℕ → ℕ → Option Entry) → mid ≡ half → new ≡ with_pages mid root at to (with_perm perm (mid root)) → new ≡ with_pages table root first to now
  perms-next mid new mid_is new_is = new_is ∙ (ap (λ (t : ℕ → ℕ → Option Entry). with_pages t root at to (with_perm perm (t root))) mid_is ∙ both)

-- permissions change on no page
pub perms-none : (table : ℕ → ℕ → Option Entry) (root first : ℕ) (now : ℕ → Option Entry) → table ≡ with_pages table root first first now
perms-none table root first now =
    with_pages-are table root first first now table (λ p low high. absurd (omega arith)) (λ p out. refl) (λ r p apart. refl)
