-- What the calls leave of the rows.
use Rattle.std.proofs.Common.{◌≡◌, ◌⊎◌, ℕ, ◌+◌, ◌-◌, ◌^◌, ◌<◌, ◌≤◌, Bool, true, false, not, cond, ◌&&◌, ◌==◌, Option, None, Some, refl, sym, ap, subst, ◌∙◌, inl, inr, arith}
use Rattle.std.specs.Prelude.{nat_lt, IsSome, IfSome}
use Rattle.std.specs.Option.{option_and_then}
use Rattle.std.proofs.lemmas.Bool.{cases_Bool, and_parts, and_from, eq-eqb, lt-ltb, le-ltb, ltb-true, ltb-false, not-true}
use Rattle.std.proofs.lemmas.Bool.Decides.{nat_tests}
use Rattle.vm_base.specs.declared.names.Tag.{Tag}
use Rattle.vm_base.specs.Entries.{passes}
use Rattle.vm_base.proofs.EntryLaws.{some_same}
use Rattle.vm_base.specs.Search.{any_from}
use Rattle.vm_base.proofs.SearchLaws.{eqb_is, any_from_found, any_from_at}
use Rattle.std.specs.Cmp.{both_ways}
use Rattle.vm_model.specs.declared.space.Readiness.TheVariants.{Read}
use Rattle.vm_model.specs.Naming.Pins.{Pin, is_pinned, any_pinned}
use Rattle.vm_model.specs.Contents.Content.{Content}
use Rattle.vm_model.specs.Contents.Zeroing.{is_within}
use Rattle.vm_model.specs.Space.Readiness.{is_same_frame, frame_number}
use Rattle.vm_model.proofs.ContentLaws.{same_page}
use Rattle.pair_map.specs.declared.pair_map.PairMap.{PairMap}
use Rattle.pair_map.specs.Maps.{values_of, with_pair}
use Rattle.page_store.proofs.LinkLaws.{pair-here, pair-other, pair-same, pair-cases}
use Rattle.checker_ready.specs.declared.ready_map.ReadyPage.{ReadyPage}
use Rattle.checker_ready.specs.declared.stamps.Kept.{Kept}
use Rattle.checker_ready.specs.declared.stamps.Stamp.{Stamp}
use Rattle.checker_ready.specs.Notes.{Notes, ReadyRows, ready_page, rows_of, stamp_for, has_frame, is_row_in, changed_rows, row_if_current, row_limited, without_range, HasNoRow, IsReadySomewhere, IsStamp, AreNotes, lowered, counting, HasCount}
use Rattle.checker_ready.proofs.CountLaws.{without_place, count-same, count-more, count-less, count-none, count-some, without-none, counts, counts-is, counts-apart, counts-old, counts-not, counting-at, counting-dropped, counting-here, counting-other}
use Rattle.checker_ready.proofs.StampLaws.{row_of, changed-here, changed-other, page-stamped, page-noted, page-limited, page-unlimited, page-settled, page-lowered}

-- what a note says under these stamps
abbrev noted_under : (ℕ → ℕ → Option Stamp) → Option Kept → Option ReadyPage
noted_under stamps = option_and_then (λ (kept : Kept). ready_page kept (stamps kept.koid.0 kept.page))

-- ---- one stamp changes

-- what a change of the stamp of page p of the VMO v makes of the rows of its notes, it makes of all rows
module _ (m : Notes) (v p : ℕ) (o : Option Stamp) (new : ℕ → ℕ → Option Stamp) (values : new ≡ with_pair (values_of m.stamps) v p o) (change : ReadyPage → Option ReadyPage)
    (each : (k : Kept) (r q : ℕ) → values_of m.places r q ≡ Some k → k.koid.0 ≡ v → k.page ≡ p → ready_page k o ≡ option_and_then change (ready_page k (values_of m.stamps v p))) where
  abbrev old : ℕ → ℕ → Option Stamp
  old = values_of m.stamps

  pub row-changed : (r q : ℕ) → noted_under new (values_of m.places r q) ≡ changed_rows change v p (p + 1) (rows_of m) r q
  unfolding changed_rows
  row-changed r q = go (values_of m.places r q) refl where
    go : (n : Option Kept) → values_of m.places r q ≡ n → noted_under new n ≡ option_and_then (λ row. cond (is_row_in v p (p + 1) row) (change row) (Some row)) (noted_under old n)
    go None e = refl
    go (Some k) e = ap (λ (map : ℕ → ℕ → Option Stamp). ready_page k (map k.koid.0 k.page)) values ∙ elim (same_page v p k.koid.0 k.page) [
      | inl here ↦
          (λ i. ready_page k (with_pair old v p o (here.0 i) (here.1 i))) ∙ (ap (ready_page k) (pair-here old v p o) ∙ (each k r q e here.0 here.1
          ∙ ((λ i. option_and_then change (ready_page k (old (sym here.0 i) (sym here.1 i)))) ∙ sym (changed-here change v p k here.0 here.1 (old k.koid.0 k.page)))))
      | inr apart ↦ ap (ready_page k) (pair-other old v p o k.koid.0 k.page apart) ∙ sym (changed-other change v p k apart (old k.koid.0 k.page))
    ]

module _ (m : Notes) (v p : ℕ) (stamps : PairMap Stamp) where
  -- the stamp goes, since it has another frame
  pub rows-settled : (c : Content) (s : Stamp) → values_of m.stamps v p ≡ Some s → has_frame c v p s.frame ≡ false → values_of stamps ≡ with_pair (values_of m.stamps) v p None
      → rows_of (record m { stamps = stamps }) ≡ changed_rows (row_if_current c) v p (p + 1) (rows_of m)
  rows-settled c s found other values = λ i r q. row-changed m v p None (values_of stamps) values (row_if_current c)
      (λ k r q e koid page. rw found (page-settled c k s false ((λ i. has_frame c (koid i) (page i) s.frame) ∙ other))) r q i

  -- the page is for reading alone from now on
  pub rows-limited : AreNotes m → (s : Stamp) → values_of m.stamps v p ≡ Some s → values_of stamps ≡ with_pair (values_of m.stamps) v p (Some (record s { shared = m.time }))
      → rows_of (record m { stamps = stamps }) ≡ changed_rows (row_limited (λ q. false)) v p (p + 1) (rows_of m)
  rows-limited notes s found values = λ i r q. row-changed m v p (Some (record s { shared = m.time })) (values_of stamps) values (row_limited (λ q. false))
      (λ k r q e koid page. page-limited k m.time s (notes.made r q k e) ∙ ap (λ (o : Option Stamp). option_and_then (row_limited (λ q. false)) (ready_page k o)) (sym found)) r q i

-- no stamp changes
module _ (m : Notes) (v p : ℕ) where
  same-stamps : values_of m.stamps ≡ with_pair (values_of m.stamps) v p (values_of m.stamps v p)
  same-stamps = pair-same (values_of m.stamps) v p (values_of m.stamps v p) refl

  -- the page stays
  pub rows-unlimited : (stays : Bool) → stays ≡ true → rows_of m ≡ changed_rows (row_limited (λ q. stays)) v p (p + 1) (rows_of m)
  rows-unlimited stays is = λ i r q. row-changed m v p (values_of m.stamps v p) (values_of m.stamps) same-stamps (row_limited (λ q. stays))
      (λ k r q e koid page. rw is (page-unlimited k (values_of m.stamps v p))) r q i

  -- the stamp has the frame
  pub rows-current : (c : Content) (s : Stamp) → values_of m.stamps v p ≡ Some s → has_frame c v p s.frame ≡ true → rows_of m ≡ changed_rows (row_if_current c) v p (p + 1) (rows_of m)
  rows-current c s found same = λ i r q. row-changed m v p (values_of m.stamps v p) (values_of m.stamps) same-stamps (row_if_current c)
      (λ k r q e koid page. rw found (page-settled c k s true ((λ i. has_frame c (koid i) (page i) s.frame) ∙ same))) r q i

-- ---- the notes stay so

-- what holds of the new value of a pair, and of the values of the others, holds of all
pair-each : {V : Type 0} (holds : ℕ → ℕ → V → Type 0) (old new : ℕ → ℕ → Option V) (a b : ℕ) (o : Option V) → new ≡ with_pair old a b o
    → ((x : V) → o ≡ Some x → holds a b x) → ((k q : ℕ) (x : V) → (k ≡ a → q ≡ b → ⊥) → old k q ≡ Some x → holds k q x)
    → (k q : ℕ) (x : V) → new k q ≡ Some x → holds k q x
pair-each holds old new a b o is here other k q x e = elim (pair-cases old a b o k q x (ap (λ (map : ℕ → ℕ → Option _). map k q) (sym is) ∙ e)) [
  | inl hit ↦ rw (hit.0, hit.1) (here x hit.2)
  | inr miss ↦ other k q x miss.0 miss.1
]

module _ (m : Notes) (v p : ℕ) (stamps : PairMap Stamp) (o : Option Stamp) (notes : AreNotes m) (values : values_of stamps ≡ with_pair (values_of m.stamps) v p o) where
  pub AreNotes-stamped : ((s : Stamp) → o ≡ Some s → IsStamp (values_of m.places) m.time v p s) → m.room ≤ stamps.spare → AreNotes (record m { stamps = stamps })
  AreNotes-stamped here room = record {
    made = notes.made;
    stamped = pair-each (IsStamp (values_of m.places) m.time) (values_of m.stamps) (values_of stamps) v p o values here (λ w q s apart. notes.stamped w q s);
    places_room = notes.places_room;
    stamps_room = room;
    times = notes.times;
  }

-- the maps have room for more
pub AreNotes-reserved : (m : Notes) (places : PairMap Kept) (stamps : PairMap Stamp) (room : ℕ) → AreNotes m → values_of places ≡ values_of m.places → values_of stamps ≡ values_of m.stamps
    → room ≤ places.spare → room ≤ stamps.spare → m.time + room < 2 ^ 64 → AreNotes (record m { places = places; stamps = stamps; room = room })
AreNotes-reserved m places stamps room notes same alike places_room stamps_room times = record {
  made = λ r q k e. notes.made r q k (ap (λ (map : ℕ → ℕ → Option Kept). map r q) (sym same) ∙ e);
  stamped = λ v p s e. subst (λ (map : ℕ → ℕ → Option Kept). IsStamp map m.time v p s) (sym same) (notes.stamped v p s (ap (λ (map : ℕ → ℕ → Option Stamp). map v p) (sym alike) ∙ e));
  places_room = places_room;
  stamps_room = stamps_room;
  times = times;
}

-- where there is room for a note, a stamp can count it
pub notes_few : (m : Notes) (v p : ℕ) (o : Option Stamp) → AreNotes m → o ≡ values_of m.stamps v p → 1 ≤ m.room → IfSome o (λ s. s.notes + 1 < 2 ^ 64)
notes_few m v p None notes is some = tt
notes_few m v p (Some s) notes is some = omega (arith, some, notes.times, (notes.stamped v p s (sym is)).few)

-- the page is for reading alone from now on
pub AreNotes-limited : (m : Notes) (v p : ℕ) (stamps : PairMap Stamp) (s : Stamp) → AreNotes m → values_of m.stamps v p ≡ Some s
    → values_of stamps ≡ with_pair (values_of m.stamps) v p (Some (record s { shared = m.time })) → m.room ≤ stamps.spare → AreNotes (record m { stamps = stamps })
AreNotes-limited m v p stamps s notes found values = AreNotes-stamped m v p stamps (Some (record s { shared = m.time })) notes values (λ t is.
    let was = notes.stamped v p s found in
    subst (IsStamp (values_of m.places) m.time v p) (some_same is) (record { since = was.since; shared = omega arith; counted = was.counted; some = was.some; few = was.few }))

-- ---- one note more

module _ (m : Notes) (root page : ℕ) (k : Kept) (frame : Option Tag) (notes : AreNotes m) (places : PairMap Kept) (stamps : PairMap Stamp) (room : ℕ)
    (now : k.made ≡ m.time) (put : values_of places ≡ with_pair (values_of m.places) root page (Some k))
    (values : values_of stamps ≡ with_pair (values_of m.stamps) k.koid.0 k.page (Some (stamp_for (values_of m.stamps k.koid.0 k.page) frame m.time))) where
  abbrev after : Notes
  after = record m { places = places; stamps = stamps; time = m.time + 1; room = room }

  pub rows-set : (c : Content) → has_frame c k.koid.0 k.page frame ≡ true
      → rows_of after ≡ with_pair (changed_rows (row_if_current c) k.koid.0 k.page (k.page + 1) (rows_of m)) root page (Some (record { koid = k.koid; page = k.page; frame = frame; readiness = k.readiness }))
  rows-set c has = λ i r q. each r q i where
    old_row : (r q : ℕ) → noted_under (values_of stamps) (values_of m.places r q) ≡ changed_rows (row_if_current c) k.koid.0 k.page (k.page + 1) (rows_of m) r q
    old_row = row-changed m k.koid.0 k.page (Some (stamp_for (values_of m.stamps k.koid.0 k.page) frame m.time)) (values_of stamps) values (row_if_current c)
        (λ j r q e koid shown. page-stamped c j frame m.time (values_of m.stamps k.koid.0 k.page) (notes.made r q j e) ((λ i. has_frame c (koid i) (shown i) frame) ∙ has))

    new_row : noted_under (values_of stamps) (Some k) ≡ Some (record { koid = k.koid; page = k.page; frame = frame; readiness = k.readiness })
    new_row =
        ap (λ (map : ℕ → ℕ → Option Stamp). ready_page k (map k.koid.0 k.page)) values
        ∙ (ap (ready_page k) (pair-here (values_of m.stamps) k.koid.0 k.page (Some (stamp_for (values_of m.stamps k.koid.0 k.page) frame m.time)))
        ∙ (ap (λ (t : ℕ). ready_page k (Some (stamp_for (values_of m.stamps k.koid.0 k.page) frame t))) (sym now)
        ∙ page-noted k frame (values_of m.stamps k.koid.0 k.page) (λ s e. let low = notes.stamped k.koid.0 k.page s e in (omega (arith, low.since), omega (arith, low.shared)))))

    each : (r q : ℕ) → rows_of after r q
        ≡ with_pair (changed_rows (row_if_current c) k.koid.0 k.page (k.page + 1) (rows_of m)) root page (Some (record { koid = k.koid; page = k.page; frame = frame; readiness = k.readiness })) r q
    each r q = ap (λ (map : ℕ → ℕ → Option Kept). noted_under (values_of stamps) (map r q)) put ∙ elim (same_page root page r q) [
      | inl here ↦ rw (here.0, here.1) (ap (noted_under (values_of stamps)) (pair-here (values_of m.places) root page (Some k)) ∙ (new_row ∙ sym (pair-here _ root page _)))
      | inr apart ↦ ap (noted_under (values_of stamps)) (pair-other (values_of m.places) root page (Some k) r q apart) ∙ (old_row r q ∙ sym (pair-other _ root page _ r q apart))
    ]

  -- the page had no note
  module _ (none : values_of m.places root page ≡ None) where
    -- what counts under the stamp of the page has this one too
    fresh : HasCount (counting (values_of places) k.koid.0 k.page m.time) 1
    unfolding passes
    fresh = count-more (λ a b. false) (counting (values_of places) k.koid.0 k.page m.time) root page 0 refl here other (λ a b. refl) where
      here : counting (values_of places) k.koid.0 k.page m.time root page ≡ true
      here = counting-here (values_of m.places) (values_of places) root page k put k.koid.0 k.page m.time
          ∙ counts-is k k.koid.0 k.page m.time refl refl (le-ltb k.made m.time (omega arith))

      old : (o : Option Kept) → ((j : Kept) → o ≡ Some j → j.made < m.time) → passes (counts k.koid.0 k.page m.time) o ≡ false
      old None before = refl
      old (Some j) before = counts-old j k.koid.0 k.page m.time (lt-ltb j.made m.time (before j refl))

      other : (a b : ℕ) → (a ≡ root → b ≡ page → ⊥) → counting (values_of places) k.koid.0 k.page m.time a b ≡ false
      other a b apart = counting-other (values_of m.places) (values_of places) root page k put k.koid.0 k.page m.time a b apart
          ∙ old (values_of m.places a b) (notes.made a b)

    none_before : (v p since : ℕ) → counting (values_of m.places) v p since root page ≡ false
    unfolding passes
    none_before v p since = counting-at (values_of m.places) v p since root page None none

    added : (since n : ℕ) → since ≤ m.time → HasCount (counting (values_of m.places) k.koid.0 k.page since) n → HasCount (counting (values_of places) k.koid.0 k.page since) (n + 1)
    added since n low count = count-more (counting (values_of m.places) k.koid.0 k.page since) (counting (values_of places) k.koid.0 k.page since) root page n
        (none_before k.koid.0 k.page since)
        (counting-here (values_of m.places) (values_of places) root page k put k.koid.0 k.page since ∙ counts-is k k.koid.0 k.page since refl refl (le-ltb k.made since (omega arith)))
        (counting-other (values_of m.places) (values_of places) root page k put k.koid.0 k.page since) count

    -- the stamp of a page that had none, or another frame
    abbrev fresh_stamp : Stamp
    fresh_stamp = record { frame = frame; since = m.time; shared = m.time; notes = 1 }

    first_fits : IsStamp (values_of places) (m.time + 1) k.koid.0 k.page fresh_stamp
    first_fits = record { since = omega arith; shared = omega arith; counted = fresh; some = omega arith; few = omega arith }

    stamp_fits : (at : Option Stamp) → values_of m.stamps k.koid.0 k.page ≡ at → IsStamp (values_of places) (m.time + 1) k.koid.0 k.page (stamp_for at frame m.time)
    stamp_fits None e = first_fits
    stamp_fits (Some s) e = go (is_same_frame (frame_number s.frame) (frame_number frame)) (notes.stamped k.koid.0 k.page s e) where
      go : (alike : Bool) → IsStamp (values_of m.places) m.time k.koid.0 k.page s → IsStamp (values_of places) (m.time + 1) k.koid.0 k.page (cond alike (record s { notes = s.notes + 1 }) fresh_stamp)
      go true was = record {
        since = omega (arith, was.since);
        shared = omega (arith, was.shared);
        counted = added s.since s.notes was.since was.counted;
        some = omega arith;
        few = omega (arith, was.few);
      }
      go false was = first_fits

    same_places : (v p since : ℕ) → (v ≡ k.koid.0 → p ≡ k.page → ⊥) → (a b : ℕ) → counting (values_of m.places) v p since a b ≡ counting (values_of places) v p since a b
    unfolding passes
    same_places v p since apart a b = elim (same_page root page a b) [
      | inl here ↦
          (λ i. counting (values_of m.places) v p since (here.0 i) (here.1 i)) ∙ none_before v p since
          ∙ sym ((λ i. counting (values_of places) v p since (here.0 i) (here.1 i)) ∙ counting-here (values_of m.places) (values_of places) root page k put v p since ∙ counts-apart k v p since apart)
      | inr other ↦ sym (counting-other (values_of m.places) (values_of places) root page k put v p since a b other)
    ]

    pub AreNotes-set : room + 1 ≡ m.room → room ≤ places.spare → room ≤ stamps.spare → AreNotes after
    AreNotes-set fewer low high = record {
      made = pair-each (λ r q j. j.made < m.time + 1) (values_of m.places) (values_of places) root page (Some k) put
          (λ j is. let same = ap (λ (x : Kept). x.made) (some_same is) in omega arith) (λ r q j apart e. let before = notes.made r q j e in omega arith);
      stamped = pair-each (IsStamp (values_of places) (m.time + 1)) (values_of m.stamps) (values_of stamps) k.koid.0 k.page (Some (stamp_for (values_of m.stamps k.koid.0 k.page) frame m.time)) values
          (λ s is. subst (IsStamp (values_of places) (m.time + 1) k.koid.0 k.page) (some_same is) (stamp_fits (values_of m.stamps k.koid.0 k.page) refl))
          (λ v p s apart e.
          let was = notes.stamped v p s e in
          record {
            since = omega (arith, was.since);
            shared = omega (arith, was.shared);
            counted = count-same (counting (values_of m.places) v p s.since) (counting (values_of places) v p s.since) s.notes (same_places v p s.since apart) was.counted;
            some = was.some;
            few = omega (arith, was.few);
          });
      places_room = low;
      stamps_room = high;
      times = let all = notes.times in omega arith;
    }

-- a note in place of another
pub row-cleared : (change : ReadyPage → Option ReadyPage) (v first end : ℕ) (rows : ReadyRows) (root page : ℕ) (row : ReadyPage)
    → with_pair (changed_rows change v first end (without_range rows root page (page + 1))) root page (Some row) ≡ with_pair (changed_rows change v first end rows) root page (Some row)
unfolding with_pair changed_rows without_range
row-cleared change v first end rows root page row = λ i r q. each r q i where
  each : (r q : ℕ) → cond ((r == root) && (q == page)) (Some row) (option_and_then (λ x. cond (is_row_in v first end x) (change x) (Some x)) (cond ((r == root) && is_within page (page + 1) q) None (rows r q)))
      ≡ cond ((r == root) && (q == page)) (Some row) (option_and_then (λ x. cond (is_row_in v first end x) (change x) (Some x)) (rows r q))
  each r q = elim (cases_Bool ((r == root) && (q == page))) [
    | inl hit ↦ rw hit refl
    | inr miss ↦ let outside : ((r == root) && is_within page (page + 1) q) ≡ false = grind (arith, nat_tests) in rw (miss, outside) refl
  ]

-- ---- pages of an address space are dropped

module _ (m : Notes) (root p : ℕ) (k : Kept) (places : PairMap Kept) (stamps : PairMap Stamp) (notes : AreNotes m) (at : values_of m.places root p ≡ Some k)
    (gone : values_of places ≡ with_pair (values_of m.places) root p None)
    (less : values_of stamps ≡ with_pair (values_of m.stamps) k.koid.0 k.page (lowered k.made (values_of m.stamps k.koid.0 k.page))) where
  -- the note counts under its stamp, unless it is from before
  counted_here : (since : ℕ) → nat_lt k.made since ≡ false → counting (values_of m.places) k.koid.0 k.page since root p ≡ true
  unfolding passes
  counted_here since new = counting-at (values_of m.places) k.koid.0 k.page since root p (Some k) at ∙ counts-is k k.koid.0 k.page since refl refl new

  -- if it is the only one, others are from before
  alone : (r q : ℕ) (j : Kept) (s : Stamp) → (r ≡ root → q ≡ p → ⊥) → values_of m.places r q ≡ Some j → j.koid.0 ≡ k.koid.0 → j.page ≡ k.page
      → values_of m.stamps k.koid.0 k.page ≡ Some s → nat_lt k.made s.since ≡ false → nat_lt 1 s.notes ≡ false → nat_lt j.made s.since ≡ true
  unfolding passes
  alone r q j s apart is koid page found new one =
      let few : s.notes ≤ 1 = ltb-false 1 s.notes one in
      let rest = count-less s.notes (counting (values_of m.places) k.koid.0 k.page s.since) root p (notes.stamped k.koid.0 k.page s found).counted (counted_here s.since new) in
      let none = count-none rest.0 (without_place (counting (values_of m.places) k.koid.0 k.page s.since) root p) rest.2 (let suc_is = rest.1 in omega arith) r q in
      counts-not j k.koid.0 k.page s.since (sym (counting-at (values_of m.places) k.koid.0 k.page s.since r q (Some j) is) ∙ other (counting (values_of m.places) k.koid.0 k.page s.since r q) none) koid page
    where
      miss : ((r == root) && (q == p)) ≡ false
      miss = grind (arith, nat_tests)

      other : (b : Bool) → (b && not ((r == root) && (q == p))) ≡ false → b ≡ false
      other true e = absurd (let out = miss in grind (arith, nat_tests))
      other false e = refl

  pub rows-dropped : rows_of (record m { places = places; stamps = stamps }) ≡ without_range (rows_of m) root p (p + 1)
  unfolding without_range with_pair
  rows-dropped = λ i r q. each r q i where
    lower : (r q : ℕ) → (r ≡ root → q ≡ p → ⊥) → (o : Option Kept) → values_of m.places r q ≡ o → noted_under (values_of stamps) o ≡ noted_under (values_of m.stamps) o
    lower r q apart None is = refl
    lower r q apart (Some j) is = ap (λ (map : ℕ → ℕ → Option Stamp). ready_page j (map j.koid.0 j.page)) less ∙ elim (same_page k.koid.0 k.page j.koid.0 j.page) [
      | inl here ↦
          (λ i. ready_page j (with_pair (values_of m.stamps) k.koid.0 k.page (lowered k.made (values_of m.stamps k.koid.0 k.page)) (here.0 i) (here.1 i)))
          ∙ (ap (ready_page j) (pair-here (values_of m.stamps) k.koid.0 k.page (lowered k.made (values_of m.stamps k.koid.0 k.page)))
          ∙ (page-lowered j k.made (values_of m.stamps k.koid.0 k.page) (λ s found new one. alone r q j s apart is here.0 here.1 found new one)
          ∙ λ i. ready_page j (values_of m.stamps (sym here.0 i) (sym here.1 i))))
      | inr other ↦ ap (ready_page j) (pair-other (values_of m.stamps) k.koid.0 k.page (lowered k.made (values_of m.stamps k.koid.0 k.page)) j.koid.0 j.page other)
    ]

    each : (r q : ℕ) → noted_under (values_of stamps) (values_of places r q) ≡ cond ((r == root) && is_within p (p + 1) q) None (rows_of m r q)
    each r q = ap (λ (map : ℕ → ℕ → Option Kept). noted_under (values_of stamps) (map r q)) gone ∙ elim (same_page root p r q) [
      | inl here ↦
          let hit : ((r == root) && (q == p)) ≡ true = and_from (r == root) (q == p) (eq-eqb r root here.0) (eq-eqb q p here.1) in
          let page = here.1 in
          let inside : ((r == root) && is_within p (p + 1) q) ≡ true = grind (arith, nat_tests) in
          rw (hit, inside) refl
      | inr apart ↦
          let miss : ((r == root) && (q == p)) ≡ false = grind (arith, nat_tests) in
          let outside : ((r == root) && is_within p (p + 1) q) ≡ false = grind (arith, nat_tests) in
          rw (miss, outside) (lower r q apart (values_of m.places r q) refl)
    ]

  -- where the note does not count, as many do
  kept : (v q since n : ℕ) → counting (values_of m.places) v q since root p ≡ false → HasCount (counting (values_of m.places) v q since) n → HasCount (counting (values_of places) v q since) n
  kept v q since n out count = count-same (counting (values_of m.places) v q since) (counting (values_of places) v q since) n
      (λ a b. sym (without-none (counting (values_of m.places) v q since) root p out a b) ∙ counting-dropped (values_of m.places) (values_of places) root p gone v q since a b) count

  -- and where it does, one less
  fewer : (t : Stamp) (n : ℕ) → values_of m.stamps k.koid.0 k.page ≡ Some t → nat_lt k.made t.since ≡ false → n + 1 ≡ t.notes → HasCount (counting (values_of places) k.koid.0 k.page t.since) n
  fewer t n found new less_one =
      let rest = count-less t.notes (counting (values_of m.places) k.koid.0 k.page t.since) root p (notes.stamped k.koid.0 k.page t found).counted (counted_here t.since new) in
      let number : rest.0 ≡ n = let suc_is = rest.1 in omega arith in
      subst (HasCount (counting (values_of places) k.koid.0 k.page t.since)) number
      (count-same (without_place (counting (values_of m.places) k.koid.0 k.page t.since) root p) (counting (values_of places) k.koid.0 k.page t.since) rest.0
      (counting-dropped (values_of m.places) (values_of places) root p gone k.koid.0 k.page t.since) rest.2)

  -- the stamp that is left
  lowered_fits : (o : Option Stamp) → values_of m.stamps k.koid.0 k.page ≡ o → (s : Stamp) → lowered k.made o ≡ Some s → IsStamp (values_of places) m.time k.koid.0 k.page s
  unfolding passes
  lowered_fits None found s is = absurd cc
  lowered_fits (Some t) found s is = go (nat_lt k.made t.since) refl (nat_lt 1 t.notes) refl is where
    was : IsStamp (values_of m.places) m.time k.koid.0 k.page t
    was = notes.stamped k.koid.0 k.page t found

    go : (past : Bool) → nat_lt k.made t.since ≡ past → (more : Bool) → nat_lt 1 t.notes ≡ more
        → cond past (Some t) (cond more (Some (record t { notes = t.notes - 1 })) None) ≡ Some s → IsStamp (values_of places) m.time k.koid.0 k.page s
    go true old more e f = subst (IsStamp (values_of places) m.time k.koid.0 k.page) (some_same f) (record {
      since = was.since;
      shared = was.shared;
      counted = kept k.koid.0 k.page t.since t.notes (counting-at (values_of m.places) k.koid.0 k.page t.since root p (Some k) at ∙ counts-old k k.koid.0 k.page t.since old) was.counted;
      some = was.some;
      few = was.few;
    })
    go false new true many f =
        let low : 1 < t.notes = ltb-true 1 t.notes many in
        subst (IsStamp (values_of places) m.time k.koid.0 k.page) (some_same f) (record {
          since = was.since;
          shared = was.shared;
          counted = fewer t (t.notes - 1) found new (omega arith);
          some = omega (arith, low);
          few = omega (arith, was.few);
        })
    go false new false one f = absurd cc

  pub AreNotes-dropped : m.room ≤ places.spare → m.room ≤ stamps.spare → AreNotes (record m { places = places; stamps = stamps })
  unfolding passes
  AreNotes-dropped room stamps_room = record {
    made = pair-each (λ r q j. j.made < m.time) (values_of m.places) (values_of places) root p None gone (λ j none. absurd cc) (λ r q j apart. notes.made r q j);
    stamped = pair-each (IsStamp (values_of places) m.time) (values_of m.stamps) (values_of stamps) k.koid.0 k.page (lowered k.made (values_of m.stamps k.koid.0 k.page)) less
        (lowered_fits (values_of m.stamps k.koid.0 k.page) refl)
        (λ v q s apart e.
        let was = notes.stamped v q s e in
        record {
          since = was.since;
          shared = was.shared;
          counted = kept v q s.since s.notes (counting-at (values_of m.places) v q s.since root p (Some k) at ∙ counts-apart k v q s.since apart) was.counted;
          some = was.some;
          few = was.few;
        });
    places_room = room;
    stamps_room = stamps_room;
    times = notes.times;
  }

-- one page of a range, and then the range
pub dropped-after : (old new : ReadyRows) (root first end p : ℕ) → first ≤ p → p < end → new ≡ without_range old root p (p + 1) → without_range new root first end ≡ without_range old root first end
unfolding without_range
dropped-after old new root first end p low high made = ap (λ (rows : ReadyRows). without_range rows root first end) made ∙ λ i r q. each r q i where
  each : (r q : ℕ) → cond ((r == root) && is_within first end q) None (cond ((r == root) && is_within p (p + 1) q) None (old r q)) ≡ cond ((r == root) && is_within first end q) None (old r q)
  each r q = grind (arith, nat_tests)

-- none of them has a note
pub dropped-done : (m : Notes) (root first end : ℕ) → ((p : ℕ) → first ≤ p → p < end → values_of m.places root p ≡ None) → rows_of m ≡ without_range (rows_of m) root first end
unfolding without_range
dropped-done m root first end none = λ i r q. each r q i where
  each : (r q : ℕ) → rows_of m r q ≡ cond ((r == root) && is_within first end q) None (rows_of m r q)
  each r q =
      let bare : r ≡ root → first ≤ q → q < end → rows_of m r q ≡ None = λ same low high.
      ap (λ (k : ℕ). rows_of m k q) same ∙ ap (noted_under (values_of m.stamps)) (none q low high) in
      grind (arith, nat_tests)

-- ---- stamps that are looked for

-- each stamp is of a page that is shown
pub IsReadySomewhere-stamped : (m : Notes) (v p : ℕ) (s : Stamp) → AreNotes m → values_of m.stamps v p ≡ Some s → IsReadySomewhere (rows_of m) v p
unfolding passes
IsReadySomewhere-stamped m v p s notes found =
    let stamp = notes.stamped v p s found in
    let one = count-some s.notes (counting (values_of m.places) v p s.since) stamp.counted stamp.some in
    go one.0 one.1 (values_of m.places one.0 one.1) refl one.2 where
      go : (r q : ℕ) (o : Option Kept) → values_of m.places r q ≡ o → counting (values_of m.places) v p s.since r q ≡ true → IsReadySomewhere (rows_of m) v p
      go r q None at is = absurd (let none = counting-at (values_of m.places) v p s.since r q None at in cc)
      go r q (Some k) at is =
          let passed = and_parts ((k.koid.0 == v) && (k.page == p)) (not (nat_lt k.made s.since)) (sym (counting-at (values_of m.places) v p s.since r q (Some k) at) ∙ is) in
          let both = and_parts (k.koid.0 == v) (k.page == p) passed.0 in
          let koid = eqb_is k.koid.0 v both.0 in
          let page = eqb_is k.page p both.1 in
          let new : nat_lt k.made s.since ≡ false = not-true (nat_lt k.made s.since) passed.1 in
          (r, q, row_of k s, ap (noted_under (values_of m.stamps)) at ∙ (ap (ready_page k) ((λ i. values_of m.stamps (koid i) (page i)) ∙ found) ∙ rw new refl), koid, page)

pub IsReadySomewhere-of : (m : Notes) → AreNotes m → (v p : ℕ) → IsSome (values_of m.stamps v p) → IsReadySomewhere (rows_of m) v p
IsReadySomewhere-of m notes v p some = go (values_of m.stamps v p) refl some where
  go : (o : Option Stamp) → values_of m.stamps v p ≡ o → IsSome o → IsReadySomewhere (rows_of m) v p
  go None e is = absurd cc
  go (Some s) e is = IsReadySomewhere-stamped m v p s notes e

-- ---- pages of a VMO are changed, one after another

pub changed-start : (change : ReadyPage → Option ReadyPage) (v first : ℕ) (rows : ReadyRows) → rows ≡ changed_rows change v first first rows
unfolding changed_rows
changed-start change v first rows = λ i r q. go (rows r q) i where
  go : (o : Option ReadyPage) → o ≡ option_and_then (λ row. cond (is_row_in v first first row) (change row) (Some row)) o
  go None = refl
  go (Some x) = let out : is_row_in v first first x ≡ false = grind (arith, nat_tests) in rw out refl

module _ (change : ReadyPage → Option ReadyPage) (v first from end : ℕ) (rows now : ReadyRows) (is : now ≡ changed_rows change v first from rows) where
  -- a row before which the change stopped is there still
  there : (r q : ℕ) (x : ReadyPage) → rows r q ≡ Some x → is_row_in v first from x ≡ false → now r q ≡ Some x
  unfolding changed_rows
  there r q x e out = ap (λ (s : ReadyRows). s r q) is ∙ rw (e, out) refl

  pub changed-end : (from ≤ end) ⊎ (from ≡ first) → HasNoRow now v from end → now ≡ changed_rows change v first end rows
  unfolding changed_rows
  changed-end order none = is ∙ λ i r q. go r q (rows r q) refl i where
    go : (r q : ℕ) (o : Option ReadyPage) → rows r q ≡ o → option_and_then (λ row. cond (is_row_in v first from row) (change row) (Some row)) o
        ≡ option_and_then (λ row. cond (is_row_in v first end row) (change row) (Some row)) o
    go r q None e = refl
    go r q (Some x) e =
        let gap : is_row_in v first from x ≡ false → x.koid.0 ≡ v → from ≤ x.page → x.page < end → ⊥ = λ out. none.none r q x (there r q x e out) in
        let same : is_row_in v first from x ≡ is_row_in v first end x = grind (arith, nat_tests) in
        ap (λ (b : Bool). cond b (change x) (Some x)) same

  -- a change of page p alone, which is the same for rows of that page, and leaves each row to its page
  module _ (one : ReadyPage → Option ReadyPage) (p : ℕ) (alike : (x : ReadyPage) → x.page ≡ p → one x ≡ change x)
      (leaves : (x y : ReadyPage) → change x ≡ Some y → y.page ≡ x.page) where
    pub changed-next : (next : ReadyRows) → first ≤ from → from ≤ p → HasNoRow now v from p → next ≡ changed_rows one v p (p + 1) now → next ≡ changed_rows change v first (p + 1) rows
    unfolding changed_rows
    changed-next next order low none made = made ∙ (ap (changed_rows one v p (p + 1)) is ∙ λ i r q. go r q (rows r q) refl i) where
      go : (r q : ℕ) (o : Option ReadyPage) → rows r q ≡ o
          → option_and_then (λ row. cond (is_row_in v p (p + 1) row) (one row) (Some row)) (option_and_then (λ row. cond (is_row_in v first from row) (change row) (Some row)) o)
          ≡ option_and_then (λ row. cond (is_row_in v first (p + 1) row) (change row) (Some row)) o
      go r q None e = refl
      go r q (Some x) e = elim (cases_Bool (is_row_in v first from x)) [
        | inl before ↦ let all : is_row_in v first (p + 1) x ≡ true = grind (arith, nat_tests) in rw (before, all) (done (change x) refl before)
        | inr out ↦ rw out (elim (cases_Bool (is_row_in v p (p + 1) x)) [
          | inl here ↦
              let page : x.page ≡ p = grind (arith, nat_tests) in
              let all : is_row_in v first (p + 1) x ≡ true = grind (arith, nat_tests) in
              rw (here, all) (alike x page)
          | inr apart ↦
              let gap : x.koid.0 ≡ v → from ≤ x.page → x.page < p → ⊥ = none.none r q x (there r q x e out) in
              let none_of : is_row_in v first (p + 1) x ≡ false = grind (arith, nat_tests) in
              rw (apart, none_of) refl
        ])
      ] where
        done : (o : Option ReadyPage) → change x ≡ o → is_row_in v first from x ≡ true → option_and_then (λ row. cond (is_row_in v p (p + 1) row) (one row) (Some row)) o ≡ o
        done None f before = refl
        done (Some y) f before =
            let same = leaves x y f in
            let past : is_row_in v p (p + 1) y ≡ false = grind (arith, nat_tests) in
            rw past refl

-- a row that stays is of its page
pub current-leaves : (c : Content) (x y : ReadyPage) → row_if_current c x ≡ Some y → y.page ≡ x.page
current-leaves c x y e = go (has_frame c x.koid.0 x.page x.frame) e where
  go : (b : Bool) → cond b (Some x) None ≡ Some y → y.page ≡ x.page
  go true f = ap (λ (row : ReadyPage). row.page) (sym (some_same f))
  go false f = absurd cc

pub limited-leaves : (stays : ℕ → Bool) (x y : ReadyPage) → row_limited stays x ≡ Some y → y.page ≡ x.page
limited-leaves stays x y e = go (stays x.page) e where
  go : (b : Bool) → Some (cond b x (record x { readiness = Read })) ≡ Some y → y.page ≡ x.page
  go true f = ap (λ (row : ReadyPage). row.page) (sym (some_same f))
  go false f = ap (λ (row : ReadyPage). row.page) (sym (some_same f))

-- a row of page p is limited as that page is
pub limited-alike : (stays : ℕ → Bool) (b : Bool) (p : ℕ) → b ≡ stays p → (x : ReadyPage) → x.page ≡ p → row_limited (λ q. b) x ≡ row_limited stays x
limited-alike stays b p bit x same = ap (λ (stay : Bool). Some (cond stay x (record x { readiness = Read }))) (bit ∙ ap stays (sym same))

-- one page is pinned or not
pub pinned-one : (pins : ℕ → Option Pin) (v p : ℕ) → any_pinned pins v p (p + 1) ≡ is_pinned pins v p
unfolding any_pinned
pinned-one pins v p = both_ways (any_from p (p + 1) (is_pinned pins v)) (is_pinned pins v p)
    (λ e.
    let found = any_from_found (is_pinned pins v) p (p + 1) e in
    let same : found.0 ≡ p = let low = found.1 in let high = found.2 in omega arith in
    ap (is_pinned pins v) (sym same) ∙ found.3)
    (λ e. any_from_at (is_pinned pins v) p (p + 1) p (omega arith) (omega arith) e)
