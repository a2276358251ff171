-- Laws of entries that stay where a content changes, and of what a change covers.
use Rattle.std.proofs.Common.{◌≡◌, ◌≢◌, ℕ, ◌<◌, ◌≤◌, Bool, true, false, cond, ◌==◌, Option, None, Some, refl, sym, ap, subst, ◌∙◌, inl, inr, arith}
use Rattle.std.proofs.lemmas.Bool.{cases_eq, cases_lt, and_from, both_ways, eq-eqb}
use Rattle.vm_base.specs.declared.limits.TheConstants.{NAMES, ROOT_END, VMO_PAGES}
use Rattle.vm_base.specs.declared.names.Koid.{Koid}
use Rattle.vm_base.specs.Search.{any_below}
use Rattle.vm_base.specs.Entries.{passes, with_key}
use Rattle.vm_base.proofs.EntryLaws.{passes-some, with_key-other}
use Rattle.vm_base.proofs.SearchLaws.{any_below_at, eqb_same}
use Rattle.vm_model.specs.declared.space.Entry.{Entry}
use Rattle.vm_model.specs.Contents.Content.{Content, Page, pages_of, created, IsGood}
use Rattle.vm_model.specs.Contents.Sharing.{snapshotted, only}
use Rattle.vm_model.specs.Contents.Zeroing.{is_within, resized}
use Rattle.vm_model.specs.Space.Readiness.{shows_in}
use Rattle.vm_model.specs.Space.AddressSpaces.{Spaces, shows, is_mapped}
use Rattle.vm_model.specs.Machine.State.{State, is_live}
use Rattle.vm_model.specs.Machine.Leaving.{pruned}
use Rattle.vm_model.proofs.ContentLaws.{pages_of-at, pages_of-same, count_from_page, koid_below}
use Rattle.vm_model.proofs.ZeroingLaws.{page_past}
use Rattle.vm_model.proofs.SharingLaws.{page-snapshotted_other, page-only_stays}
use Rattle.vm_model.proofs.ZeroingLaws.{is_within-true, cases_zeroed, count-resized_here, count-resized_other, page-resized_stays, page-resized_some}
use Rattle.vm_model.proofs.LiveLaws.{is_live-mapped}
use Rattle.vmo_ops.proofs.OutsideLaws.{ChangesWithin, LeavesOthers}
use Rattle.ready_pages.specs.declared.change.Change.{Change}
use Rattle.ready_pages.specs.Changes.{Entries, EntryStays, ChangesRange, Covers}
use Rattle.ready_pages.proofs.SettledLaws.{frame_at-same}

-- where the VMO has as many pages, and the page that is shown is the same
pub EntryStays-same : (c d : Content) (table : Entries) (root p : ℕ) (entry : Entry) → table root p ≡ Some entry → entry.page < pages_of c entry.koid.0
    → d.count entry.koid.0 ≡ c.count entry.koid.0 → d.page entry.koid.0 entry.page ≡ c.page entry.koid.0 entry.page → EntryStays c d table root p entry
EntryStays-same c d table root p entry e h count page =
    record { is = e; frame = frame_at-same c d entry.koid.0 entry.page page; inside = omega (arith, h, pages_of-same d c entry.koid.0 count) }

-- ---- contents

module _ (c : Content) (table : Entries) (root p : ℕ) (entry : Entry) (good : IsGood c) (e : table root p ≡ Some entry) (h : entry.page < pages_of c entry.koid.0) where
  -- a VMO that is there is none that is made
  older : entry.koid.0 ≢ c.next
  older same = omega (arith, koid_below c entry.koid.0 entry.page good h, same)

  -- a new VMO
  pub EntryStays-created : (pages : ℕ) → EntryStays c (created c pages) table root p entry
  unfolding created
  EntryStays-created pages = EntryStays-same c (created c pages) table root p entry e h (with_key-other c.count c.next pages entry.koid.0 older) refl

  -- a snapshot, whose pages change further
  pub EntryStays-copied : (v first seen pages : ℕ) (d : Content) → LeavesOthers c.next (snapshotted c v first seen pages) d → EntryStays c d table root p entry
  unfolding snapshotted with_key
  EntryStays-copied v first seen pages d leaves =
      EntryStays-same c d table root p entry e h
      (ap (λ (f : ℕ → Option ℕ). f entry.koid.0) leaves.count ∙ with_key-other c.count c.next pages entry.koid.0 older)
      (leaves.page entry.koid.0 entry.page older ∙ page-snapshotted_other c v first seen pages entry.koid.0 entry.page older)

  -- VMOs that leave, but for that of the entry
  EntryStays-only : (stays : ℕ → Bool) → stays entry.koid.0 ≡ true → EntryStays c (only c stays) table root p entry
  unfolding only
  EntryStays-only stays kept =
      EntryStays-same c (only c stays) table root p entry e h (ap (λ (b : Bool). cond b (c.count entry.koid.0) None) kept) (page-only_stays c stays entry.koid.0 entry.page kept)

-- ---- VMOs that are not live leave

-- the VMO of an entry there is mapped
mapped_by : (spaces : Spaces) (root p : ℕ) (entry : Entry) → root < NAMES → p < ROOT_END → spaces.table root p ≡ Some entry → is_mapped spaces entry.koid.0 ≡ true
unfolding is_mapped
mapped_by spaces root p entry name end e =
    any_below_at NAMES root (λ r. any_below ROOT_END (λ q. passes (shows entry.koid.0) (spaces.table r q))) name
    (any_below_at ROOT_END p (λ q. passes (shows entry.koid.0) (spaces.table root q)) end
    (passes-some (shows entry.koid.0) (spaces.table root p) entry e ∙ eqb_same entry.koid.0))

-- so an entry stays that stands in the table still
pub EntryStays-pruned : (s : State) (root p : ℕ) (entry : Entry) → IsGood s.content → root < NAMES → p < ROOT_END → s.spaces.table root p ≡ Some entry
    → entry.page < pages_of s.content entry.koid.0 → EntryStays s.content (pruned s).content s.spaces.table root p entry
unfolding pruned
EntryStays-pruned s root p entry good name end e h =
    EntryStays-only s.content s.spaces.table root p entry good e h (is_live s) (is_live-mapped s entry.koid.0 (mapped_by s.spaces root p entry name end e))

-- ---- pages of a VMO that change

-- what changes within a range
ChangesRange-within : (v first end : ℕ) (old new : Content) → ChangesWithin v first end old new → ChangesRange old new v first end
ChangesRange-within v first end old new changes = record {
  frame = λ w p out. frame_at-same old new w p (changes.page w p (λ same. elim (cases_lt p first) [
    | inl before ↦ inl before
    | inr behind ↦ elim (cases_lt p end) [ inl inside ↦ absurd (out same behind inside) | inr past ↦ inr past ]
  ]));
  below = λ w p out h. omega (arith, h, pages_of-same new old w (ap (λ (f : ℕ → Option ℕ). f w) changes.count));
}

-- another size
module _ (c : Content) (v pages : ℕ) (good : IsGood c) where
  -- a page behind the greatest size is zero before and after
  past-zero : (p : ℕ) → VMO_PAGES ≤ p → c.page v p ≡ None
  past-zero p past = elim (cases_lt p (pages_of c v)) [
    | inl low ↦ absurd (let few = good.counts v (pages_of c v) (count_from_page c v p low) in omega (arith, few, low, past))
    | inr behind ↦ page_past c v p good behind
  ]

  past-resized : (p : ℕ) → VMO_PAGES ≤ p → (resized c v pages).page v p ≡ None
  past-resized p past = go ((resized c v pages).page v p) refl where
    go : (o : Option Page) → (resized c v pages).page v p ≡ o → o ≡ None
    go None e = refl
    go (Some held) e = let was = page-resized_some c v pages v p held e in let zero = past-zero p past in absurd cc

  ChangesRange-resized : ChangesRange c (resized c v pages) v pages VMO_PAGES
  ChangesRange-resized = record {
    frame = λ w p out. frame_at-same c (resized c v pages) w p (page w p out);
    below = λ w p out h. elim (cases_eq w v) [
      | inr apart ↦ omega (arith, h, pages_of-same (resized c v pages) c w (count-resized_other c v pages w apart))
      | inl same ↦
          let few = good.counts w (pages_of c w) (count_from_page c w p h) in
          let size : pages_of (resized c v pages) w ≡ pages = ap (pages_of (resized c v pages)) same ∙ pages_of-at (resized c v pages) v pages (count-resized_here c v pages) in
          elim (cases_lt p pages) [ inl low ↦ omega (arith, low, size) | inr behind ↦ absurd (out same behind (omega (arith, h, few))) ]
    ];
  } where
    page : (w p : ℕ) → (w ≡ v → pages ≤ p → p < VMO_PAGES → ⊥) → (resized c v pages).page w p ≡ c.page w p
    page w p out = elim (cases_eq w v) [
      | inr apart ↦ page-resized_stays c v pages w p (λ same. absurd (apart same))
      | inl same ↦ elim (cases_lt p pages) [
        | inl low ↦ page-resized_stays c v pages w p (λ e. low)
        | inr behind ↦ elim (cases_lt p VMO_PAGES) [
          | inl inside ↦ absurd (out same behind inside)
          | inr past ↦
              subst (λ (x : ℕ). (resized c v pages).page x p ≡ c.page x p) (sym same)
              (past-resized p past ∙ sym (past-zero p past))
        ]
      ]
    ]

-- ---- what a change covers

-- nothing, where each entry stays
pub Covers-none : (c d : Content) (table : Entries) → ((root p : ℕ) (entry : Entry) → table root p ≡ Some entry → entry.page < pages_of c entry.koid.0 → EntryStays c d table root p entry)
    → Covers Change.None c d table table
Covers-none c d table stays = record { stays = λ root p entry e h out. stays root p entry e h; table = refl }

-- some pages in a row
pub Covers-frames : (c d : Content) (table : Entries) (v : Koid) (first end : ℕ) → ChangesWithin v.0 first end c d → Covers (Change.Frames v first end) c d table table
Covers-frames c d table v first end changes = record {
  stays = λ root p entry e h out. elim (cases_zeroed v.0 first end entry.koid.0 entry.page) [
    | inl inside ↦ absurd (both_ways (shows_in v.0 first end entry) out
        (and_from (entry.koid.0 == v.0) (is_within first end entry.page) (eq-eqb entry.koid.0 v.0 inside.0) (is_within-true first end entry.page inside.1 inside.2)))
    | inr outside ↦ EntryStays-same c d table root p entry e h (ap (λ (f : ℕ → Option ℕ). f entry.koid.0) changes.count) (changes.page entry.koid.0 entry.page outside)
  ];
  table = (refl, ChangesRange-within v.0 first end c d changes);
}

-- another size
pub Covers-resized : (c : Content) (table : Entries) (v : Koid) (pages : ℕ) → IsGood c → Covers (Change.Past v pages) c (resized c v.0 pages) table table
Covers-resized c table v pages good = record { stays = stays; table = (refl, ChangesRange-resized c v.0 pages good) } where
  stays : (root p : ℕ) (entry : Entry) → table root p ≡ Some entry → entry.page < pages_of c entry.koid.0 → shows_in v.0 pages VMO_PAGES entry ≡ false
      → EntryStays c (resized c v.0 pages) table root p entry
  stays root p entry e h off =
      let most : pages_of c entry.koid.0 ≤ VMO_PAGES = good.counts entry.koid.0 (pages_of c entry.koid.0) (count_from_page c entry.koid.0 entry.page h) in
      elim (cases_eq entry.koid.0 v.0) [
        | inr apart ↦
            EntryStays-same c (resized c v.0 pages) table root p entry e h (count-resized_other c v.0 pages entry.koid.0 apart)
            (page-resized_stays c v.0 pages entry.koid.0 entry.page (λ vmo. absurd (apart vmo)))
        | inl vmo ↦
            let low : entry.page < pages = elim (cases_lt entry.page pages) [
              | inl below ↦ below
              | inr past ↦ absurd (both_ways (shows_in v.0 pages VMO_PAGES entry) off
                  (and_from (entry.koid.0 == v.0) (is_within pages VMO_PAGES entry.page) (eq-eqb entry.koid.0 v.0 vmo) (is_within-true pages VMO_PAGES entry.page past (omega (arith, h, most)))))
            ] in
            let size : pages_of (resized c v.0 pages) entry.koid.0 ≡ pages = ap (pages_of (resized c v.0 pages)) vmo ∙ pages_of-at (resized c v.0 pages) v.0 pages (count-resized_here c v.0 pages) in
            record {
              is = e;
              frame = frame_at-same c (resized c v.0 pages) entry.koid.0 entry.page (page-resized_stays c v.0 pages entry.koid.0 entry.page (λ same. low));
              inside = omega (arith, size, low);
            }
      ]
