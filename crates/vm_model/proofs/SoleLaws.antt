-- Laws of sole pages: a page that is sole stays so under each change of a content that does not take it away.
use Rattle.std.proofs.Common.{◌≡◌, ℕ, ◌+◌, ◌<◌, ◌≤◌, Bool, true, false, Some, ◌⊎◌, refl, sym, ap, ◌∙◌, inl, inr, arith}
use Rattle.vm_model.specs.Contents.Content.{Page, Content, in_use, sole, hold, created, IsGood}
use Rattle.vm_model.specs.Contents.Sharing.{snapshotted, only}
use Rattle.vm_model.specs.Contents.Zeroing.{zeroed, resized}
use Rattle.vm_model.proofs.ContentLaws.{same_page, page-hold_other, page-hold_cases, not_in_use, sole_held, sole_alone, sole_from, sole-hold_new, sole-hold_kept}
use Rattle.vm_model.proofs.SharingLaws.{page-snapshotted_old, page-snapshotted_cases, page-only_stays, page-only_held}
use Rattle.vm_model.proofs.ZeroingLaws.{page-zeroed_out, page-zeroed_some, page-resized_stays, page-resized_some}

-- each page that passes and is sole in old is sole in new
abbrev pub KeepsSole : (ℕ → ℕ → Bool) → Content → Content → Type 0
KeepsSole test old new = (w q : ℕ) → test w q ≡ true → sole old w q ≡ true → sole new w q ≡ true

-- ---- a page held

-- The number is that of a frame that no page has, or that of the frame of page p of v
abbrev pub FreeOrOwn : Content → ℕ → ℕ → ℕ → Type 0
FreeOrOwn c v p tag = (in_use c tag ≡ false) ⊎ ((old : Page) × (c.page v p ≡ Some old) × (tag ≡ old.tag))

-- where a page is held with such a frame, each page that is sole stays so
pub sole-hold_keeps : (c : Content) (v p : ℕ) (held : Page) (w q : ℕ) → IsGood c → FreeOrOwn c v p held.tag → sole c w q ≡ true
    → sole (hold c v p held) w q ≡ true
sole-hold_keeps c v p held w q good frame alone = elim (same_page v p w q) [
  | inl here ↦
      let vmo = here.0 in
      let page = here.1 in
      let was : sole c v p ≡ true = cc in
      let is : sole (hold c v p held) v p ≡ true = elim frame [
        | inl free ↦ sole-hold_new c v p held good free
        | inr own ↦ sole-hold_kept c v p own.0 held good was own.1 own.2
      ] in
      cc
  | inr elsewhere ↦
      let mine = sole_held c w q alone in
      sole_from (hold c v p held) w q mine.0 (page-hold_other c v p held w q elsewhere ∙ mine.1) (λ x y other apart f same.
      elim (page-hold_cases c v p held x y other f) [
        | inl new ↦
            let tag : held.tag ≡ mine.0.tag = ap (λ (page : Page). page.tag) new.2 ∙ same in
            elim frame [
              | inl free ↦ not_in_use c held.tag w q mine.0 good free mine.1 (sym tag)
              | inr own ↦ apart (new.0 ∙ (sole_alone c w q v p mine.0 own.0 good alone mine.1 own.1 (sym own.2 ∙ tag)).0)
            ]
        | inr old ↦ apart (sole_alone c w q x y mine.0 other good alone mine.1 old.1 same).0
      ])
]

-- ---- pages that leave

-- a sole page that is there still is sole, where each page that is held now was held before
pub sole-same_page : (c d : Content) (w q : ℕ) → IsGood c → ((x y : ℕ) (other : Page) → d.page x y ≡ Some other → c.page x y ≡ Some other)
    → d.page w q ≡ c.page w q → sole c w q ≡ true → sole d w q ≡ true
sole-same_page c d w q good from stays alone =
    let mine = sole_held c w q alone in
    sole_from d w q mine.0 (stays ∙ mine.1) (λ x y other apart f same.
    apart (sole_alone c w q x y mine.0 other good alone mine.1 (from x y other f) same).0)

-- pages that become zero
pub sole-zeroed_kept : (c : Content) (v first end w q : ℕ) → IsGood c → sole c w q ≡ true → (w ≡ v → (q < first) ⊎ (end ≤ q))
    → sole (zeroed c v first end) w q ≡ true
sole-zeroed_kept c v first end w q good alone out =
    sole-same_page c (zeroed c v first end) w q good (λ x y other f. (page-zeroed_some c v first end x y other f).0)
    (page-zeroed_out c v first end w q out) alone

-- another size
pub sole-resized_kept : (c : Content) (v pages w q : ℕ) → IsGood c → (w ≡ v → q < pages) → sole c w q ≡ true → sole (resized c v pages) w q ≡ true
sole-resized_kept c v pages w q good below alone =
    sole-same_page c (resized c v pages) w q good (page-resized_some c v pages) (page-resized_stays c v pages w q below) alone

-- VMOs that leave
pub sole-only_kept : (c : Content) (stays : ℕ → Bool) (w q : ℕ) → IsGood c → stays w ≡ true → sole c w q ≡ true → sole (only c stays) w q ≡ true
sole-only_kept c stays w q good kept alone =
    sole-same_page c (only c stays) w q good (λ x y other f. (page-only_held c stays x y other f).1) (page-only_stays c stays w q kept) alone

-- ---- VMOs that come

-- a new VMO
pub sole-created_kept : (c : Content) (pages w q : ℕ) → IsGood c → sole c w q ≡ true → sole (created c pages) w q ≡ true
unfolding created
sole-created_kept c pages w q good alone = sole-same_page c (created c pages) w q good (λ x y other f. f) refl alone

-- a snapshot that does not see the page
pub sole-snapshotted_kept : (c : Content) (v first seen pages w q : ℕ) → IsGood c → (w ≡ v → (q < first) ⊎ (first + seen ≤ q)) → sole c w q ≡ true
    → sole (snapshotted c v first seen pages) w q ≡ true
sole-snapshotted_kept c v first seen pages w q good out alone =
    let mine = sole_held c w q alone in
    sole_from (snapshotted c v first seen pages) w q mine.0 (page-snapshotted_old c v first seen pages w q mine.0 good mine.1) (λ x y other apart f same.
    elim (page-snapshotted_cases c v first seen pages x y other f) [
      | inl new ↦
          let shown = sole_alone c w q v (first + y) mine.0 other good alone mine.1 new.2 same in
          elim (out (sym shown.0)) [ inl before ↦ omega (arith, shown.1) | inr behind ↦ omega (arith, shown.1, new.1) ]
      | inr old ↦ apart (sole_alone c w q x y mine.0 other good alone mine.1 old.1 same).0
    ])
