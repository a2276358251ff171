-- Laws of a snapshot that owns its copies of pinned pages at once: contents stay good, nothing changes but pages of the snapshot,
-- and a pinned page stays sole. The last is one induction on the copies, over which pages may still show the frame of such a page.
use Rattle.std.proofs.Common.{◌≡◌, ◌≢◌, ℕ, zero, suc, ◌+◌, ◌-◌, ◌<◌, ◌≤◌, Bool, true, false, cond, List, ◌∷◌, ◌⊎◌, Some, refl, sym, ap, subst, ◌∙◌, inl, inr, arith}
use Rattle.std.specs.List.{range_with_len, filter}
use Rattle.std.proofs.lemmas.Bool.{cases_eq, cases_lt, both_ways}
use Rattle.vm_base.specs.declared.limits.TheConstants.{VMO_PAGES}
use Rattle.vm_model.specs.Contents.Content.{Page, Content, pages_of, sole, IsGood}
use Rattle.vm_model.specs.Contents.Owning.{Owns, OwnsAll}
use Rattle.vm_model.specs.Contents.Sharing.{snapshotted}
use Rattle.vm_model.proofs.CommitLaws.{Owns-keeps}
use Rattle.vm_model.proofs.ContentLaws.{pages_of-at, same_page, sole_held, sole_alone, sole_from}
use Rattle.vm_model.proofs.OwningLaws.{Owned, Owned-from_Owns}
use Rattle.vm_model.proofs.SharingLaws.{koid_held, page-snapshotted_old, page-snapshotted_cases, count-snapshotted_new, IsGood-snapshotted}
use Rattle.vm_model.proofs.SoleLaws.{sole-snapshotted_kept}
use Rattle.vm_model.proofs.WritingLaws.{IsKept, KeepsPages, KeepsPages-handed_on}

-- each page
abbrev every : ℕ → ℕ → Bool
every w q = true

-- ---- pages of a row that pass a test, owned one after another

-- those of the pages in a row that pass
abbrev passing : (ℕ → Bool) → ℕ → ℕ → List ℕ
passing test first n = filter test (range_with_len first n)

module _ (w : ℕ) (test : ℕ → Bool) where
  -- A relation of contents that holds where nothing changes, that the owning of a page which passes hands on, and that a page which
  -- does not pass leaves, is handed on by all
  passing_keeps : (Keeps : ℕ → Content → Type 0)
      → ((p : ℕ) (c d : Content) (tag : ℕ) → IsGood c → p < pages_of c w → Owns c d w p tag → Keeps p c → Keeps (p + 1) d)
      → ((p : ℕ) (c : Content) → test p ≡ false → Keeps p c → Keeps (p + 1) c)
      → (first n : ℕ) (c d : Content) → IsGood c → first + n ≤ pages_of c w → OwnsAll c w (passing test first n) d → Keeps first c → Keeps (first + n) d
  passing_keeps Keeps owned passed first zero c d good h owns keeps =
      let e : first ≡ first + 0 = omega arith in subst (λ (m : ℕ). Keeps m d) e (subst (Keeps first) (sym owns) keeps)
  passing_keeps Keeps owned passed first (suc n) c d good h owns keeps =
      let e : (first + 1) + n ≡ first + suc n = omega arith in
      subst (λ (m : ℕ). Keeps m d) e (go (test first) refl owns (λ mid fine room rest now. passing_keeps Keeps owned passed (first + 1) n mid d fine room rest now)) where
        go : (b : Bool) → test first ≡ b → OwnsAll c w (cond b (first ∷ passing test (first + 1) n) (passing test (first + 1) n)) d
            → ((mid : Content) → IsGood mid → (first + 1) + n ≤ pages_of mid w → OwnsAll mid w (passing test (first + 1) n) d → Keeps (first + 1) mid → Keeps ((first + 1) + n) d)
            → Keeps ((first + 1) + n) d
        go true is all next =
            let kept = (Owns-keeps every w 0 c all.0 first good (omega arith) (omega arith) (all.1, all.2)).kept in
            next all.0 kept.good (omega (arith, kept.pages w)) all.3 (owned first c all.0 all.1 good (omega arith) all.2 keeps)
        go false is all next = next c good (omega arith) all (passed first c is keeps)

  -- contents stay good, nothing changes but pages, and sole pages stay so
  passing_kept : (first n : ℕ) (c d : Content) → IsGood c → first + n ≤ pages_of c w → OwnsAll c w (passing test first n) d → KeepsPages every c d
  passing_kept first n c d good h owns =
      let handed = KeepsPages-handed_on every in
      passing_keeps (λ p e. KeepsPages every c e)
      (λ p a b tag fine below one keeps. handed.both c a b keeps (Owns-keeps every w 0 a b p fine below (omega arith) (tag, one)))
      (λ p a off keeps. keeps) first n c d good h owns (handed.same c c good refl)

-- ---- who may show the frame of a page

-- Page q of v has the frame t, and of other VMOs at most page y of w has it, and none where y is below `low`.
record Shares (v q w y t low : ℕ) (c : Content) : Type 0 where
  pub held : Page
  pub is : c.page v q ≡ Some held
  pub tag : held.tag ≡ t
  pub others : (u x : ℕ) (other : Page) → u ≢ v → c.page u x ≡ Some other → other.tag ≡ t → (u ≡ w) × (x ≡ y) × (low ≤ y)

module _ (v q w y t : ℕ) (apart : w ≢ v) where
  -- a page that is owned then is sole, so it has another frame
  own_shares : (p : ℕ) (c d : Content) (tag : ℕ) → IsGood c → p < pages_of c w → Owns c d w p tag → Shares v q w y t p c → Shares v q w y t (p + 1) d
  own_shares p c d tag good below owns shares =
      let owned = Owned-from_Owns c d w p tag good below owns in
      let away : v ≢ w = λ same. apart (sym same) in
      let is : d.page v q ≡ Some shares.held = owned.other_vmo v q away ∙ shares.is in
      record {
        held = shares.held;
        is = is;
        tag = shares.tag;
        others = λ u x other else f same. elim (same_page w p u x) [
          | inl here ↦
              let mine = sole_held d w p owned.alone in
              let now : d.page w p ≡ Some other = let vmo = here.0 in let page = here.1 in cc in
              absurd (away (sole_alone d w p v q other shares.held owned.good owned.alone now is (shares.tag ∙ sym same)).0)
          | inr elsewhere ↦
              let was = shares.others u x other else (sym (stays c d tag owned u x elsewhere) ∙ f) same in
              let gone : x ≢ p = λ page. elsewhere was.0 page in
              (was.0, was.1, omega (arith, was.1, was.2, gone))
        ];
      } where
        stays : (a b : Content) (s : ℕ) → Owned a b w p s → (u x : ℕ) → (u ≡ w → x ≡ p → ⊥) → b.page u x ≡ a.page u x
        stays a b s one u x else = elim (cases_eq u w) [
          | inl vmo ↦ rw vmo (one.other_page x (else vmo))
          | inr other ↦ one.other_vmo u x other
        ]

  -- where the page y passes, a page that does not pass is another one
  skip_shares : (test : ℕ → Bool) → test y ≡ true → (p : ℕ) (c : Content) → test p ≡ false → Shares v q w y t p c → Shares v q w y t (p + 1) c
  skip_shares test passes p c off shares = record {
    held = shares.held;
    is = shares.is;
    tag = shares.tag;
    others = λ u x other else f same.
        let was = shares.others u x other else f same in
        let gone : y ≢ p = λ e. both_ways (test p) off (ap test (sym e) ∙ passes) in
        (was.0, was.1, omega (arith, was.2, gone));
  }

  -- behind the page y no other page shows the frame
  shares_alone : (low : ℕ) (c : Content) → y < low → Shares v q w y t low c → sole c v q ≡ true
  shares_alone low c past shares = sole_from c v q shares.held shares.is (λ u x other else f same.
      let left = shares.others u x other else f (same ∙ shares.tag) in omega (arith, past, left.2))

-- ---- a snapshot

-- From c, once there is a snapshot of v, owning the copies of those pages that pass leads to d: nothing changes but pages, and
-- each sole page stays so that the snapshot does not see or that passes.
pub record CopiesKeep (c : Content) (v first seen pages : ℕ) (pinned : ℕ → Bool) (d : Content) : Type 0 where
  pub kept : IsKept (snapshotted c v first seen pages) d
  pub alone : (w q : ℕ) → (w ≡ v → ((q < first) ⊎ (first + seen ≤ q)) ⊎ (pinned q ≡ true)) → sole c w q ≡ true → sole d w q ≡ true

module _ (c : Content) (v first seen pages : ℕ) (pinned : ℕ → Bool) (d : Content) (good : IsGood c) (few : seen ≤ pages) (bound : pages ≤ VMO_PAGES)
    (owns : OwnsAll (snapshotted c v first seen pages) c.next (filter (λ q. pinned (first + q)) (range_with_len 0 seen)) d) where
  abbrev snap : Content
  snap = snapshotted c v first seen pages

  -- a page that is copied shares its frame with its copy alone
  copy_shares : (y : ℕ) → y < seen → (alone : sole c v (first + y) ≡ true) → Shares v (first + y) c.next y (sole_held c v (first + y) alone).0.tag 0 snap
  copy_shares y below alone =
      let mine = sole_held c v (first + y) alone in
      record {
        held = mine.0;
        is = page-snapshotted_old c v first seen pages v (first + y) mine.0 good mine.1;
        tag = refl;
        others = λ u x other apart f same. elim (page-snapshotted_cases c v first seen pages u x other f) [
          | inl new ↦
              let one = sole_alone c v (first + y) v (first + x) mine.0 other good alone mine.1 new.2 same in
              (new.0, omega (arith, one.1), omega arith)
          | inr old ↦ absurd (apart (sole_alone c v (first + y) u x mine.0 other good alone mine.1 old.1 same).0)
        ];
      }

  -- the snapshot has all of its copies
  room : 0 + seen ≤ pages_of snap c.next
  room = omega (arith, few, pages_of-at snap c.next pages (count-snapshotted_new c v first seen pages))

  -- a page that is copied and passes stays sole
  copied_alone : (y : ℕ) → y < seen → pinned (first + y) ≡ true → sole c v (first + y) ≡ true → sole d v (first + y) ≡ true
  copied_alone y below passes alone =
      let mine = sole_held c v (first + y) alone in
      let old = koid_held c v (first + y) mine.0 good mine.1 in
      let apart : c.next ≢ v = λ same. omega (arith, old, same) in
      let test : ℕ → Bool = λ q. pinned (first + q) in
      shares_alone v (first + y) c.next y mine.0.tag apart (0 + seen) d (omega arith)
      (passing_keeps c.next test (λ p e. Shares v (first + y) c.next y mine.0.tag p e) (own_shares v (first + y) c.next y mine.0.tag apart)
      (skip_shares v (first + y) c.next y mine.0.tag apart test passes) 0 seen snap d (IsGood-snapshotted c v first seen pages good few bound) room owns
      (copy_shares y below alone))

  pub CopiesKeep-from_owns : CopiesKeep c v first seen pages pinned d
  CopiesKeep-from_owns =
      let fine = IsGood-snapshotted c v first seen pages good few bound in
      let keeps = passing_kept c.next (λ q. pinned (first + q)) 0 seen snap d fine room owns in
      record {
        kept = keeps.kept;
        alone = λ w q stays was. elim (cases_eq w v) [
          | inr apart ↦ keeps.alone w q refl (sole-snapshotted_kept c v first seen pages w q good (λ same. absurd (apart same)) was)
          | inl same ↦ elim (stays same) [
            | inl out ↦ keeps.alone w q refl (sole-snapshotted_kept c v first seen pages w q good (λ e. out) was)
            | inr passes ↦ elim (cases_lt q first) [
              | inl before ↦ keeps.alone w q refl (sole-snapshotted_kept c v first seen pages w q good (λ e. inl before) was)
              | inr from ↦ elim (cases_lt q (first + seen)) [
                | inr behind ↦ keeps.alone w q refl (sole-snapshotted_kept c v first seen pages w q good (λ e. inr behind) was)
                | inl inside ↦ copied w q same from inside passes was
              ]
            ]
          ]
        ];
      } where
        copied : (w q : ℕ) → w ≡ v → first ≤ q → q < first + seen → pinned q ≡ true → sole c w q ≡ true → sole d w q ≡ true
        copied w q same from inside passes was =
            let y = q - first in
            let e : first + (q - first) ≡ q = omega arith in
            let here : sole c v (first + y) ≡ true = rw e (subst (λ (u : ℕ). sole c u q ≡ true) same was) in
            let there = copied_alone y (omega arith) (ap pinned e ∙ passes) here in
            subst (λ (u : ℕ). sole d u q ≡ true) (sym same) (subst (λ (x : ℕ). sole d v x ≡ true) e there)
