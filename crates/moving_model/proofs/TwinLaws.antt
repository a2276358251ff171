-- Laws of pages that change one after another in two ways: the contents that they lead to differ by a renaming that leaves the
-- frames of sole pages which pass a test, and each page has in both the frame that it had, or in none.
use Rattle.std.proofs.Common.{◌≡◌, ℕ, ◌<◌, ◌≤◌, Bool, true, cond, ◌&&◌, List, [], ◌∷◌, Option, None, Some, ◌↔◌, refl, sym, ap, subst, ◌∙◌, inl, inr}
use Rattle.std.specs.Prelude.{nat_lt}
use Rattle.std.specs.Option.{option_map}
use Rattle.std.specs.List.{AllByRecursion}
use Rattle.std.specs.Cmp.{both_ways as same_tests}
use Rattle.vm_base.specs.Entries.{passes}
use Rattle.vm_base.proofs.EntryLaws.{some_same}
use Rattle.vm_model.specs.declared.space.Entry.{Entry}
use Rattle.vm_model.specs.Contents.Content.{Page, Content, pages_of, sole, IsGood}
use Rattle.vm_model.specs.Space.Readiness.{Ready, frame_at, is_same_frame, keeps_frame, settled}
use Rattle.vm_model.proofs.ContentLaws.{same_page}
use Rattle.vm_model.proofs.ReadinessLaws.{keeps_frame-parts, keeps_frame-from}
use Rattle.moving_model.specs.Renaming.{Renaming, KeepsFrom, page_renamed, content_renamed}
use Rattle.moving_model.proofs.NumberLaws.{no_renaming, to_once}
use Rattle.moving_model.proofs.RunLaws.{and_then}
use Rattle.moving_model.proofs.ExchangeLaws.{content-same, AreTwo}
use Rattle.moving_model.proofs.FrameLaws.{KeepsFrames, KeepsFrames-same, KeepsFrames-both}

pub record AreTwins (test : ℕ → ℕ → Bool) (c x y : Content) : Type 0 where
  pub by : Renaming
  pub within : KeepsFrom by c.frames
  pub stays : (v p : ℕ) (held : Page) → test v p ≡ true → sole c v p ≡ true → c.page v p ≡ Some held → by.to held.tag ≡ held.tag
  pub is : y ≡ content_renamed by x
  pub alike : (v p : ℕ) → (frame_at x v p ≡ frame_at c v p) ↔ (frame_at y v p ≡ frame_at c v p)

pub AreTwins-same : (test : ℕ → ℕ → Bool) (c x y : Content) → x ≡ y → AreTwins test c x y
AreTwins-same test c x y e = record {
  by = no_renaming;
  within = λ t h. refl;
  stays = λ v p held passes alone f. refl;
  is = sym e ∙ sym (content-same x);
  alike = λ v p. (λ f. ap (λ (d : Content). frame_at d v p) (sym e) ∙ f, λ f. ap (λ (d : Content). frame_at d v p) e ∙ f);
}

pub content-then : (a b : Renaming) (c : Content) → content_renamed b (content_renamed a c) ≡ content_renamed (and_then a b) c
content-then a b c = λ i. record c { page = λ v p. once (c.page v p) i } where
  once : (o : Option Page) → option_map (page_renamed b) (option_map (page_renamed a) o) ≡ option_map (page_renamed (and_then a b)) o
  once None = refl
  once (Some held) = refl

-- a page that had its frame still has it under other numbers, where these leave the frame
frame_kept : (r : Renaming) (o was : Option Page) → ((held : Page) → was ≡ Some held → r.to held.tag ≡ held.tag)
    → (option_map (λ (held : Page). held.tag) o ≡ option_map (λ (held : Page). held.tag) was)
    ↔ (option_map (λ (held : Page). held.tag) (option_map (page_renamed r) o) ≡ option_map (λ (held : Page). held.tag) was)
frame_kept r None None kept = (λ e. refl, λ e. refl)
frame_kept r None (Some b) kept = (λ e. e, λ e. e)
frame_kept r (Some a) None kept = (λ e. absurd cc, λ e. absurd cc)
frame_kept r (Some a) (Some b) kept = (
  λ e. ap (λ (n : ℕ). Some n) (ap r.to (some_same e) ∙ kept b refl),
  λ e. ap (λ (n : ℕ). Some n) (to_once r a.tag b.tag (some_same e ∙ sym (kept b refl))),
)

-- a page that keeps its frame is held still
pub frame_held : (was is : Option Page) (held : Page) → was ≡ Some held → option_map (λ (page : Page). page.tag) is ≡ option_map (λ (page : Page). page.tag) was
    → (page : Page) × (is ≡ Some page) × (page.tag ≡ held.tag)
frame_held None is held e same = absurd cc
frame_held (Some old) None held e same = absurd cc
frame_held (Some old) (Some page) held e same = (page, refl, some_same same ∙ ap (λ (a : Page). a.tag) (some_same e))

-- ---- changes one after another

-- what happens to each of a list of things, each at a page of a VMO
module _ {A : Type 0} (test : ℕ → ℕ → Bool) (koid_at page_at : A → ℕ) (Change : Content → A → Content → Type 0) (Changes : Content → List A → Content → Type 0)
    (Fits : Content → List A → Type 0)
    (none : (old new : Content) → Changes old [] new → new ≡ old)
    (more : (old new : Content) (a : A) (rest : List A) → Changes old (a ∷ rest) new → (mid : Content) × Change old a mid × Changes mid rest new)
    (renamed : (r : Renaming) (old : Content) (rest : List A) (new : Content) → KeepsFrom r old.frames → Changes old rest new → Changes (content_renamed r old) rest (content_renamed r new))
    (two : (c x y : Content) (a : A) (rest : List A) → Fits c (a ∷ rest) → Change c a x → Change c a y → AreTwo c (koid_at a) (page_at a) x y)
    (keeps : (c x : Content) (a : A) (rest : List A) → Fits c (a ∷ rest) → Change c a x → KeepsFrames test c x × Fits x rest)
    (others : (c x : Content) (a : A) (rest : List A) → Fits c (a ∷ rest) → Change c a x → (w q : ℕ) → (w ≡ koid_at a → q ≡ page_at a → ⊥) → frame_at x w q ≡ frame_at c w q) where
  -- sole pages that pass keep their frames
  pub frames_all : (rest : List A) (c x : Content) → IsGood c → Fits c rest → Changes c rest x → KeepsFrames test c x
  frames_all [] c x good fits all = KeepsFrames-same test c x good (none c x all)
  frames_all (a ∷ rest) c x good fits all =
      let first = more c x a rest all in
      let kept = keeps c first.0 a rest fits first.1 in
      KeepsFrames-both test c first.0 x kept.0 (frames_all rest first.0 x kept.0.kept.good kept.1 first.2)

  -- a page that is none of these keeps its frame, or stays zero
  pub others_all : (rest : List A) (c x : Content) (w q : ℕ) → Fits c rest → Changes c rest x → AllByRecursion (λ a. w ≡ koid_at a → q ≡ page_at a → ⊥) rest → frame_at x w q ≡ frame_at c w q
  others_all [] c x w q fits all apart = ap (λ (d : Content). frame_at d w q) (none c x all)
  others_all (a ∷ rest) c x w q fits all apart =
      let first = more c x a rest all in
      let kept = keeps c first.0 a rest fits first.1 in
      others_all rest first.0 x w q kept.1 first.2 apart.1 ∙ others c first.0 a rest fits first.1 w q apart.0

  -- Where what follows leaves the frame of a page that was changed, the outcomes are twins
  abbrev pub IsOnce : Type 0
  IsOnce = (c mid x : Content) (a : A) (rest : List A) → Fits c (a ∷ rest) → Change c a mid → Changes mid rest x
      → frame_at x (koid_at a) (page_at a) ≡ frame_at mid (koid_at a) (page_at a)

  -- and a page that is none of these keeps its number
  abbrev pub AreTwinsBeside : List A → Content → Content → Content → Type 0
  AreTwinsBeside rest c x y = (twin : AreTwins test c x y)
      × ((w q : ℕ) (held : Page) → AllByRecursion (λ a. w ≡ koid_at a → q ≡ page_at a → ⊥) rest → c.page w q ≡ Some held → twin.by.to held.tag ≡ held.tag)

  pub twins_beside : IsOnce → (rest : List A) (c x y : Content) → IsGood c → Fits c rest → Changes c rest x → Changes c rest y → AreTwinsBeside rest c x y
  unfolding AreTwins-same
  twins_beside once [] c x y good fits one other = (AreTwins-same test c x y (none c x one ∙ sym (none c y other)), λ w q held apart f. refl)
  twins_beside once (a ∷ rest) c x y good fits one other =
      let v = koid_at a in
      let p = page_at a in
      let first = more c x a rest one in
      let second = more c y a rest other in
      let m = first.0 in
      let n = second.0 in
      let step = two c m n a rest fits first.1 second.1 in
      let e = step.by in
      let kept = keeps c m a rest fits first.1 in
      let too = keeps c n a rest fits second.1 in
      let low : KeepsFrom e m.frames = λ t h. step.within t (subst (λ (k : ℕ). k ≤ t) kept.0.kept.frames h) in
      let moved : Changes n rest (content_renamed e x) = subst (λ (d : Content). Changes d rest (content_renamed e x)) (sym step.is) (renamed e m rest x low first.2) in
      let behind = twins_beside once rest n (content_renamed e x) y too.0.kept.good too.1 moved second.2 in
      let rest_twins = behind.0 in
      let s = rest_twins.by in
      let all : AreTwins test c x y = record {
        by = and_then e s;
        within = λ t h. ap s.to (step.within t h) ∙ rest_twins.within t (subst (λ (k : ℕ). k ≤ t) (sym too.0.kept.frames) h);
        stays = λ w q held passes alone f.
            let there = too.0.stays w q held passes alone f in
            ap s.to (step.stays w q held f) ∙ (ap s.to (sym there.tag_is) ∙ (rest_twins.stays w q there.held passes there.alone there.is ∙ there.tag_is));
        is = rest_twins.is ∙ content-then e s x;
        alike = λ w q. elim (same_page v p w q) [
          | inl here ↦ (
            λ f.
                let last : frame_at x v p ≡ frame_at c v p = ap (λ (u : ℕ). frame_at x u p) (sym here.0) ∙ (ap (frame_at x w) (sym here.1) ∙ (f ∙ (ap (λ (u : ℕ). frame_at c u q) here.0 ∙ ap (frame_at c v) here.1))) in
                let mid = step.alike.0 (sym (once c m x a rest fits first.1 first.2) ∙ last) in
                ap (λ (u : ℕ). frame_at y u q) here.0 ∙ (ap (frame_at y v) here.1 ∙ (once c n y a rest fits second.1 second.2 ∙ (mid ∙ (ap (frame_at c v) (sym here.1) ∙ ap (λ (u : ℕ). frame_at c u q) (sym here.0))))),
            λ f.
                let last : frame_at y v p ≡ frame_at c v p = ap (λ (u : ℕ). frame_at y u p) (sym here.0) ∙ (ap (frame_at y w) (sym here.1) ∙ (f ∙ (ap (λ (u : ℕ). frame_at c u q) here.0 ∙ ap (frame_at c v) here.1))) in
                let mid = step.alike.1 (sym (once c n y a rest fits second.1 second.2) ∙ last) in
                ap (λ (u : ℕ). frame_at x u q) here.0 ∙ (ap (frame_at x v) here.1 ∙ (once c m x a rest fits first.1 first.2 ∙ (mid ∙ (ap (frame_at c v) (sym here.1) ∙ ap (λ (u : ℕ). frame_at c u q) (sym here.0))))),
          )
          | inr apart ↦
              let was = others c n a rest fits second.1 w q apart in
              let frames = frame_kept e (x.page w q) (c.page w q) (step.stays w q) in (
                λ f. (rest_twins.alike w q).0 (frames.0 f ∙ sym was) ∙ was,
                λ f. frames.1 ((rest_twins.alike w q).1 (f ∙ sym was) ∙ was),
              )
        ];
      } in (
        all,
        λ w q held apart f.
            let there = frame_held (c.page w q) (n.page w q) held f (others c n a rest fits second.1 w q apart.0) in
            ap s.to (step.stays w q held f) ∙ (ap s.to (sym there.2) ∙ (behind.1 w q there.0 apart.1 there.1 ∙ there.2)),
      )

  pub twins : IsOnce → (rest : List A) (c x y : Content) → IsGood c → Fits c rest → Changes c rest x → Changes c rest y → AreTwins test c x y
  twins once rest c x y good fits one other = (twins_beside once rest c x y good fits one other).0

-- ---- one change

-- the outcomes of one change are twins
pub AreTwins-one : (test : ℕ → ℕ → Bool) (c x y : Content) (v p : ℕ) → AreTwo c v p x y → ((w q : ℕ) → (w ≡ v → q ≡ p → ⊥) → frame_at x w q ≡ frame_at c w q)
    → ((w q : ℕ) → (w ≡ v → q ≡ p → ⊥) → frame_at y w q ≡ frame_at c w q) → AreTwins test c x y
AreTwins-one test c x y v p two first second = record {
  by = two.by;
  within = two.within;
  stays = λ w q held passes alone e. two.stays w q held e;
  is = two.is;
  alike = λ w q. elim (same_page v p w q) [
    | inl here ↦ rw (here.0, here.1) two.alike
    | inr apart ↦ (λ e. second w q apart, λ e. first w q apart)
  ];
}

-- ---- what is ready

pages-twins : (test : ℕ → ℕ → Bool) (c x y : Content) (v : ℕ) → AreTwins test c x y → pages_of y v ≡ pages_of x v
unfolding pages_of
pages-twins test c x y v twin = ap (λ (d : Content). pages_of d v) twin.is

-- what keeps its frame in one of two twins keeps it in the other
pub keeps_frame-twins : (test : ℕ → ℕ → Bool) (c x y : Content) (entry : Entry) → AreTwins test c x y → keeps_frame c x entry ≡ keeps_frame c y entry
keeps_frame-twins test c x y entry twin =
    let count : pages_of y entry.koid.0 ≡ pages_of x entry.koid.0 = pages-twins test c x y entry.koid.0 twin in
    same_tests (keeps_frame c x entry) (keeps_frame c y entry)
    (λ e.
    let parts = keeps_frame-parts c x entry e in
    keeps_frame-from c y entry ((twin.alike entry.koid.0 entry.page).0 parts.0) (subst (λ (n : ℕ). entry.page < n) (sym count) parts.1))
    (λ e.
    let parts = keeps_frame-parts c y entry e in
    keeps_frame-from c x entry ((twin.alike entry.koid.0 entry.page).1 parts.0) (subst (λ (n : ℕ). entry.page < n) count parts.1))

pub settled-twins : (test : ℕ → ℕ → Bool) (c x y : Content) (table : ℕ → ℕ → Option Entry) (ready : Ready) → AreTwins test c x y → settled c x table ready ≡ settled c y table ready
unfolding settled
settled-twins test c x y table ready twin = λ i root p. cond (passes (λ entry. keeps_frame-twins test c x y entry twin i) (table root p)) (ready root p) None

-- what is ready goes by the pages alone that the table shows
pub settled_shown : (c x y : Content) (table : ℕ → ℕ → Option Entry) (ready : Ready) → ((v : ℕ) → pages_of x v ≡ pages_of y v)
    → ((root p : ℕ) (entry : Entry) → table root p ≡ Some entry → frame_at x entry.koid.0 entry.page ≡ frame_at y entry.koid.0 entry.page) → settled c x table ready ≡ settled c y table ready
unfolding settled passes keeps_frame
settled_shown c x y table ready counts frames = λ i root p. cond (same root p (table root p) refl i) (ready root p) None where
  same : (root p : ℕ) (o : Option Entry) → table root p ≡ o → passes (keeps_frame c x) o ≡ passes (keeps_frame c y) o
  same root p None e = refl
  same root p (Some entry) e = λ i. is_same_frame (frame_at c entry.koid.0 entry.page) (frames root p entry e i) && nat_lt entry.page (counts entry.koid.0 i)
