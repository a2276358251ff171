-- What the searches for links and lists find.
use Rattle.std.proofs.Common.{◌≡◌, ℕ, ◌+◌, ◌<◌, ◌≤◌, Bool, Option, None, Some, IsSome, is_some, refl, sym, ap, ◌∙◌, arith}
use Rattle.std.specs.Prelude.{IfSome}
use Rattle.std.specs.Option.{option_map}
use Rattle.vm_base.specs.Search.{HasNone, IsFirst}
use Rattle.vm_base.proofs.EntryLaws.{some_same, some_is, first_key}
use Rattle.vm_base.specs.declared.names.Tag.{Tag}
use Rattle.balanced_tree.specs.Pairs.{IsNext}
use Rattle.fault.specs.declared.translation.Translation.{Translation}
use Rattle.fault.specs.declared.translation.Link.{Link}
use Rattle.fault.specs.Table.{translation_at, translations_in}
use Rattle.fault.specs.inside.Lists.{Links, Shown, Holds, page_and_frame, shown_in, previous_in, next_in, AreLinkedInLists}
use Rattle.fault.specs.inside.Walks.{HasFrame, HasNoList, IsNextList, is_translated}
use Rattle.fault.proofs.PairLaws.{missing}
use Rattle.fault.proofs.ListLaws.{reached}
use Rattle.fault.proofs.LinkLaws.{link-there}

-- A translation of a page is that of the page's link.
pub record IsLinked (places : ℕ → ℕ → Option ℕ) (links : Links) (root p : ℕ) (t : Translation) : Type 0 where
  pub number : ℕ
  pub is : places root p ≡ Some number
  pub link : Link
  pub there : links number ≡ Some link
  pub holds : link.translation ≡ t

module _ (places lists : ℕ → ℕ → Option ℕ) (links : Links) where
  linked-at : (root p : ℕ) (t : Translation) (o : Option ℕ) → places root p ≡ o → translation_at links o ≡ Some t → IsLinked places links root p t
  linked-at root p t None e found = absurd cc
  linked-at root p t (Some x) e found = by (links x) refl found
    where
      by : (l : Option Link) → links x ≡ l → option_map (λ (k : Link). k.translation) l ≡ Some t → IsLinked places links root p t
      by None is none = absurd cc
      by (Some k) is some = record { number = x; is = e; link = k; there = is; holds = some_same some }

  pub linked : (root p : ℕ) (t : Translation) → translations_in links places root p ≡ Some t → IsLinked places links root p t
  linked root p t found = linked-at root p t (places root p) refl found

  -- the translation of a page with this link
  pub translation-of : (root p x : ℕ) (k : Link) → places root p ≡ Some x → links x ≡ Some k → translations_in links places root p ≡ Some k.translation
  translation-of root p x k e is = ap (translation_at links) e ∙ ap (option_map (λ (j : Link). j.translation)) is

  pub translation-none : (root p : ℕ) → places root p ≡ None → translations_in links places root p ≡ None
  translation-none root p e = ap (translation_at links) e

  module _ (count : ℕ) (h : AreLinkedInLists places lists links count) where
    -- a page with a translation has a link
    pub place-some : (root p : ℕ) → IsSome (translations_in links places root p) → IsSome (places root p)
    place-some root p some =
        let t = some_is (translations_in links places root p) some in
        ap {B = Bool} is_some (linked root p t.0 t.1).is

    -- and one with a link has a translation
    pub translation-some : (root p x : ℕ) → places root p ≡ Some x → IsSome (translations_in links places root p)
    translation-some root p x is =
        let k = some_is (links x) (link-there places links h.placed root p x is) in
        ap {B = Bool} is_some (translation-of root p x k.0 is k.1)

    pub link-none : (root p : ℕ) → translations_in links places root p ≡ None → places root p ≡ None
    link-none root p none = go (places root p) refl
      where
        go : (o : Option ℕ) → places root p ≡ o → o ≡ None
        go None e = refl
        go (Some x) e = absurd (let no = sym (translation-some root p x e) ∙ ap {B = Bool} is_some none in cc)

    -- what the link of a translation shows
    pub shown-of : (root p : ℕ) (t : Translation) (l : IsLinked places links root p t) → shown_in links l.number ≡ Some (page_and_frame t)
    shown-of root p t l = ap (option_map (λ (k : Link). page_and_frame k.translation)) l.there ∙ ap {B = Option Shown} (λ (u : Translation). Some (page_and_frame u)) l.holds

    -- the page that a translation shows has a list, whose first link shows it
    pub list-of : (root p : ℕ) (t : Translation) → translations_in links places root p ≡ Some t
        → (first : ℕ) × (lists t.entry.koid.0 t.entry.page ≡ Some first) × (shown_in links first ≡ Some (page_and_frame t))
    list-of root p t found =
        let l = linked root p t found in
        let at = reached (shown_in links) (previous_in links) (next_in links) lists count h.listed l.number (page_and_frame t) (shown-of root p t l) in
        (at.first, at.is, at.shows)

    -- so no list is missing
    pub list-missing : (v p root q : ℕ) (t : Translation) → lists v p ≡ None → translations_in links places root q ≡ Some t → t.entry.koid.0 ≡ v → t.entry.page ≡ p → ⊥
    list-missing v p root q t none found koid page =
        missing (list-of root q t found).1 (ap (λ w. lists w t.entry.page) koid ∙ (ap (lists v) page ∙ none))

    -- the translations of a page hold the frame of its first link
    pub HasFrame-first : (v p x : ℕ) (k : Link) → lists v p ≡ Some x → links x ≡ Some k → HasFrame (translations_in links places) v p k.translation.frame
    HasFrame-first v p x k is there root q t found koid page =
        let list = list-of root q t found in
        let first : list.0 ≡ x = some_same (sym list.1 ∙ (ap (λ w. lists w t.entry.page) koid ∙ (ap (lists v) page ∙ is))) in
        let same : page_and_frame t ≡ page_and_frame k.translation = some_same (sym list.2 ∙ (ap (shown_in links) first ∙ ap (option_map (λ (j : Link). page_and_frame j.translation)) there)) in
        ap (λ (a : Shown). a.2) same

    -- so each translation has the frame of all of its page
    pub HasFrame-of : (root p : ℕ) (t : Translation) → translations_in links places root p ≡ Some t
        → HasFrame (translations_in links places) t.entry.koid.0 t.entry.page t.frame
    HasFrame-of root p t found r q u also koid page =
        let one = list-of root p t found in
        let two = list-of r q u also in
        let first : two.0 ≡ one.0 = some_same (sym two.1 ∙ (ap (λ w. lists w u.entry.page) koid ∙ (ap (lists t.entry.koid.0) page ∙ one.1))) in
        let same : page_and_frame u ≡ page_and_frame t = some_same (sym two.2 ∙ (ap (shown_in links) first ∙ one.2)) in
        ap (λ (a : Shown). a.2) same

    -- and the first link that of the translations
    pub Holds-first : (v p x : ℕ) (frame : Option Tag) → lists v p ≡ Some x → HasFrame (translations_in links places) v p frame → Holds links frame x
    Holds-first v p x frame is has k there =
        let first = h.listed.first v p x is in
        let same : page_and_frame k.translation ≡ (v, p, first.0) = some_same (sym (ap (option_map (λ (j : Link). page_and_frame j.translation)) there) ∙ first.1) in
        let at = h.placed.place x k.place (ap (option_map (λ (j : Link). j.place)) there) in
        has k.place.root.0 k.place.page k.translation (translation-of k.place.root.0 k.place.page x k at there)
        (ap (λ (a : Shown). a.0) same) (ap (λ (a : Shown). a.1) same)

    pub Holds-all : (v p : ℕ) (o : Option ℕ) (frame : Option Tag) → lists v p ≡ o → HasFrame (translations_in links places) v p frame → IfSome o (Holds links frame)
    Holds-all v p None frame is has = tt
    Holds-all v p (Some x) frame is has = Holds-first v p x frame is has

    -- so a translation of the page with this frame shows what the first link shows
    pub shown-first : (t : Translation) (x : ℕ) → lists t.entry.koid.0 t.entry.page ≡ Some x → Holds links t.frame x → shown_in links x ≡ Some (page_and_frame t)
    shown-first t x is holds =
        let first = h.listed.first t.entry.koid.0 t.entry.page x is in
        let k = some_is (links x) (some-link (links x) (ap {B = Bool} is_some first.1)) in
        let same : page_and_frame k.0.translation ≡ (t.entry.koid.0, t.entry.page, first.0) = some_same (sym (ap (option_map (λ (j : Link). page_and_frame j.translation)) k.1) ∙ first.1) in
        let frame : first.0 ≡ t.frame = sym (ap (λ (a : Shown). a.2) same) ∙ holds k.0 k.1 in
        first.1 ∙ ap {B = Option Shown} (λ (f : Option Tag). Some (t.entry.koid.0, t.entry.page, f)) frame
      where
        some-link : (o : Option Link) → IsSome (option_map (λ (j : Link). page_and_frame j.translation) o) → IsSome o
        some-link None e = e
        some-link (Some j) e = refl

    -- ---- the next list, and the next place

    pub list-none : (v p : ℕ) → lists v p ≡ None → HasNoList (translations_in links places) v p (p + 1)
    list-none v p none root q t found of =
        let page : t.entry.page ≡ p = let low = of.order in let high = of.below in omega arith in
        list-missing v p root q t none found of.koid page

    pub no-list : (v from end : ℕ) → IsNext (lists v) from None → HasNoList (translations_in links places) v from end
    no-list v from end none root q t found of = list-missing v t.entry.page root q t (none.none refl t.entry.page of.order) found of.koid refl

    pub far-list : (v from end page : ℕ) → IsNext (lists v) from (Some page) → end ≤ page → HasNoList (translations_in links places) v from end
    far-list v from end page next far root q t found of =
        let least = next.least page refl in
        let below = of.below in
        list-missing v t.entry.page root q t (least.2 t.entry.page of.order (omega arith)) found of.koid refl

    pub next-list : (v from end page : ℕ) → IsNext (lists v) from (Some page) → page < end → IsNextList (translations_in links places) v from end page
    next-list v from end page next below =
        let least = next.least page refl in
        record {
          order = least.0;
          below = below;
          least = λ root q t found of. list-missing v t.entry.page root q t (least.2 t.entry.page of.order of.below) found of.koid refl;
        }

    pub no-place : (root from end : ℕ) → IsNext (places root) from None → HasNone (is_translated (translations_in links places) root) from end
    no-place root from end none p low high = ap is_some (translation-none root p (none.none refl p low))

    pub next-place : (root from page : ℕ) → IsNext (places root) from (Some page) → IsFirst (is_translated (translations_in links places) root) from (page + 1) page
    next-place root from page next =
        let least = next.least page refl in
        let x = some_is (places root page) least.1 in
        first_key (translations_in links places root) from page
        (least.0, translation-some root page x.0 x.1, λ p low high. translation-none root p (least.2 p low high))
