-- Laws of VMOs that come and go: the texts of those beside them stay.
use Rattle.std.proofs.Common.{◌≡◌, ◌≢◌, ℕ, zero, suc, ◌+◌, ◌<◌, inl, inr, not, Bool, cond, Option, None, Some, refl, sym, ap, ◌∙◌, arith}
use Rattle.std.specs.Prelude.{is_some}
use Rattle.std.proofs.lemmas.Bool.{cases_eq, cases_lt, lt-ltb, le-ltb}
use Rattle.vm_base.specs.Entries.{with_key, without_key}
use Rattle.vm_base.specs.Pages.{zeros}
use Rattle.vm_base.proofs.EntryLaws.{with_key-same, with_key-other, with_key-cases, without_key-same, without_key-other}
use Rattle.vm_base.proofs.SearchLaws.{eqb_same, eqb_apart}
use Rattle.vm_model.specs.Contents.Content.{Content, Page, created}
use Rattle.vm_model.specs.Contents.Sharing.{without, only}
use Rattle.source_model.specs.declared.backing.Backing.{Backing}
use Rattle.source_model.specs.declared.link.Link.{Link}
use Rattle.source_model.specs.Sources.{backing_text, held_text, text_over}
use Rattle.source_model.specs.Links.{Below, page_below, end_over, read_end, walked}
use Rattle.vm_model.specs.Contents.Owning.{VmoPage}
use Rattle.source_model.specs.State.{with_text, child_text}
use Rattle.source_model.proofs.WalkLaws.{cases_below, end_over-none, end_over-some}
use Rattle.source_model.proofs.LinkLaws.{AreSmaller, below-same, below-some, below-seen, below-past, below-unlinked, goes_down, walked-end, walked-through}

-- look-ups beside a VMO that nothing goes on to
pub end_beside : (old new : Below) (k : ℕ) → ((v p : ℕ) → v ≢ k → new v p ≡ old v p) → ((v p : ℕ) (u : VmoPage) → old v p ≡ Some u → u.koid ≢ k) → (n : ℕ) (at : VmoPage) → at.koid ≢ k
    → (end_over n new at ≡ end_over n old at) × ((end_over n old at).koid ≢ k)
unfolding end_over
end_beside old new k same never zero at apart = (refl, apart)
end_beside old new k same never (suc n) at apart = elim (cases_below (old at.koid at.page)) [
  | inl none ↦ (
    end_over-none (suc n) new at (same at.koid at.page apart ∙ none) ∙ sym (end_over-none (suc n) old at none),
    λ e. apart (sym (ap (λ (u : VmoPage). u.koid) (end_over-none (suc n) old at none)) ∙ e),
  )
  | inr some ↦
      let rest = end_beside old new k same never n some.0 (never at.koid at.page some.0 some.1) in (
        end_over-some n new at some.0 (same at.koid at.page apart ∙ some.1) ∙ (rest.0 ∙ sym (end_over-some n old at some.0 some.1)),
        λ e. rest.1 (sym (ap (λ (u : VmoPage). u.koid) (end_over-some n old at some.0 some.1)) ∙ e),
      )
]

-- two contents that differ in one VMO
pub record AreBeside (c d : Content) (b bs : ℕ → Option Backing) (k ks : ℕ → Option Link) (v : ℕ) : Type 0 where
  pub page : (w p : ℕ) → w ≢ v → d.page w p ≡ c.page w p
  pub backing : (w : ℕ) → w ≢ v → bs w ≡ b w
  pub link : (w : ℕ) → w ≢ v → ks w ≡ k w
  -- no loose VMO has it as its parent
  pub childless : (w : ℕ) (l : Link) → k w ≡ Some l → l.parent.0 ≢ v

module _ (c d : Content) (backing others : ℕ → Option Backing) (link links : ℕ → Option Link) (k : ℕ) (beside : AreBeside c d backing others link links k) where
  pub text_beside : (w q : ℕ) → w ≢ k → walked d others (page_below d links) w q ≡ walked c backing (page_below c link) w q
  unfolding walked text_over
  text_beside w q apart =
      let ends = end_beside (page_below c link) (page_below d links) k
      (λ v p differs. below-same c d link links v p (ap is_some (beside.page v p differs)) (beside.link v differs))
      (λ v p u e. let on = below-some c link v p u e in λ same. beside.childless v on.by on.is (sym on.koid ∙ same))
      w (record { koid = w; page = q }) apart in
      let at = read_end (page_below c link) w q in
      ap (λ (u : VmoPage). held_text (d.page u.koid u.page) (backing_text (others u.koid) u.page)) ends.0
      ∙ (ap (λ (o : Option Page). held_text o (backing_text (others at.koid) at.page)) (beside.page at.koid at.page ends.1)
      ∙ ap (λ (o : Option Backing). held_text (c.page at.koid at.page) (backing_text o at.page)) (beside.backing at.koid ends.1))

-- ---- a VMO that comes

-- the next koid has nothing yet
pub record IsFresh (c : Content) (b : ℕ → Option Backing) (k : ℕ → Option Link) : Type 0 where
  pub page : (p : ℕ) → c.page c.next p ≡ None
  pub backing : b c.next ≡ None
  pub link : k c.next ≡ None
  pub childless : (w : ℕ) (l : Link) → k w ≡ Some l → l.parent.0 ≢ c.next
  pub smaller : AreSmaller k

module _ (c : Content) (names : ℕ → Option ℕ) (backing : ℕ → Option Backing) (link : ℕ → Option Link) (fresh : IsFresh c backing link) where
  text_here : (pages r : ℕ) (x : Backing) → text_over (created c pages) (with_key backing c.next x) c.next r ≡ backing_text (Some x) r
  unfolding text_over held_text created
  text_here pages r x = ap (λ (o : Option Page). held_text o (backing_text (with_key backing c.next x c.next) r)) (fresh.page r)
      ∙ ap (λ (o : Option Backing). backing_text o r) (with_key-same backing c.next x)

  -- a source
  pub text_source : (pages : ℕ) (b : Backing) (w q : ℕ) → walked (created c pages) (with_key backing c.next b) (page_below (created c pages) link) w q
      ≡ with_text (walked c backing (page_below c link)) c.next (backing_text (Some b)) w q
  unfolding created with_text
  text_source pages b w q = elim (cases_eq w c.next) [
    | inl same ↦
        let others = with_key backing c.next b in
        let d = created c pages in
        rw (same, eqb_same c.next) (walked-end d others (page_below d link) c.next q (below-unlinked d link c.next q fresh.link) ∙ text_here pages q b)
    | inr apart ↦ text_beside c (created c pages) backing (with_key backing c.next b) link link c.next (record {
      page = λ v p differs. refl;
      backing = λ v differs. with_key-other backing c.next b v differs;
      link = λ v differs. refl;
      childless = fresh.childless;
    }) w q apart ∙ sym (ap (λ (t : Bool). cond t (backing_text (Some b) q) (walked c backing (page_below c link) w q)) (eqb_apart w c.next apart))
  ]

  -- a loose child
  module _ (v start seen pages : ℕ) (older : v < c.next) where
    abbrev new_link : Link
    new_link = record { parent = record { 0 = v }; base = start; seen = seen }

    abbrev links : ℕ → Option Link
    links = with_key link c.next new_link

    pub links_smaller : AreSmaller links
    links_smaller w l e = elim (with_key-cases link c.next new_link w l e) [
      | inl now ↦ let parent = ap (λ (x : Link). x.parent.0) now.1 in omega (arith, now.0, parent, older)
      | inr was ↦ fresh.smaller w l was.1
    ]

    abbrev loosened : Content
    loosened = created c pages

    beside_loose : AreBeside c loosened backing backing link links c.next
    unfolding created
    beside_loose = record {
      page = λ w p differs. refl;
      backing = λ w differs. refl;
      link = λ w differs. with_key-other link c.next new_link w differs;
      childless = fresh.childless;
    }

    not_held : (r : ℕ) → loosened.page c.next r ≡ None
    unfolding created
    not_held r = fresh.page r

    zero_text : (r : ℕ) → text_over loosened backing c.next r ≡ zeros
    unfolding text_over held_text backing_text
    zero_text r = ap (λ (o : Option Page). held_text o (backing_text (backing c.next) r)) (not_held r) ∙ ap (λ (o : Option Backing). backing_text o r) fresh.backing

    child_at : (q : ℕ) → walked loosened backing (page_below loosened links) c.next q ≡ child_text (walked c backing (page_below c link)) v start seen q
    child_at q = elim (cases_lt q seen) [
      | inl less ↦
          let on = below-seen loosened links c.next q new_link (not_held q) (with_key-same link c.next new_link) less in
          walked-through loosened backing (page_below loosened links) (goes_down loosened links links_smaller) c.next q _ on
          ∙ (text_beside c loosened backing backing link links c.next beside_loose v (start + q) (λ e. omega (arith, older, e))
          ∙ sym (ap (λ (t : Bool). cond t (walked c backing (page_below c link) v (start + q)) zeros) (lt-ltb q seen less)))
      | inr past ↦
          walked-end loosened backing (page_below loosened links) c.next q (below-past loosened links c.next q new_link (with_key-same link c.next new_link) past)
          ∙ (zero_text q ∙ sym (ap (λ (t : Bool). cond t (walked c backing (page_below c link) v (start + q)) zeros) (le-ltb q seen past)))
    ]

    pub text_loose : (w q : ℕ) → walked loosened backing (page_below loosened links) w q
        ≡ with_text (walked c backing (page_below c link)) c.next (child_text (walked c backing (page_below c link)) v start seen) w q
    unfolding with_text
    text_loose w q = elim (cases_eq w c.next) [
      | inl same ↦ rw (same, eqb_same c.next) (child_at q)
      | inr apart ↦ text_beside c loosened backing backing link links c.next beside_loose w q apart
          ∙ sym (ap (λ (t : Bool). cond t (child_text (walked c backing (page_below c link)) v start seen q) (walked c backing (page_below c link) w q)) (eqb_apart w c.next apart))
    ]

-- ---- a VMO that leaves

-- the text of those that stay, and none of it
module _ (c : Content) (backing : ℕ → Option Backing) (link : ℕ → Option Link) (v : ℕ) (childless : (w : ℕ) (l : Link) → link w ≡ Some l → l.parent.0 ≢ v) where
  pub text_left : (w q : ℕ) → w ≢ v → walked (without c v) (without_key backing v) (page_below (without c v) (without_key link v)) w q ≡ walked c backing (page_below c link) w q
  unfolding only
  text_left w q apart = text_beside c (without c v) backing (without_key backing v) link (without_key link v) v (record {
    page = λ u p differs. ap (λ (t : Bool). cond (not t) (c.page u p) None) (eqb_apart u v differs);
    backing = λ u differs. without_key-other backing v u differs;
    link = λ u differs. without_key-other link v u differs;
    childless = childless;
  }) w q apart

  pub text_gone : (q : ℕ) → walked (without c v) (without_key backing v) (page_below (without c v) (without_key link v)) v q ≡ zeros
  unfolding only text_over held_text backing_text
  text_gone q =
      walked-end (without c v) (without_key backing v) (page_below (without c v) (without_key link v)) v q
      (below-unlinked (without c v) (without_key link v) v q (without_key-same link v))
      ∙ (ap (λ (t : Bool). held_text (cond (not t) (c.page v q) None) (backing_text (without_key backing v v) q)) (eqb_same v)
      ∙ ap (λ (o : Option Backing). backing_text o q) (without_key-same backing v))
