-- Laws of links: where the pages of loose VMOs go on, and that the text of a good state is what look-ups find.
use Rattle.std.proofs.Common.{◌≡◌, ℕ, zero, suc, ◌+◌, ◌<◌, ◌≤◌, inl, inr, nat_lt, Bool, true, false, cond, length, Option, None, Some, refl, sym, ap, ◌∙◌, arith}
use Rattle.std.specs.Prelude.{is_some}
use Rattle.std.proofs.lemmas.Bool.{lt-ltb, ltb-true, le-ltb}
use Rattle.vm_base.specs.declared.limits.TheConstants.{PAGE}
use Rattle.vm_base.proofs.EntryLaws.{some_same}
use Rattle.vm_model.specs.Contents.Content.{Content, Page, IsGood, is_held}
use Rattle.source_model.specs.declared.backing.Backing.{Backing}
use Rattle.source_model.specs.declared.link.Link.{Link}
use Rattle.source_model.specs.Sources.{backing_text, held_text, text_over}
use Rattle.source_model.specs.Links.{Below, seen_through, page_below, end_over, read_end, walked}
use Rattle.vm_model.specs.Contents.Owning.{VmoPage}
use Rattle.source_model.specs.State.{SourceState, state_over, below_of}
use Rattle.source_model.specs.Good.{IsTextOf}
use Rattle.source_model.proofs.FillingLaws.{length-held_text}
use Rattle.source_model.proofs.WalkLaws.{GoesDown, AreWindows, cases_below, end_over-none, end_over-some, end_through}

-- each link leads to a smaller koid
abbrev pub AreSmaller : (ℕ → Option Link) → Type 0
AreSmaller link = (v : ℕ) (l : Link) → link v ≡ Some l → l.parent.0 < v

-- ---- one page

pub below-held : (c : Content) (link : ℕ → Option Link) (v p : ℕ) (held : Page) → c.page v p ≡ Some held → page_below c link v p ≡ None
unfolding page_below
below-held c link v p held e = ap (λ (o : Option Page). cond (is_some o) None (seen_through p (link v))) e

pub below-unlinked : (c : Content) (link : ℕ → Option Link) (v p : ℕ) → link v ≡ None → page_below c link v p ≡ None
unfolding page_below seen_through
below-unlinked c link v p e = ap (λ (o : Option Link). cond (is_held c v p) None (seen_through p o)) e ∙ either (is_held c v p) where
  either : (bit : Bool) → cond {A = Option VmoPage} bit None None ≡ None
  either true = refl
  either false = refl

-- a page that goes on is not held, and its VMO has a link that sees it
pub record GoesOn (c : Content) (link : ℕ → Option Link) (v p : ℕ) (u : VmoPage) : Type 0 where
  pub free : c.page v p ≡ None
  pub by : Link
  pub is : link v ≡ Some by
  pub seen : p < by.seen
  pub koid : u.koid ≡ by.parent.0
  pub page : u.page ≡ by.base + p

pub below-some : (c : Content) (link : ℕ → Option Link) (v p : ℕ) (u : VmoPage) → page_below c link v p ≡ Some u → GoesOn c link v p u
unfolding page_below seen_through
below-some c link v p u e = go (c.page v p) refl (link v) refl e where
  go : (o : Option Page) → c.page v p ≡ o → (k : Option Link) → link v ≡ k → cond (is_some o) None (seen_through p k) ≡ Some u → GoesOn c link v p u
  go (Some held) f k g h = absurd cc
  go None f None g h = absurd cc
  go None f (Some l) g h = seen (nat_lt p l.seen) refl h where
    seen : (bit : Bool) → nat_lt p l.seen ≡ bit → cond bit (Some (record { koid = l.parent.0; page = l.base + p })) None ≡ Some u → GoesOn c link v p u
    seen true less is =
        let same : record { koid = l.parent.0; page = l.base + p } ≡ u = some_same is in
        record { free = f; by = l; is = g; seen = ltb-true p l.seen less; koid = sym (ap (λ (x : VmoPage). x.koid) same); page = sym (ap (λ (x : VmoPage). x.page) same) }
    seen false past is = absurd cc

pub below-seen : (c : Content) (link : ℕ → Option Link) (v p : ℕ) (l : Link) → c.page v p ≡ None → link v ≡ Some l → p < l.seen
    → page_below c link v p ≡ Some (record { koid = l.parent.0; page = l.base + p })
unfolding page_below seen_through
below-seen c link v p l free is h =
    ap (λ (o : Option Page). cond (is_some o) None (seen_through p (link v))) free
    ∙ (ap (seen_through p) is ∙ ap (λ (t : Bool). cond t (Some (record { koid = l.parent.0; page = l.base + p })) None) (lt-ltb p l.seen h))

pub below-past : (c : Content) (link : ℕ → Option Link) (v p : ℕ) (l : Link) → link v ≡ Some l → l.seen ≤ p → page_below c link v p ≡ None
unfolding page_below seen_through
below-past c link v p l is h =
    ap (λ (o : Option Link). cond (is_held c v p) None (seen_through p o)) is
    ∙ (ap (λ (t : Bool). cond (is_held c v p) None (cond t (Some (record { koid = l.parent.0; page = l.base + p })) None)) (le-ltb p l.seen h) ∙ either (is_held c v p)) where
      either : (bit : Bool) → cond {A = Option VmoPage} bit None None ≡ None
      either true = refl
      either false = refl

-- the same where as much is held, and the link is the same
pub below-same : (c d : Content) (link other : ℕ → Option Link) (v p : ℕ) → is_held d v p ≡ is_held c v p → other v ≡ link v → page_below d other v p ≡ page_below c link v p
unfolding page_below
below-same c d link other v p held same = λ i. cond (held i) None (seen_through p (same i))

-- ---- look-ups

pub goes_down : (c : Content) (link : ℕ → Option Link) → AreSmaller link → GoesDown (page_below c link)
goes_down c link smaller = record {
  smaller = λ v p u e. let on = below-some c link v p u e in omega (arith, on.koid, smaller v on.by on.is);
}

pub are_windows : (c : Content) (link : ℕ → Option Link) → AreWindows (page_below c link)
are_windows c link = record {
  vmo = λ v p q u x e f.
      let one = below-some c link v p u e in
      let other = below-some c link v q x f in
      let by = ap (λ (l : Link). l.parent.0) (some_same (sym one.is ∙ other.is)) in
      omega (arith, one.koid, other.koid, by);
  page = λ v p q u x e f same.
      let one = below-some c link v p u e in
      let other = below-some c link v q x f in
      let by = ap (λ (l : Link). l.base) (some_same (sym one.is ∙ other.is)) in
      omega (arith, one.page, other.page, by, same);
}

-- ---- texts

-- the text at a page, and at the one that it goes on to
pub walked-end : (c : Content) (backing : ℕ → Option Backing) (below : Below) (v p : ℕ) → below v p ≡ None → walked c backing below v p ≡ text_over c backing v p
unfolding walked
walked-end c backing below v p e = ap (λ (at : VmoPage). text_over c backing at.koid at.page) (end_over-none v below (record { koid = v; page = p }) e)

pub walked-through : (c : Content) (backing : ℕ → Option Backing) (below : Below) → GoesDown below → (v p : ℕ) (u : VmoPage) → below v p ≡ Some u
    → walked c backing below v p ≡ walked c backing below u.koid u.page
unfolding walked
walked-through c backing below down v p u e = ap (λ (at : VmoPage). text_over c backing at.koid at.page) (end_through below down v p u e)

-- what look-ups find is a text of the state
pub text-exists : (c : Content) (names : ℕ → Option ℕ) (backing : ℕ → Option Backing) (link : ℕ → Option Link) → AreSmaller link → IsTextOf (state_over c names backing link)
unfolding text_over held_text
text-exists c names backing link smaller =
    let below = page_below c link in
    record {
      own = λ v p held e. walked-end c backing below v p (below-held c link v p held e) ∙ ap (λ (o : Option Page). held_text o (backing_text (backing v) p)) e;
      shown = λ v p at e. walked-through c backing below (goes_down c link smaller) v p at e;
      backed = λ v p free e. walked-end c backing below v p e ∙ ap (λ (o : Option Page). held_text o (backing_text (backing v) p)) free;
    }

-- and there is no other
module _ (s : SourceState) (is : IsTextOf s) (smaller : AreSmaller s.link) where
  here : (v p : ℕ) → below_of s v p ≡ None → s.text v p ≡ text_over s.content s.backing v p
  unfolding text_over held_text
  here v p e = go (s.content.page v p) refl where
    go : (o : Option Page) → s.content.page v p ≡ o → s.text v p ≡ held_text (s.content.page v p) (backing_text (s.backing v) p)
    go None f = is.backed v p f e ∙ sym (ap (λ (x : Option Page). held_text x (backing_text (s.backing v) p)) f)
    go (Some held) f = is.own v p held f ∙ sym (ap (λ (x : Option Page). held_text x (backing_text (s.backing v) p)) f)

  only_over : (n v p : ℕ) → v ≤ n → s.text v p ≡ text_over s.content s.backing (end_over n (below_of s) (record { koid = v; page = p })).koid (end_over n (below_of s) (record { koid = v; page = p })).page
  only_over zero v p h = elim (cases_below (below_of s v p)) [
    | inl none ↦ here v p none ∙ sym (ap (λ (at : VmoPage). text_over s.content s.backing at.koid at.page) (end_over-none zero (below_of s) (record { koid = v; page = p }) none))
    | inr some ↦ absurd (let less = (goes_down s.content s.link smaller).smaller v p some.0 some.1 in omega (arith, less, h))
  ]
  only_over (suc n) v p h = elim (cases_below (below_of s v p)) [
    | inl none ↦ here v p none ∙ sym (ap (λ (at : VmoPage). text_over s.content s.backing at.koid at.page) (end_over-none (suc n) (below_of s) (record { koid = v; page = p }) none))
    | inr some ↦
        let less = (goes_down s.content s.link smaller).smaller v p some.0 some.1 in
        is.shown v p some.0 some.1 ∙ (only_over n some.0.koid some.0.page (omega (arith, less, h))
        ∙ sym (ap (λ (at : VmoPage). text_over s.content s.backing at.koid at.page) (end_over-some n (below_of s) (record { koid = v; page = p }) some.0 some.1)))
  ]

  pub text-only : (v p : ℕ) → s.text v p ≡ walked s.content s.backing (below_of s) v p
  unfolding walked
  text-only v p = only_over v v p (omega arith)

-- each text has the bytes of a page
pub length-walked : (c : Content) (backing : ℕ → Option Backing) (below : Below) (v p : ℕ) → IsGood c → length (walked c backing below v p) ≡ PAGE
unfolding walked text_over
length-walked c backing below v p good =
    length-held_text c (read_end below v p).koid (read_end below v p).page (backing (read_end below v p).koid) good
