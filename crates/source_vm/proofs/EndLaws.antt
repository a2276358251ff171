-- Laws of the pages at which look-ups end: whether they are absent, and what is read there.
use Rattle.std.proofs.Common.{◌≡◌, ◌≢◌, ℕ, suc, ◌-◌, ◌&&◌, inl, inr, not, nat_lt, Bool, true, false, cond, List, [], ◌∷◌, length, map, Option, None, Some, refl, sym, ap, ◌∙◌}
use Rattle.std.specs.Prelude.{is_some}
use Rattle.std.specs.List.{filter, range_with_len}
use Rattle.std.proofs.lemmas.Bool.{cases_lt, lt-ltb}
use Rattle.vm_base.specs.Entries.{passes}
use Rattle.vm_base.specs.Pages.{zeros}
use Rattle.vm_model.specs.Contents.Content.{Content, Page}
use Rattle.vm_model.specs.Contents.Writing.{Piece}
use Rattle.source_model.specs.declared.backing.Backing.{Backing}
use Rattle.source_model.specs.Sources.{backing_text, text_over}
use Rattle.source_model.specs.Links.{page_below, walked}
use Rattle.vm_model.specs.Contents.Owning.{VmoPage}
use Rattle.source_model.specs.State.{SourceState, is_absent, supply_of, wanted}
use Rattle.source_model.proofs.FillingLaws.{absent-zero, backing-behind}
use Rattle.source_model.proofs.LinkLaws.{goes_down}
use Rattle.source_model.proofs.WalkLaws.{end_over-none, end_through}
use Rattle.source_model.proofs.CodeLaws.{end-unlinked, end-supplied, absent-supplied, absent-unlinked}
use Rattle.source_vm.specs.Pages.{Backings, LooseLinks, IsReadable, lookup_end, end_piece, is_end_absent, absent_ends}
use Rattle.source_vm.proofs.FillingLaws.{text-free}

-- ---- look-ups

-- a page that goes on nowhere is the end
pub end-here : (c : Content) (ls : LooseLinks) (v p : ℕ) → page_below c ls v p ≡ None → lookup_end ls c v p ≡ record { koid = v; page = p }
end-here c ls v p none = end_over-none v (page_below c ls) (record { koid = v; page = p }) none

-- one that goes on ends where the next does
pub end-next : (c : Content) (bs : Backings) (ls : LooseLinks) (v p : ℕ) (u : VmoPage) → IsReadable c bs ls → page_below c ls v p ≡ Some u → lookup_end ls c v p ≡ lookup_end ls c u.koid u.page
end-next c bs ls v p u readable on = end_through (page_below c ls) (goes_down c ls readable.smaller) v p u on

-- what a page shows is what the end has
pub walked-from_end : (c : Content) (bs : Backings) (ls : LooseLinks) (v p : ℕ) (at : VmoPage) → at ≡ lookup_end ls c v p → text_over c bs at.koid at.page ≡ walked c bs (page_below c ls) v p
unfolding walked
walked-from_end c bs ls v p at e = ap (λ (u : VmoPage). text_over c bs u.koid u.page) e

-- whether the end is absent
pub absent-end : (c : Content) (bs : Backings) (ls : LooseLinks) (v p : ℕ) (at : VmoPage) (bit : Bool) → at ≡ lookup_end ls c v p → bit ≡ is_absent c (bs at.koid) at.koid at.page
    → bit ≡ is_end_absent bs ls c v p
unfolding is_end_absent
absent-end c bs ls v p at bit e is = is ∙ ap (λ (u : VmoPage). is_absent c (bs u.koid) u.koid u.page) e

-- ---- absent pages

-- a page that is not held is absent if it comes from a source
pub absent-unheld : (c : Content) (bs : Backings) (v p : ℕ) → c.page v p ≡ None → is_absent c (bs v) v p ≡ passes (λ (b : Backing). nat_lt p b.seen) (bs v)
unfolding is_absent
absent-unheld c bs v p free = ap (λ (o : Option Page). not (is_some o) && passes (λ (b : Backing). nat_lt p b.seen) (bs v)) free

pub absent-free : (c : Content) (bs : Backings) (v p : ℕ) (b : Backing) → c.page v p ≡ None → bs v ≡ Some b → is_absent c (bs v) v p ≡ nat_lt p b.seen
absent-free c bs v p b free e = ap (λ (o : Option Backing). is_absent c o v p) e ∙ absent-zero c b v p free

-- a page that is neither held nor absent has zeros
pub zeros-end : (c : Content) (bs : Backings) (v p : ℕ) → c.page v p ≡ None → is_absent c (bs v) v p ≡ false → text_over c bs v p ≡ zeros
unfolding backing_text
zeros-end c bs v p free tight = text-free c bs v p free ∙ go (bs v) refl where
  go : (o : Option Backing) → bs v ≡ o → backing_text (bs v) p ≡ zeros
  go None e = ap (λ (x : Option Backing). backing_text x p) e
  go (Some b) e = elim (cases_lt p b.seen) [
    | inl less ↦ absurd (let no : ◌≡◌ {A = Bool} true false = sym (absent-free c bs v p b free e ∙ lt-ltb p b.seen less) ∙ tight in cc)
    | inr past ↦ ap (λ (x : Option Backing). backing_text x p) e ∙ backing-behind b p past
  ]

-- ---- a VMO that is not loose

module _ (c : Content) (bs : Backings) (ls : LooseLinks) (v : ℕ) (b : Backing) (backed : bs v ≡ Some b) (unlinked : ls v ≡ None) where
  pub end_absent-unlinked : (p : ℕ) → is_end_absent bs ls c v p ≡ is_absent c (Some b) v p
  unfolding is_end_absent
  end_absent-unlinked p = ap (λ (u : VmoPage). is_absent c (bs u.koid) u.koid u.page) (end-unlinked c ls v p unlinked) ∙ ap (λ (o : Option Backing). is_absent c o v p) backed

  pub absent_ends-unlinked : (first end : ℕ) → absent_ends bs ls c v first end ≡ filter (is_absent c (Some b) v) (range_with_len first (end - first))
  absent_ends-unlinked first end = λ i. filter (λ p. end_absent-unlinked p i) (range_with_len first (end - first))

  pub pieces-unlinked : (ps : List ℕ) → map (end_piece ls c v) ps ≡ map (supply_of v) ps
  pieces-unlinked ps = λ i. map (λ p. (ap (λ (u : VmoPage). supply_of u.koid u.page) (end-unlinked c ls v p unlinked)) i) ps

-- ---- what a read wants

module _ (s : SourceState) (v : ℕ) where
  abbrev test : ℕ → Bool
  test = is_end_absent s.backing s.link s.content v

  abbrev at_end : ℕ → VmoPage
  at_end = lookup_end s.link s.content v

  wanted_next : (p : ℕ) (ps : List ℕ) → wanted s v (p ∷ ps) ≡ cond (test p) (at_end p ∷ wanted s v ps) (wanted s v ps)
  unfolding is_end_absent
  wanted_next p ps = refl

  pub wanted-ends : (ps : List ℕ) → wanted s v ps ≡ map at_end (filter test ps)
  wanted-ends [] = refl
  wanted-ends (p ∷ ps) = wanted_next p ps ∙ go (test p) (wanted-ends ps) where
    go : (bit : Bool) → wanted s v ps ≡ map at_end (filter test ps)
        → cond bit (at_end p ∷ wanted s v ps) (wanted s v ps) ≡ map at_end (cond bit (p ∷ filter test ps) (filter test ps))
    go true e = ap (λ (xs : List VmoPage). at_end p ∷ xs) e
    go false e = e

  mapped : (ps : List ℕ) → map (λ (at : VmoPage). supply_of at.koid at.page) (map at_end ps) ≡ map (end_piece s.link s.content v) ps
  mapped [] = refl
  mapped (p ∷ ps) = ap (λ (xs : List Piece). end_piece s.link s.content v p ∷ xs) (mapped ps)

  sized : (ps : List ℕ) → length (map at_end ps) ≡ length ps
  sized [] = refl
  sized (p ∷ ps) = ap (λ (n : ℕ). suc n) (sized ps)

  pub wanted-pieces : (ps : List ℕ) → map (λ (at : VmoPage). supply_of at.koid at.page) (wanted s v ps) ≡ map (end_piece s.link s.content v) (filter test ps)
  wanted-pieces ps = ap (map (λ (at : VmoPage). supply_of at.koid at.page)) (wanted-ends ps) ∙ mapped (filter test ps)

  pub wanted-length : (ps : List ℕ) → length (wanted s v ps) ≡ length (filter test ps)
  wanted-length ps = ap (λ (xs : List VmoPage). length xs) (wanted-ends ps) ∙ sized (filter test ps)

-- ---- pages that are supplied

-- the end of one look-up was filled: the others end where they did, at pages that are absent if they were
module _ (bs : Backings) (ls : LooseLinks) (old new : Content) (readable : IsReadable old bs ls) (v p : ℕ) (absent : is_end_absent bs ls old v p ≡ true)
    (others : (w r : ℕ) → (w ≡ (lookup_end ls old v p).koid → r ≡ (lookup_end ls old v p).page → ⊥) → new.page w r ≡ old.page w r) where
  end_unlinked : ls (lookup_end ls old v p).koid ≡ None
  unfolding is_end_absent
  end_unlinked = absent-unlinked (record { content = old; names = λ n. None; backing = bs; link = ls; text = λ w q. zeros }) (lookup_end ls old v p).koid (lookup_end ls old v p).page
      (readable.either (lookup_end ls old v p).koid) absent

  pub end-stays : (w q : ℕ) → lookup_end ls new w q ≡ lookup_end ls old w q
  end-stays w q = end-supplied old new ls (lookup_end ls old v p).koid (lookup_end ls old v p).page end_unlinked others w q

  pub absent-stays : (q : ℕ) → q ≢ p → is_end_absent bs ls new v q ≡ is_end_absent bs ls old v q
  unfolding is_end_absent
  absent-stays q apart =
      ap (λ (u : VmoPage). is_absent new (bs u.koid) u.koid u.page) (end-stays v q)
      ∙ absent-supplied old new ls (lookup_end ls old v p).koid (lookup_end ls old v p).page end_unlinked others bs v p q readable.smaller refl apart
