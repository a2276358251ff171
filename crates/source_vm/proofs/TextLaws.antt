-- Laws of pages that are evicted, and of VMOs that come.
use Rattle.std.proofs.Common.{◌≡◌, ℕ, zero, suc, ◌+◌, ◌≤◌, inl, inr, ◌&&◌, ◌==◌, Bool, false, cond, List, map, Option, None, Some, refl, sym, ap, ◌∙◌, arith}
use Rattle.std.specs.Prelude.{IsSome, is_some, nat_eq}
use Rattle.std.specs.Cmp.Lexicographic.{pointwise}
use Rattle.std.proofs.lemmas.Bool.{cases_eq, cases_Bool}
use Rattle.vm_base.specs.Search.{any_from}
use Rattle.vm_base.proofs.SearchLaws.{eqb_same, eqb_apart}
use Rattle.vm_model.specs.Contents.Content.{Content, Page}
use Rattle.vm_model.specs.Contents.Sharing.{snapshotted, page_seen}
use Rattle.vm_model.specs.Contents.Zeroing.{is_within}
use Rattle.vm_model.proofs.SharingLaws.{page_seen-out}
use Rattle.source_model.specs.declared.backing.Backing.{Backing}
use Rattle.source_model.specs.declared.link.Link.{Link}
use Rattle.source_model.specs.Sources.{backing_text}
use Rattle.source_model.specs.Links.{page_below, walked}
use Rattle.source_model.specs.State.{SourceState, state_over, is_clean, evicted, seen_of}
use Rattle.source_model.specs.Good.{IsGoodSources}
use Rattle.source_model.proofs.GoodLaws.{fresh_of}
use Rattle.source_model.proofs.LinkLaws.{below-held, walked-end}
use Rattle.source_model.proofs.TextLaws.{supplies_stay}
use Rattle.source_vm.specs.Pages.{Backings, LooseLinks, FillsPages, lookup_end, end_piece, is_clean_at, cleared}
use Rattle.source_vm.specs.Table.{AreIndexed}
use Rattle.source_vm.proofs.FillingLaws.{clean-zero, clean-held, text-held}

-- ---- supplying

-- no text changes
pub supplied-text : (old new : Content) (names : ℕ → Option ℕ) (bs : Backings) (ls : LooseLinks) (v : ℕ) (ps : List ℕ) → FillsPages bs ls old (map (end_piece ls old v) ps) new
    → (w q : ℕ) → walked new bs (page_below new ls) w q ≡ walked old bs (page_below old ls) w q
supplied-text old new names bs ls v ps fills w q =
    supplies_stay (lookup_end ls old v) (state_over old names bs ls) (state_over new names bs ls) ps (fills.each names) w q

-- ---- evicting

module _ (c : Content) (names : ℕ → Option ℕ) (bs : Backings) (ls : LooseLinks) (v : ℕ) (b : Backing) (e : bs v ≡ Some b) where
  pub clean_is : (q : ℕ) → is_clean (state_over c names bs ls) v q ≡ is_clean_at b c v q
  unfolding is_clean
  clean_is q = go (c.page v q) refl where
    go : (o : Option Page) → c.page v q ≡ o
        → (is_some (c.page v q) && pointwise nat_eq (walked c bs (page_below c ls) v q) (backing_text (bs v) q)) ≡ is_clean_at b c v q
    go None f = ap (λ (x : Option Page). is_some x && pointwise nat_eq (walked c bs (page_below c ls) v q) (backing_text (bs v) q)) f ∙ sym (clean-zero b (c.page v q) q f)
    go (Some held) f =
        ap (λ (x : Option Page). is_some x && pointwise nat_eq (walked c bs (page_below c ls) v q) (backing_text (bs v) q)) f
        ∙ (ap (λ (xs : List ℕ). pointwise nat_eq xs (backing_text (bs v) q)) (walked-end c bs (page_below c ls) v q (below-held c ls v q held f) ∙ text-held c bs v q held f)
        ∙ (ap (λ (o : Option Backing). pointwise nat_eq held.bytes (backing_text o q)) e ∙ sym (clean-held b (c.page v q) q held f)))

  pub evicted_is : (first end : ℕ) → cleared b c v first end ≡ evicted (state_over c names bs ls) v first end
  unfolding evicted cleared
  evicted_is first end = λ i. record c {
    page = λ w q. cond ((w == v) && (is_within first end q && sym (clean_is q) i)) None (c.page w q);
  }

  pub evict_tests : (first end : ℕ) → any_from first end (is_clean (state_over c names bs ls) v) ≡ any_from first end (is_clean_at b c v)
  evict_tests first end = λ i. any_from first end (λ q. clean_is q i)

-- ---- VMOs that come

-- the next koid has no backing, no link, no name and no parent yet
module _ (s : SourceState) (good : IsGoodSources s) where
  pub no_backing_yet : s.backing s.content.next ≡ None
  no_backing_yet = (fresh_of s good).backing

  pub no_link_yet : s.link s.content.next ≡ None
  no_link_yet = (fresh_of s good).link

  module _ (owners : ℕ → Option ℕ) (children : ℕ → ℕ → Bool) (indexed : AreIndexed s.names owners s.link children) where
    pub no_owner_yet : owners s.content.next ≡ None
    no_owner_yet = go (owners s.content.next) refl where
      go : (o : Option ℕ) → owners s.content.next ≡ o → owners s.content.next ≡ None
      go None e = e
      go (Some n) e = absurd (no_vmo (s.content.count s.content.next) refl (good.known n s.content.next (indexed.owned s.content.next n e))) where
        no_vmo : (o : Option ℕ) → s.content.count s.content.next ≡ o → IsSome (s.content.count s.content.next) → ⊥
        no_vmo None f there = absurd (let no = ap is_some f in cc)
        no_vmo (Some m) f there = let below = (good.content.koids s.content.next m f).1 in omega (arith, below)

    pub no_child_yet : (p : ℕ) → children p s.content.next ≡ false
    no_child_yet p = elim (cases_Bool (children p s.content.next)) [
      | inl e ↦ absurd (let has = indexed.child p s.content.next e in let no : ◌≡◌ {A = Option Link} None (Some has.0) = sym no_link_yet ∙ has.1 in cc)
      | inr e ↦ e
    ]

page_seen-none : (c : Content) (v first other p : ℕ) → page_seen c v first 0 p ≡ page_seen c v other 0 p
page_seen-none c v first other p = page_seen-out c v first 0 p (omega arith) ∙ sym (page_seen-out c v other 0 p (omega arith))

-- a snapshot that sees nothing, wherever it begins
pub snapshotted-first : (c : Content) (v start seen pages : ℕ) → snapshotted c v (cond (seen == 0) 0 start) seen pages ≡ snapshotted c v start seen pages
unfolding snapshotted
snapshotted-first c v start zero pages = λ i. record c {
  next = c.next + 1;
  count = λ w. cond (w == c.next) (Some pages) (c.count w);
  page = λ w p. cond (w == c.next) (page_seen-none c v 0 start p i) (c.page w p);
}
snapshotted-first c v start (suc n) pages =
    ap (λ (t : Bool). snapshotted c v (cond t 0 start) (suc n) pages) (eqb_apart (suc n) 0 (λ z. omega (arith, z)))

-- the pages that a child shows lie in its parent
pub first_fits : (have start pages : ℕ) (first seen : ℕ) → seen ≡ seen_of have start pages → first ≡ cond (seen == 0) 0 start → first + seen ≤ have
first_fits have start pages first seen is at = elim (cases_eq seen 0) [
  | inl none ↦ let zero_first : first ≡ 0 = at ∙ ap (λ (t : Bool). cond t 0 start) (ap (λ (n : ℕ). n == 0) none ∙ eqb_same 0) in omega (arith, zero_first, none)
  | inr some ↦ let from_start : first ≡ start = at ∙ ap (λ (t : Bool). cond t 0 start) (eqb_apart seen 0 some) in omega (arith, from_start, is, some)
]
