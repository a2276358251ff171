-- Laws for code that keeps a content, names, backings and links, and no text: what its changes are of the state that it stands for.
use Rattle.std.proofs.Common.{◌≡◌, ◌≢◌, ℕ, inl, inr, ◌&&◌, not, nat_lt, Bool, true, cond, Option, None, Some, refl, sym, ap, ◌∙◌}
use Rattle.std.specs.Prelude.{IsSome, is_some}
use Rattle.std.proofs.lemmas.Bool.{cases_eq, and_parts}
use Rattle.vm_base.specs.Entries.{without_key, passes}
use Rattle.vm_base.proofs.EntryLaws.{some_same, passes_found, without_key-same, without_key-other}
use Rattle.vm_base.proofs.SearchLaws.{eqb_same, eqb_apart}
use Rattle.vm_model.specs.Contents.Content.{Content, Page, is_held}
use Rattle.vm_model.specs.Contents.Sharing.{without, only}
use Rattle.source_model.specs.declared.backing.Backing.{Backing}
use Rattle.source_model.specs.declared.link.Link.{Link}
use Rattle.source_model.specs.Links.{page_below, read_end}
use Rattle.vm_model.specs.Contents.Owning.{VmoPage}
use Rattle.source_model.specs.State.{SourceState, state_over, is_absent}
use Rattle.source_model.specs.Living.{IsLive, by_name, by_child}
use Rattle.source_model.specs.Good.{IsGoodSources}
use Rattle.source_model.proofs.WalkLaws.{end_over-none, ends_apart}
use Rattle.source_model.proofs.LinkLaws.{AreSmaller, below-same, below-unlinked, goes_down, are_windows}
use Rattle.source_model.proofs.BesideLaws.{text_left, text_gone}
use Rattle.source_model.proofs.LivingLaws.{LeavesOne, IsLiveBy, itself, with_name, with_child}

-- ---- reads

-- a look-up from a VMO that is not loose ends where it begins
pub end-unlinked : (c : Content) (link : ℕ → Option Link) (v p : ℕ) → link v ≡ None → read_end (page_below c link) v p ≡ record { koid = v; page = p }
end-unlinked c link v p e = end_over-none v (page_below c link) (record { koid = v; page = p }) (below-unlinked c link v p e)

abbrev own_page : ℕ → ℕ → VmoPage
own_page v p = record { koid = v; page = p }

-- an absent page is one of a VMO that is not loose
pub absent-unlinked : (s : SourceState) (k q : ℕ) → ((b : Backing) → s.backing k ≡ Some b → s.link k ≡ None) → is_absent s.content (s.backing k) k q ≡ true → s.link k ≡ None
unfolding is_absent
absent-unlinked s k q tight e =
    let found = passes_found (λ (b : Backing). nat_lt q b.seen) (s.backing k) (and_parts (not (is_held s.content k q)) (passes (λ (b : Backing). nat_lt q b.seen) (s.backing k)) e).1 in
    tight found.0 found.1

-- a page of a VMO that is not loose was filled: look-ups end where they did
module _ (old new : Content) (link : ℕ → Option Link) (k q : ℕ) (unlinked : link k ≡ None) (others : (w r : ℕ) → (w ≡ k → r ≡ q → ⊥) → new.page w r ≡ old.page w r) where
  pub below-supplied : (w r : ℕ) → page_below new link w r ≡ page_below old link w r
  below-supplied w r = elim (cases_eq w k) [
    | inl same ↦ rw same (below-unlinked new link k r unlinked ∙ sym (below-unlinked old link k r unlinked))
    | inr apart ↦ below-same old new link link w r (ap is_some (others w r (λ e f. apart e))) refl
  ]

  pub end-supplied : (v p : ℕ) → read_end (page_below new link) v p ≡ read_end (page_below old link) v p
  end-supplied v p = λ i. read_end (λ w r. below-supplied w r i) v p

  -- another page of the same VMO, whose look-up ended elsewhere, is absent if it was
  pub absent-supplied : (backing : ℕ → Option Backing) (v p r : ℕ) → AreSmaller link → read_end (page_below old link) v p ≡ record { koid = k; page = q } → r ≢ p
      → (let at = read_end (page_below old link) v r in is_absent new (backing at.koid) at.koid at.page ≡ is_absent old (backing at.koid) at.koid at.page)
  unfolding is_absent
  absent-supplied backing v p r smaller here apart =
      let below = page_below old link in
      let at = read_end below v r in
      ap (λ (o : Option Page). not (is_some o) && passes (λ (b : Backing). nat_lt at.page b.seen) (backing at.koid)) (others at.koid at.page (λ e f.
      apart (ends_apart below (goes_down old link smaller) (are_windows old link) v v r p ((λ i. record { koid = e i; page = f i }) ∙ sym here))))

-- ---- closes

-- a VMO without a child leaves the store and the tables
pub LeavesOne-without : (c : Content) (names : ℕ → Option ℕ) (backing : ℕ → Option Backing) (link : ℕ → Option Link) (v : ℕ) → ((w : ℕ) (l : Link) → link w ≡ Some l → l.parent.0 ≢ v)
    → LeavesOne (state_over c names backing link) (state_over (without c v) names (without_key backing v) (without_key link v)) v
unfolding only
LeavesOne-without c names backing link v childless = record {
  frames = refl;
  next = refl;
  names = refl;
  gone = record {
    count = ap (λ (t : Bool). cond (not t) (c.count v) None) (eqb_same v);
    page = λ p. ap (λ (t : Bool). cond (not t) (c.page v p) None) (eqb_same v);
    backing = without_key-same backing v;
    link = without_key-same link v;
    text = text_gone c backing link v childless;
  };
  others = λ w apart. record {
    count = ap (λ (t : Bool). cond (not t) (c.count w) None) (eqb_apart w v apart);
    page = λ p. ap (λ (t : Bool). cond (not t) (c.page w p) None) (eqb_apart w v apart);
    backing = without_key-other backing v w apart;
    link = without_key-other link v w apart;
    text = λ p. text_left c backing link v childless w p apart;
  };
}

-- where a name is closed, all would live if a name stood for its VMO
unnamed_lives : (s : SourceState) (name v w : ℕ) → s.names name ≡ Some v → IsLive s w → IsLiveBy (record s { names = without_key s.names name }) v w
unnamed_lives s name v w named (by_name n u e) = elim (cases_eq n name) [
  | inl same ↦ itself u (some_same (sym e ∙ (ap s.names same ∙ named)))
  | inr apart ↦ with_name n u (without_key-other s.names name n apart ∙ e)
]
unnamed_lives s name v w named (by_child x u l e f live) = with_child x u l e f (unnamed_lives s name v x named live)

pub all_live-unnamed : (s : SourceState) (name v : ℕ) → IsGoodSources s → s.names name ≡ Some v
    → (w : ℕ) → IsSome (s.content.count w) → IsLiveBy (record s { names = without_key s.names name }) v w
all_live-unnamed s name v good named w h = unnamed_lives s name v w named (good.live w h)
