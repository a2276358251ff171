-- Laws of VMOs that leave upwards behind a name that was closed.
use Rattle.std.proofs.Common.{◌≡◌, ◌≢◌, ℕ, ◌<◌, ◌⊎◌, inl, inr, not, Bool, true, false, Option, None, Some, refl, sym, ap, subst, ◌∙◌, arith}
use Rattle.std.specs.Prelude.{IsSome, is_some, option_map}
use Rattle.vm_base.specs.Entries.{without_key}
use Rattle.vm_base.proofs.EntryLaws.{some_is, some_same, without_key-some}
use Rattle.vm_model.specs.Contents.Content.{Content}
use Rattle.vm_model.specs.Contents.Sharing.{without}
use Rattle.vm_model.proofs.LeavingLaws.{page_none}
use Rattle.source_model.specs.declared.backing.Backing.{Backing}
use Rattle.source_model.specs.declared.link.Link.{Link}
use Rattle.source_model.specs.Sources.{backing_text}
use Rattle.source_model.specs.State.{SourceState, state_over}
use Rattle.source_model.specs.Living.{IsLive, by_name, by_child, IsGoneAt, Leaves}
use Rattle.source_model.specs.Good.{IsGoodSources}
use Rattle.source_model.proofs.LinkLaws.{below-unlinked}
use Rattle.source_model.proofs.LivingLaws.{IsUnkept, HasLeft, HasLeft-none, HasLeft-more, LeavesOne, Leaves-end, IsLiveBy, all_live-named, all_live-parent, all_live-next, all_live-last}
use Rattle.source_model.proofs.CodeLaws.{LeavesOne-without, all_live-unnamed}
use Rattle.source_vm.specs.Closing.{IsUnnamed}
use Rattle.vm_base.specs.declared.names.Koid.{Koid}
use Rattle.vm_base.specs.declared.names.VmoName.{VmoName}
use Rattle.vm_model.specs.declared.reply.Reply.TheVariants.{Done}
use Rattle.source_model.specs.declared.command.SourceCommand.TheVariants.{Close}
use Rattle.source_model.specs.Commands.{SourceStep}
use Rattle.source_vm.specs.Table.{AreIndexed}
use Rattle.source_vm.proofs.RowLaws.{close_done}

-- what is not there does not live, and nothing of it is there
module _ (s : SourceState) (name : ℕ) (good : IsGoodSources s) where
  abbrev closed : SourceState
  closed = record s { names = without_key s.names name }

  not_live : (v : ℕ) → s.content.count v ≡ None → IsLive closed v → ⊥
  not_live v none (by_name n u e) =
      let there = good.known n v (without_key-some s.names name n v e).1 in absurd (let no = ap is_some none in cc)
  not_live v none (by_child w u l e f live) =
      let there = (good.link w l e).vmo in
      let no : is_some (s.content.count l.parent.0) ≡ false = ap (λ (k : ℕ). is_some (s.content.count k)) f ∙ ap is_some none in
      absurd cc

  gone : (v : ℕ) → s.content.count v ≡ None → IsGoneAt closed v
  unfolding backing_text
  gone v none =
      let other = good.others v none in
      record {
        count = none;
        page = λ p. page_none s.content v p good.content none;
        backing = other.0;
        link = other.1;
        text = λ p. good.text.backed v p (page_none s.content v p good.content none) (below-unlinked s.content s.link v p other.1)
            ∙ ap (λ (o : Option Backing). backing_text o p) other.0;
      }

-- From s, VMOs that did not live have left, and what is there would live if a name stood for `top`.
pub record IsLeaving (s now : SourceState) (top : ℕ) : Type 0 where
  pub left : HasLeft s now
  pub all : (v : ℕ) → IsSome (now.content.count v) → IsLiveBy now top v
  pub there : IsSome (now.content.count top)
  pub vmos : (w : ℕ) (l : Link) → now.link w ≡ Some l → IsSome (now.content.count w)
  pub smaller : (w : ℕ) (l : Link) → now.link w ≡ Some l → l.parent.0 < w
  pub parents : (w : ℕ) (l : Link) → now.link w ≡ Some l → IsSome (now.content.count l.parent.0)
  pub either : (v : ℕ) → IsSome (now.content.count v) → is_some (now.backing v) ≡ not (is_some (now.link v))
  pub none : (v : ℕ) → s.content.count v ≡ None → (IsLive s v → ⊥) × IsGoneAt s v

linked_there : (s : SourceState) → IsGoodSources s → (w : ℕ) (l : Link) → s.link w ≡ Some l → IsSome (s.content.count w)
linked_there s good w l e = go (s.content.count w) refl where
  go : (o : Option ℕ) → s.content.count w ≡ o → IsSome (s.content.count w)
  go (Some n) f = ap is_some f
  go None f = absurd (let no : ◌≡◌ {A = Option Link} None (Some l) = sym (good.others w f).1 ∙ e in cc)

-- a name was closed
pub IsLeaving-start : (s : SourceState) (v : ℕ) → IsUnnamed s v → IsLeaving s s v
IsLeaving-start s v unnamed = subst (λ (x : SourceState). IsLeaving x x v) (sym unnamed.is) (
    let old = unnamed.before in
    let good = unnamed.good in
    record {
      left = HasLeft-none (record old { names = without_key old.names unnamed.name });
      all = all_live-unnamed old unnamed.name v good unnamed.named;
      there = good.known unnamed.name v unnamed.named;
      vmos = linked_there old good;
      smaller = λ w l e. (good.link w l e).smaller;
      parents = λ w l e. (good.link w l e).vmo;
      either = good.either;
      none = λ w e. (not_live old unnamed.name good w e, gone old unnamed.name good w e);
    })

module _ (s now new : SourceState) (top : ℕ) (leaving : IsLeaving s now top) (unkept : IsUnkept now top) (one : LeavesOne now new top) where
  not_top : (v : ℕ) → IsSome (new.content.count v) → v ≢ top
  not_top v h same = absurd (let none = ap (λ (w : ℕ). is_some (new.content.count w)) same ∙ ap is_some one.gone.count in cc)

  not_linked : (w : ℕ) (l : Link) → new.link w ≡ Some l → w ≢ top
  not_linked w l e same = absurd (let none : ◌≡◌ {A = Option Link} None (Some l) = sym one.gone.link ∙ (ap new.link (sym same) ∙ e) in cc)

  was_linked : (w : ℕ) (l : Link) → new.link w ≡ Some l → now.link w ≡ Some l
  was_linked w l e = sym (one.others w (not_linked w l e)).link ∙ e

  -- its parent comes next
  pub IsLeaving-next : (up : ℕ) (l : Link) → now.link top ≡ Some l → l.parent.0 ≡ up → IsLeaving s new up
  IsLeaving-next up l linked is = record {
    left = HasLeft-more s now new top leaving.left unkept one;
    all = all_live-next now new top up l one linked is leaving.all;
    there =
        let less = leaving.smaller top l linked in
        ap is_some (one.others up (λ same. omega (arith, less, is, same))).count
        ∙ (ap (λ (k : ℕ). is_some (now.content.count k)) (sym is) ∙ leaving.parents top l linked);
    vmos = λ w k e. ap is_some (one.others w (not_linked w k e)).count ∙ leaving.vmos w k (was_linked w k e);
    smaller = λ w k e. leaving.smaller w k (was_linked w k e);
    parents = λ w k e.
        let was = was_linked w k e in
        ap is_some (one.others k.parent.0 (λ same. unkept.childless w k was same)).count ∙ leaving.parents w k was;
    either = λ v h.
        let stays = one.others v (not_top v h) in
        ap is_some stays.backing ∙ (leaving.either v (ap is_some (sym stays.count) ∙ h) ∙ ap (λ (o : Option Link). not (is_some o)) (sym stays.link));
    none = leaving.none;
  }

  -- it has no parent
  pub Leaves-last : now.link top ≡ None → Leaves s new
  Leaves-last unlinked =
      Leaves-end s new (HasLeft-more s now new top leaving.left unkept one) (all_live-last now new top one unlinked leaving.all) leaving.none

-- something keeps it
pub Leaves-named : (s now : SourceState) (top n : ℕ) → IsLeaving s now top → now.names n ≡ Some top → Leaves s now
Leaves-named s now top n leaving e = Leaves-end s now leaving.left (all_live-named now top n e leaving.all) leaving.none

pub Leaves-child : (s now : SourceState) (top w : ℕ) (l : Link) → IsLeaving s now top → now.link w ≡ Some l → l.parent.0 ≡ top → Leaves s now
Leaves-child s now top w l leaving e f =
    Leaves-end s now leaving.left (all_live-parent now top w l leaving.smaller e f (leaving.vmos w l e) leaving.all) leaving.none

-- ---- over the store and the tables

-- what the tables find to be unkept is so
pub IsUnkept-indexed : (s : SourceState) (owners : ℕ → Option ℕ) (children : ℕ → ℕ → Bool) (v : ℕ) → AreIndexed s.names owners s.link children
    → owners v ≡ None → ((w : ℕ) → children v w ≡ false) → IsUnkept s v
IsUnkept-indexed s owners children v indexed unnamed childless = record {
  unnamed = λ n e. absurd (let no : ◌≡◌ {A = Option ℕ} None (Some n) = sym unnamed ∙ indexed.named n v e in cc);
  childless = λ w l e f. absurd (let no : ◌≡◌ {A = Bool} true false = sym (indexed.linked w l e) ∙ (ap (λ (k : ℕ). children k w) f ∙ childless w) in cc);
}

-- it leaves the store and the tables
pub LeavesOne-from : (c d : Content) (names names_new : ℕ → Option ℕ) (bs bs_new : ℕ → Option Backing) (ls ls_new : ℕ → Option Link) (v : ℕ)
    → IsUnkept (state_over c names bs ls) v → d ≡ without c v → names_new ≡ names → bs_new ≡ without_key bs v → ls_new ≡ without_key ls v
    → LeavesOne (state_over c names bs ls) (state_over d names_new bs_new ls_new) v
LeavesOne-from c d names names_new bs bs_new ls ls_new v unkept content_is names_is bs_is ls_is =
    subst (λ (x : SourceState). LeavesOne (state_over c names bs ls) x v)
    (sym (ap (λ (x : Content). state_over x names_new bs_new ls_new) content_is
    ∙ (ap (λ (ns : ℕ → Option ℕ). state_over (without c v) ns bs_new ls_new) names_is
    ∙ (ap (λ (b : ℕ → Option Backing). state_over (without c v) names b ls_new) bs_is
    ∙ ap (λ (k : ℕ → Option Link). state_over (without c v) names (without_key bs v) k) ls_is))))
    (LeavesOne-without c names bs ls v unkept.childless)

-- a name was closed in the tables
closed_is : (c : Content) (names ns : ℕ → Option ℕ) (bs bs_new : ℕ → Option Backing) (ls ls_new : ℕ → Option Link) (name : ℕ) → ns ≡ without_key names name → bs_new ≡ bs → ls_new ≡ ls
    → state_over c ns bs_new ls_new ≡ record (state_over c names bs ls) { names = without_key names name }
closed_is c names ns bs bs_new ls ls_new name names_is bs_is ls_is =
    ap (λ (b : ℕ → Option Backing). state_over c ns b ls_new) bs_is
    ∙ (ap (λ (k : ℕ → Option Link). state_over c ns bs k) ls_is ∙ ap (λ (n : ℕ → Option ℕ). state_over c n bs ls) names_is)

module _ (c : Content) (names ns : ℕ → Option ℕ) (bs bs_new : ℕ → Option Backing) (ls ls_new : ℕ → Option Link) (name : VmoName) (v : ℕ)
    (named : names name.0 ≡ Some v) (names_is : ns ≡ without_key names name.0) (bs_is : bs_new ≡ bs) (ls_is : ls_new ≡ ls) where
  pub IsUnnamed-from : IsGoodSources (state_over c names bs ls) → IsUnnamed (state_over c ns bs_new ls_new) v
  IsUnnamed-from good = record {
    before = state_over c names bs ls;
    name = name.0;
    good = good;
    named = named;
    is = closed_is c names ns bs bs_new ls ls_new name.0 names_is bs_is ls_is;
  }

  pub close_step : (new : SourceState) → Leaves (state_over c ns bs_new ls_new) new → SourceStep (state_over c names bs ls) (Close name) Done new
  close_step new leaves = close_done (state_over c names bs ls) name v named new
      (subst (λ (x : SourceState). Leaves x new) (closed_is c names ns bs bs_new ls ls_new name.0 names_is bs_is ls_is) leaves)

-- the parent that was found, by the link
pub parent_of : (o : Option Link) (p : Koid) → Some p ≡ option_map (λ (l : Link). l.parent) o → (l : Link) × (o ≡ Some l) × (l.parent.0 ≡ p.0)
parent_of None p e = absurd cc
parent_of (Some l) p e = (l, refl, ap (λ (k : Koid). k.0) (sym (some_same e)))

pub no_parent : (o : Option Link) → None ≡ option_map (λ (l : Link). l.parent) o → o ≡ None
no_parent None e = refl
no_parent (Some l) e = absurd cc

-- what the tables find to be kept, so that all that is there lives
pub Leaves-kept : (s now : SourceState) (owners : ℕ → Option ℕ) (children : ℕ → ℕ → Bool) (top : ℕ) → IsLeaving s now top → AreIndexed now.names owners now.link children
    → IsSome (owners top) ⊎ ((w : ℕ) × (children top w ≡ true)) → Leaves s now
Leaves-kept s now owners children top leaving indexed (inl named) =
    let n = some_is (owners top) named in Leaves-named s now top n.0 leaving (indexed.owned top n.0 n.1)
Leaves-kept s now owners children top leaving indexed (inr child) =
    let has = indexed.child top child.0 child.1 in Leaves-child s now top child.0 has.0 leaving has.1 has.2
