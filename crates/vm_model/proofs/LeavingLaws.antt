-- Laws of VMOs that leave: nothing leaves a good state. Where a name or a pin of a VMO goes, at most that VMO leaves, and the
-- state stays good.
use Rattle.std.proofs.Common.{◌≡◌, ◌≢◌, ℕ, zero, suc, ◌<◌, Bool, true, false, not, cond, ◌==◌, Option, None, Some, ◌⊎◌, refl, sym, ap, subst, ◌∙◌, inl, inr, arith}
use Rattle.std.specs.Prelude.{unwrap_or, IsSome, is_some}
use Rattle.std.specs.Option.{option_map}
use Rattle.std.proofs.lemmas.Bool.{cases_Bool, cases_eq, not_from_true, not_from_false, false_from_ne_true, both_ways}
use Rattle.std.proofs.lemmas.Bool.Decides.{Decides-eqb}
use Rattle.vm_model.specs.Contents.Content.{Page, Content, pages_of, sole, IsGood}
use Rattle.vm_model.specs.Contents.Sharing.{only, without}
use Rattle.vm_base.specs.Entries.{without_key}
use Rattle.vm_model.specs.declared.names.Target.{Target}
use Rattle.vm_model.specs.Naming.Names.{Lineage, parent_without, lineage_without, is_of}
use Rattle.vm_base.specs.declared.limits.TheConstants.{NAMES}
use Rattle.vm_model.specs.Naming.Pins.{Pin}
use Rattle.vm_model.specs.Machine.State.{State, is_live, lineage_of, IsGoodName, IsGoodPin, IsGoodState}
use Rattle.vm_model.specs.Machine.Leaving.{first_live, lineage_left, pruned}
use Rattle.vm_base.proofs.SearchLaws.{eqb_apart, eqb_same}
use Rattle.vm_base.proofs.EntryLaws.{without_key-some, some_is, none_is, any_entry_at, any_entry-without_key_other}
use Rattle.vm_model.proofs.NamesLaws.{lineage_of-at, lineage-known, lineage_of-same, parent_without-none, parent_without-same, parent_without-other, left_by, lineage_without-same, lineage_without-other}
use Rattle.vm_model.proofs.SharingLaws.{IsGood-only}
use Rattle.vm_model.proofs.SoleLaws.{sole-only_kept}
use Rattle.vm_model.proofs.LiveLaws.{is_live-named, is_live-pinned, is_live-mapped, is_live-same}
use Rattle.vm_model.proofs.SpaceLaws.{is_mapped_at, AreGoodSpaces-over}
use Rattle.vm_model.specs.declared.space.Entry.{Entry}
use Rattle.vm_model.specs.Space.AddressSpaces.{Spaces, AreGoodSpaces}

-- ---- what good states say

-- a VMO of a good state has a lineage
pub lineage_at : (s : State) (v : ℕ) → IsGoodState s → IsSome (s.content.count v) → IsSome (s.lineage v)
lineage_at s v good h = good.known v ∙ h

-- a VMO with a lineage is one of the content
pub count_at : (s : State) (v : ℕ) → IsGoodState s → IsSome (s.lineage v) → IsSome (s.content.count v)
count_at s v good h = sym (good.known v) ∙ h

-- the VMO of an open name
pub name_vmo : (s : State) (n : ℕ) (t : Target) → IsGoodState s → s.names n ≡ Some t → IsSome (s.content.count t.koid.0)
name_vmo s n t good e = (good.names n t e).1.vmo

pub name_lineage : (s : State) (n : ℕ) (t : Target) → IsGoodState s → s.names n ≡ Some t → IsSome (s.lineage t.koid.0)
name_lineage s n t good e = lineage_at s t.koid.0 good (name_vmo s n t good e)

-- the VMO of a pin
pub pin_vmo : (s : State) (n : ℕ) (pin : Pin) → IsGoodState s → s.pins n ≡ Some pin → IsSome (s.content.count pin.koid)
pin_vmo s n pin good e = (good.pins n pin e).1.vmo

pub pin_lineage : (s : State) (n : ℕ) (pin : Pin) → IsGoodState s → s.pins n ≡ Some pin → IsSome (s.lineage pin.koid)
pin_lineage s n pin good e = lineage_at s pin.koid good (pin_vmo s n pin good e)

-- a koid that is not live is no VMO, where each VMO is live
gone : (s : State) (v : ℕ) → (IsSome (s.content.count v) → is_live s v ≡ true) → is_live s v ≡ false → s.content.count v ≡ None
gone s v live off = none_is (s.content.count v) (false_from_ne_true (is_some (s.content.count v)) (λ there. both_ways (is_live s v) off (live there)))

pub count_none : (s : State) (v : ℕ) → IsGoodState s → is_live s v ≡ false → s.content.count v ≡ None
count_none s v good off = gone s v (λ there. good.live v (lineage_at s v good there)) off

-- a koid without a count has no pages
pub page_none : (c : Content) (v p : ℕ) → IsGood c → c.count v ≡ None → c.page v p ≡ None
unfolding pages_of
page_none c v p good none = go (c.page v p) refl where
  go : (o : Option Page) → c.page v p ≡ o → o ≡ None
  go None e = refl
  go (Some held) e =
      let below = good.below v p held e in
      let counted : pages_of c v ≡ 0 = ap (λ (o : Option ℕ). unwrap_or o 0) none in absurd (omega (arith, below, counted))

-- a name is as good in a state with the same VMO and the same leave to change its size
pub IsGoodName-same : (s t : State) (target : Target) → t.content.count target.koid.0 ≡ s.content.count target.koid.0 → (lineage_of t target.koid.0).resizable ≡ (lineage_of s target.koid.0).resizable → IsGoodName s target → IsGoodName t target
unfolding pages_of
IsGoodName-same s t target count resizable good = record {
  vmo = ap is_some count ∙ good.vmo;
  whole = good.whole;
  part = λ n e.
      let was = good.part n e in
      let pages : pages_of t.content target.koid.0 ≡ pages_of s.content target.koid.0 = ap (λ (o : Option ℕ). unwrap_or o 0) count in
      (was.0, resizable ∙ was.1, omega (arith, was.2, pages));
  resize = λ e. resizable ∙ good.resize e;
}

-- a pin is as good in a state with the same VMO, where its pages are still sole
pub IsGoodPin-same : (s t : State) (pin : Pin) → t.content.count pin.koid ≡ s.content.count pin.koid → ((p : ℕ) → sole s.content pin.koid p ≡ true → sole t.content pin.koid p ≡ true) → IsGoodPin s pin → IsGoodPin t pin
unfolding pages_of
IsGoodPin-same s t pin count kept good = record {
  vmo = ap is_some count ∙ good.vmo;
  few = good.few;
  inside = let pages : pages_of t.content pin.koid ≡ pages_of s.content pin.koid = ap (λ (o : Option ℕ). unwrap_or o 0) count in omega (arith, good.inside, pages);
  alone = λ p low high. kept p (good.alone p low high);
}

-- ---- the first that is live

pub first_live-none : (steps : ℕ) (s : State) → first_live steps s None ≡ None
unfolding first_live
first_live-none zero s = refl
first_live-none (suc steps) s = refl

pub first_live-here : (steps : ℕ) (s : State) (p : ℕ) → 0 < steps → is_live s p ≡ true → first_live steps s (Some p) ≡ Some p
unfolding first_live
first_live-here zero s p h live = absurd (omega arith)
first_live-here (suc steps) s p h live = ap (λ (b : Bool). cond {A = Option ℕ} b (Some p) (first_live steps s (lineage_of s p).parent)) live

-- behind a parent that is not live comes its own parent, where that is live
pub first_live-next : (steps : ℕ) (s : State) (p : ℕ) → p < steps → is_live s p ≡ false → ((q : ℕ) → (lineage_of s p).parent ≡ Some q → (q < p) × (is_live s q ≡ true)) → first_live steps s (Some p) ≡ (lineage_of s p).parent
unfolding first_live
first_live-next zero s p h off next = absurd (omega arith)
first_live-next (suc steps) s p h off next =
    ap (λ (b : Bool). cond {A = Option ℕ} b (Some p) (first_live steps s (lineage_of s p).parent)) off ∙ go (lineage_of s p).parent refl where
      go : (o : Option ℕ) → (lineage_of s p).parent ≡ o → first_live steps s o ≡ o
      go None e = first_live-none steps s
      go (Some q) e = let found = next q e in first_live-here steps s q (omega (arith, h, found.0)) found.1

-- ---- VMOs that stay

-- nothing, whether it stays or not
lineage_rest : {A : Type 0} (b : Bool) (o : Option A) → o ≡ None → cond b o None ≡ None
lineage_rest true o e = e
lineage_rest false o e = refl

cond_alike : {A : Type 0} (b d : Bool) (o : Option A) → (b ≡ d) ⊎ (o ≡ None) → cond b o None ≡ cond d o None
cond_alike {A} b d o (inl same) = ap (λ (a : Bool). cond {A = Option A} a o None) same
cond_alike {A} b d o (inr none) = lineage_rest b o none ∙ sym (lineage_rest d o none)

-- it makes no difference whether a koid without a VMO stays
pub only-alike : (c : Content) (stays keeps : ℕ → Bool) → IsGood c → ((v : ℕ) → (stays v ≡ keeps v) ⊎ (c.count v ≡ None)) → only c stays ≡ only c keeps
unfolding only
only-alike c stays keeps good each = λ i. record {
  frames = c.frames;
  next = c.next;
  count = λ v. cond_alike (stays v) (keeps v) (c.count v) (each v) i;
  page = λ v p. cond_alike (stays v) (keeps v) (c.page v p) (pages v p) i;
} where
  pages : (v p : ℕ) → (stays v ≡ keeps v) ⊎ (c.page v p ≡ None)
  pages v p = elim (each v) [ inl same ↦ inl same | inr none ↦ inr (page_none c v p good none) ]

-- where all stay, nothing changes
pub only-all : (c : Content) → only c (λ v. true) ≡ c
unfolding only
only-all c = refl

pub lineage_left-is : (s : State) (v : ℕ) (l : Lineage) (parent : Option ℕ) → first_live v s l.parent ≡ parent → lineage_left s v l ≡ record l { parent = parent }
unfolding lineage_left
lineage_left-is s v l parent e = ap (λ (o : Option ℕ). record l { parent = o }) e

-- nothing leaves a good state
pub pruned-good : (s : State) → IsGoodState s → pruned s ≡ s
unfolding pruned
pruned-good s good = λ i. record s { content = same i; lineage = λ v. each v (s.lineage v) refl i } where
  same : only s.content (is_live s) ≡ s.content
  same = only-alike s.content (is_live s) (λ v. true) good.content (λ v. elim (cases_Bool (is_live s v)) [
    | inl live ↦ inl live
    | inr off ↦ inr (count_none s v good off)
  ]) ∙ only-all s.content

  parent : (v : ℕ) (l : Lineage) → s.lineage v ≡ Some l → (o : Option ℕ) → l.parent ≡ o → first_live v s o ≡ o
  parent v l e None f = first_live-none v s
  parent v l e (Some p) f = let older = good.parents v p l e f in first_live-here v s p (omega (arith, older.0)) (good.live p older.1)

  each : (v : ℕ) (o : Option Lineage) → s.lineage v ≡ o → cond (is_live s v) (option_map (lineage_left s v) o) None ≡ o
  each v None e = lineage_rest (is_live s v) None refl
  each v (Some l) e =
      ap (λ (b : Bool). cond {A = Option Lineage} b (Some (lineage_left s v l)) None) (good.live v (ap is_some e))
      ∙ ap (λ (k : Lineage). Some k) (lineage_left-is s v l l.parent (parent v l e l.parent refl))

-- ---- a state that is good, but that VMOs of it may not be live

pub record IsLoose (t : State) : Type 0 where
  pub content : IsGood t.content
  pub names : (n : ℕ) (target : Target) → t.names n ≡ Some target → (n < NAMES) × IsGoodName t target
  pub known : (w : ℕ) → is_some (t.lineage w) ≡ is_some (t.content.count w)
  pub parents : (w p : ℕ) (l : Lineage) → t.lineage w ≡ Some l → l.parent ≡ Some p → (p < w) × IsSome (t.lineage p)
  pub pins : (n : ℕ) (pin : Pin) → t.pins n ≡ Some pin → (n < NAMES) × IsGoodPin t pin
  pub spaces : AreGoodSpaces t.content t.spaces

module _ (t : State) (loose : IsLoose t) where
  -- it is good where each VMO is live
  pub IsGoodState-live : ((w : ℕ) → IsSome (t.lineage w) → is_live t w ≡ true) → IsGoodState t
  IsGoodState-live live = record {
    content = loose.content;
    names = loose.names;
    known = loose.known;
    live = live;
    parents = loose.parents;
    pins = loose.pins;
    spaces = loose.spaces;
  }

  -- the VMO of a name, of a pin and of an entry is live
  named_live : (n : ℕ) (target : Target) → t.names n ≡ Some target → is_live t target.koid.0 ≡ true
  named_live n target e =
      is_live-named t target.koid.0 (any_entry_at NAMES (is_of target.koid.0) t.names n target (loose.names n target e).0 e (eqb_same target.koid.0))

  pinned_live : (n : ℕ) (pin : Pin) → t.pins n ≡ Some pin → is_live t pin.koid ≡ true
  pinned_live n pin e =
      is_live-pinned t pin.koid (any_entry_at NAMES (λ (p : Pin). p.koid == pin.koid) t.pins n pin (loose.pins n pin e).0 e (eqb_same pin.koid))

  mapped_live : (root p : ℕ) (entry : Entry) → t.spaces.table root p ≡ Some entry → is_live t entry.koid.0 ≡ true
  mapped_live root p entry e = is_live-mapped t entry.koid.0 (is_mapped_at t.content t.spaces loose.spaces root p entry e)

  -- the first of the VMOs above that is live is one of them
  first_above : (steps bound : ℕ) (o : Option ℕ) (p : ℕ) → ((q : ℕ) → o ≡ Some q → (q < bound) × IsSome (t.lineage q)) → first_live steps t o ≡ Some p
      → (p < bound) × IsSome (t.lineage p) × (is_live t p ≡ true)
  unfolding first_live
  first_above zero bound o p each e = absurd cc
  first_above (suc steps) bound None p each e = absurd cc
  first_above (suc steps) bound (Some q) p each e =
      let here = each q refl in
      go (is_live t q) refl e (λ f.
      let known = lineage-known t q here.1 in
      let found = first_above steps q (lineage_of t q).parent p (λ r g. loose.parents q r (lineage_of t q) known g) f in
      (omega (arith, found.0, here.0), found.1, found.2)) where
        go : (b : Bool) → is_live t q ≡ b → cond b (Some q) (first_live steps t (lineage_of t q).parent) ≡ Some p
            → (first_live steps t (lineage_of t q).parent ≡ Some p → (p < bound) × IsSome (t.lineage p) × (is_live t p ≡ true))
            → (p < bound) × IsSome (t.lineage p) × (is_live t p ≡ true)
        go true live f up = let is : q ≡ p = cc in subst (λ (r : ℕ). (r < bound) × IsSome (t.lineage r) × (is_live t r ≡ true)) is ((each q refl).0, (each q refl).1, live)
        go false off f up = up f

  -- a VMO that is live keeps its count, and a lineage
  count-pruned : (v : ℕ) → is_live t v ≡ true → (pruned t).content.count v ≡ t.content.count v
  unfolding pruned only
  count-pruned v live = ap (λ (b : Bool). cond {A = Option ℕ} b (t.content.count v) None) live

  lineage-pruned : (v : ℕ) (l : Lineage) → is_live t v ≡ true → t.lineage v ≡ Some l → (pruned t).lineage v ≡ Some (lineage_left t v l)
  unfolding pruned
  lineage-pruned v l live e =
      ap (λ (b : Bool). cond {A = Option Lineage} b (option_map (lineage_left t v) (t.lineage v)) None) live ∙ ap (option_map (lineage_left t v)) e

  lineage_there : (v : ℕ) → is_live t v ≡ true → is_some ((pruned t).lineage v) ≡ is_some (t.lineage v)
  unfolding pruned
  lineage_there v live = ap (λ (b : Bool). is_some (cond {A = Option Lineage} b (option_map (lineage_left t v) (t.lineage v)) None)) live ∙ go (t.lineage v) where
    go : (o : Option Lineage) → is_some (option_map (lineage_left t v) o) ≡ is_some o
    go None = refl
    go (Some l) = refl

  -- one that is not live has neither
  count-gone : (v : ℕ) → is_live t v ≡ false → (pruned t).content.count v ≡ None
  unfolding pruned only
  count-gone v off = ap (λ (b : Bool). cond {A = Option ℕ} b (t.content.count v) None) off

  lineage-gone : (v : ℕ) → is_live t v ≡ false → (pruned t).lineage v ≡ None
  unfolding pruned
  lineage-gone v off = ap (λ (b : Bool). cond {A = Option Lineage} b (option_map (lineage_left t v) (t.lineage v)) None) off

  -- a VMO that is left is live, and was there
  left_was : (v : ℕ) (new : Lineage) → (pruned t).lineage v ≡ Some new → (l : Lineage) × (t.lineage v ≡ Some l) × (is_live t v ≡ true) × (new ≡ lineage_left t v l)
  unfolding pruned
  left_was v new e = go (is_live t v) refl (t.lineage v) refl e where
    go : (b : Bool) → is_live t v ≡ b → (o : Option Lineage) → t.lineage v ≡ o → cond {A = Option Lineage} b (option_map (lineage_left t v) o) None ≡ Some new
        → (l : Lineage) × (t.lineage v ≡ Some l) × (is_live t v ≡ true) × (new ≡ lineage_left t v l)
    go true f None g h = absurd cc
    go true f (Some l) g h = (l, g, f, cc)
    go false f o g h = absurd cc

  resizable-pruned : (v : ℕ) → is_live t v ≡ true → IsSome (t.lineage v) → (lineage_of (pruned t) v).resizable ≡ (lineage_of t v).resizable
  unfolding lineage_left
  resizable-pruned v live there =
      ap (λ (l : Lineage). l.resizable) (lineage_of-at (pruned t) v (lineage_left t v (lineage_of t v)) (lineage-pruned v (lineage_of t v) live (lineage-known t v there)))

  -- what is live after the others left is what was live
  pub is_live-pruned : (v : ℕ) → is_live (pruned t) v ≡ is_live t v
  unfolding pruned
  is_live-pruned v = is_live-same t (pruned t) v refl refl refl

  -- the state is good once the VMOs that are not live have left
  pub IsGoodState-pruned : IsGoodState (pruned t)
  unfolding pruned lineage_left
  IsGoodState-pruned = record {
    content = IsGood-only t.content (is_live t) loose.content;
    names = λ n target e.
        let fine = loose.names n target e in
        let live = named_live n target e in
        (fine.0, IsGoodName-same t (pruned t) target (count-pruned target.koid.0 live) (resizable-pruned target.koid.0 live (loose.known target.koid.0 ∙ fine.1.vmo)) fine.1);
    known = λ v. elim (cases_Bool (is_live t v)) [
      | inl live ↦ lineage_there v live ∙ (loose.known v ∙ ap is_some (sym (count-pruned v live)))
      | inr off ↦ ap is_some (lineage-gone v off) ∙ sym (ap is_some (count-gone v off))
    ];
    live = λ v there. let was = left_was v (some_is ((pruned t).lineage v) there).0 (some_is ((pruned t).lineage v) there).1 in is_live-pruned v ∙ was.2;
    parents = λ v p new e f.
        let was = left_was v new e in
        let up = first_above v v was.0.parent p (λ q g. loose.parents v q was.0 was.1 g) (sym (ap (λ (l : Lineage). l.parent) was.3) ∙ f) in
        (up.0, lineage_there p up.2 ∙ up.1);
    pins = λ n pin e.
        let fine = loose.pins n pin e in
        let live = pinned_live n pin e in
        (fine.0, IsGoodPin-same t (pruned t) pin (count-pruned pin.koid live) (λ p alone. sole-only_kept t.content (is_live t) pin.koid p loose.content live alone) fine.1);
    spaces = AreGoodSpaces-over t.content t.spaces loose.spaces (pruned t).content (λ root p entry e.
        ap is_some (count-pruned entry.koid.0 (mapped_live root p entry e)) ∙ loose.spaces.vmos root p entry e);
  }

-- ---- a state that is good, but that one VMO of it may not be live

pub record IsLooseAt (t : State) (v : ℕ) : Type 0 where
  pub loose : IsLoose t
  pub live : (w : ℕ) → w ≢ v → IsSome (t.lineage w) → is_live t w ≡ true
  pub vmo : IsSome (t.lineage v)

-- the state without the VMO v, whose children get its parent
abbrev pub left_vmo : State → ℕ → State
left_vmo t v = record t { content = without t.content v; lineage = lineage_without t.lineage v (lineage_of t v).parent }

module _ (t : State) (v : ℕ) (good : IsLooseAt t v) where
  -- the state is good where the VMO is live
  pub IsGoodState-live_at : is_live t v ≡ true → IsGoodState t
  IsGoodState-live_at here =
      IsGoodState-live t good.loose (λ w h. elim (cases_eq w v) [ inl same ↦ ap (is_live t) same ∙ here | inr apart ↦ good.live w apart h ])

  -- the parent of the VMO is an older VMO, and another
  parent_older : (p : ℕ) → (lineage_of t v).parent ≡ Some p → (p < v) × IsSome (t.lineage p)
  parent_older p e = good.loose.parents v p (lineage_of t v) (lineage-known t v good.vmo) e

  -- a VMO that is not live leaves, and it alone. Its children get its parent
  pub pruned-left : is_live t v ≡ false → pruned t ≡ left_vmo t v
  unfolding pruned
  pruned-left left = λ i. record t { content = same i; lineage = λ w. each w i } where
    same : only t.content (is_live t) ≡ without t.content v
    same = only-alike t.content (is_live t) (λ w. not (w == v)) good.loose.content (λ w. elim (cases_eq w v) [
      | inl vmo ↦ inl (ap (is_live t) vmo ∙ (left ∙ sym (not_from_true (w == v) ((Decides-eqb w v).1 vmo))))
      | inr apart ↦ elim (cases_Bool (is_live t w)) [
        | inl live ↦ inl (live ∙ sym (not_from_false (w == v) (eqb_apart w v apart)))
        | inr off ↦ inr (gone t w (λ there. good.live w apart (good.loose.known w ∙ there)) off)
      ]
    ])

    -- the parent of a VMO that stays
    parent : (w : ℕ) (l : Lineage) → t.lineage w ≡ Some l → (o : Option ℕ) → l.parent ≡ o → first_live w t o ≡ parent_without v (lineage_of t v).parent o
    parent w l e None f = first_live-none w t ∙ sym (parent_without-none v (lineage_of t v).parent)
    parent w l e (Some p) f =
        let older = good.loose.parents w p l e f in
        elim (cases_eq p v) [
          | inl vmo ↦
              let next : (q : ℕ) → (lineage_of t p).parent ≡ Some q → (q < p) × (is_live t q ≡ true) = λ q g.
              let above = parent_older q (ap (λ (u : ℕ). (lineage_of t u).parent) (sym vmo) ∙ g) in
              let apart : q ≢ v = omega (arith, above.0) in
              (omega (arith, above.0, vmo), good.live q apart above.1) in
              first_live-next w t p older.0 (ap (is_live t) vmo ∙ left) next
              ∙ (ap (λ (u : ℕ). (lineage_of t u).parent) vmo
              ∙ sym (ap (λ (q : ℕ). parent_without v (lineage_of t v).parent (Some q)) vmo ∙ parent_without-same v (lineage_of t v).parent))
          | inr apart ↦
              first_live-here w t p (omega (arith, older.0)) (good.live p apart older.1)
              ∙ sym (parent_without-other v (lineage_of t v).parent p apart)
        ]

    kept : (w : ℕ) → w ≢ v → (o : Option Lineage) → t.lineage w ≡ o → cond (is_live t w) (option_map (lineage_left t w) o) None ≡ option_map (left_by v (lineage_of t v).parent) o
    kept w apart None e = lineage_rest (is_live t w) None refl
    kept w apart (Some l) e =
        ap (λ (b : Bool). cond {A = Option Lineage} b (Some (lineage_left t w l)) None) (good.live w apart (ap is_some e))
        ∙ ap (λ (k : Lineage). Some k) (lineage_left-is t w l (parent_without v (lineage_of t v).parent l.parent) (parent w l e l.parent refl))

    each : (w : ℕ) → cond (is_live t w) (option_map (lineage_left t w) (t.lineage w)) None ≡ lineage_without t.lineage v (lineage_of t v).parent w
    each w = elim (cases_eq w v) [
      | inl vmo ↦
          ap (λ (b : Bool). cond {A = Option Lineage} b (option_map (lineage_left t w) (t.lineage w)) None) (ap (is_live t) vmo ∙ left)
          ∙ sym (ap (lineage_without t.lineage v (lineage_of t v).parent) vmo ∙ lineage_without-same t.lineage v (lineage_of t v).parent)
      | inr apart ↦ kept w apart (t.lineage w) refl ∙ sym (lineage_without-other t.lineage v (lineage_of t v).parent w apart)
    ]

-- ---- less that keeps a VMO

-- The state t is s with less that keeps VMOs: no VMO changes.
pub record Loosens (s t : State) : Type 0 where
  pub content : t.content ≡ s.content
  pub lineage : t.lineage ≡ s.lineage
  pub names : (n : ℕ) (target : Target) → t.names n ≡ Some target → s.names n ≡ Some target
  pub pins : (n : ℕ) (pin : Pin) → t.pins n ≡ Some pin → s.pins n ≡ Some pin
  pub spaces : AreGoodSpaces s.content t.spaces

-- the state is good then, but that VMOs of it may not be live
pub IsLoose-from : (s t : State) → IsGoodState s → Loosens s t → IsLoose t
IsLoose-from s t good less = record {
  content = subst IsGood (sym less.content) good.content;
  names = λ n target e. let was = good.names n target (less.names n target e) in (was.0, name_same target was.1);
  known = λ w. there w ∙ (good.known w ∙ ap (λ (c : Content). is_some (c.count w)) (sym less.content));
  parents = λ w p l e f. let was = good.parents w p l (ap (λ (g : ℕ → Option Lineage). g w) (sym less.lineage) ∙ e) f in (was.0, there p ∙ was.1);
  pins = λ n pin e. let was = good.pins n pin (less.pins n pin e) in (was.0, pin_same pin was.1);
  spaces = subst (λ (c : Content). AreGoodSpaces c t.spaces) (sym less.content) less.spaces;
} where
  there : (w : ℕ) → is_some (t.lineage w) ≡ is_some (s.lineage w)
  there w = ap (λ (g : ℕ → Option Lineage). is_some (g w)) less.lineage

  name_same : (target : Target) → IsGoodName s target → IsGoodName t target
  name_same target fine =
      IsGoodName-same s t target (ap (λ (c : Content). c.count target.koid.0) less.content)
      (ap (λ (l : Lineage). l.resizable) (lineage_of-same t s target.koid.0 (ap (λ (g : ℕ → Option Lineage). g target.koid.0) less.lineage))) fine

  pin_same : (pin : Pin) → IsGoodPin s pin → IsGoodPin t pin
  pin_same pin fine =
      IsGoodPin-same s t pin (ap (λ (c : Content). c.count pin.koid) less.content) (λ p alone. ap (λ (c : Content). sole c pin.koid p) less.content ∙ alone) fine

-- less keeps the VMO v alone: the others are as live as before
pub record LoosensAt (s t : State) (v : ℕ) : Type 0 where
  pub less : Loosens s t
  pub live : (w : ℕ) → w ≢ v → is_live t w ≡ is_live s w
  pub vmo : IsSome (s.lineage v)

module _ (s t : State) (v : ℕ) (good : IsGoodState s) (at : LoosensAt s t v) where
  -- the state is good then, but that v may not be live
  pub IsLooseAt-from : IsLooseAt t v
  IsLooseAt-from = record {
    loose = IsLoose-from s t good at.less;
    live = λ w apart h. at.live w apart ∙ good.live w (sym (ap (λ (g : ℕ → Option Lineage). is_some (g w)) at.less.lineage) ∙ h);
    vmo = ap (λ (g : ℕ → Option Lineage). is_some (g v)) at.less.lineage ∙ at.vmo;
  }

  -- nothing leaves where something else keeps the VMO
  pub pruned-stays : is_live t v ≡ true → pruned t ≡ t
  pruned-stays live = pruned-good t (IsGoodState-live_at t v IsLooseAt-from live)

  -- where nothing else keeps the VMO, it leaves, and it alone. Its children get its parent
  pub pruned-leaves : is_live t v ≡ false → pruned t ≡ left_vmo t v
  pruned-leaves gone = pruned-left t v IsLooseAt-from gone

-- ---- a name or a pin that goes

-- the state without the name n, where no VMO left yet
abbrev pub unnamed : State → ℕ → State
unnamed s n = record s { names = without_key s.names n }

-- the state without the pin n, where no VMO left yet
abbrev pub unpinned : State → ℕ → State
unpinned s n = record s { pins = without_key s.pins n }

-- without a name, less keeps its VMO
pub LoosensAt-unnamed : (s : State) (n : ℕ) (t : Target) → IsGoodState s → s.names n ≡ Some t → LoosensAt s (unnamed s n) t.koid.0
LoosensAt-unnamed s n t good e = record {
  less = record { content = refl; lineage = refl; names = λ m target f. (without_key-some s.names n m target f).1; pins = λ m pin f. f; spaces = good.spaces };
  live = λ w apart. is_live-same s (unnamed s n) w (any_entry-without_key_other NAMES (is_of w) s.names n t e (eqb_apart t.koid.0 w (λ same. apart (sym same)))) refl refl;
  vmo = name_lineage s n t good e;
}

-- without a pin, less keeps its VMO
pub LoosensAt-unpinned : (s : State) (n : ℕ) (pin : Pin) → IsGoodState s → s.pins n ≡ Some pin → LoosensAt s (unpinned s n) pin.koid
LoosensAt-unpinned s n pin good e = record {
  less = record { content = refl; lineage = refl; names = λ m target f. f; pins = λ m other f. (without_key-some s.pins n m other f).1; spaces = good.spaces };
  live = λ w apart. is_live-same s (unpinned s n) w refl (any_entry-without_key_other NAMES (λ (p : Pin). p.koid == w) s.pins n pin e (eqb_apart pin.koid w (λ same. apart (sym same)))) refl;
  vmo = pin_lineage s n pin good e;
}

-- with other address spaces, less may keep the VMOs of entries
pub Loosens-spaces : (s : State) (spaces : Spaces) → AreGoodSpaces s.content spaces → Loosens s (record s { spaces = spaces })
Loosens-spaces s spaces good = record { content = refl; lineage = refl; names = λ m target f. f; pins = λ m pin f. f; spaces = good }

-- ---- what a state without the VMOs that left has as before

pub next-pruned : (s : State) → (pruned s).content.next ≡ s.content.next
unfolding pruned only
next-pruned s = refl

pub frames-pruned : (s : State) → (pruned s).content.frames ≡ s.content.frames
unfolding pruned only
frames-pruned s = refl
