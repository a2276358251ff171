-- Rows that come and go, with the pages under frames.
use Rattle.std.proofs.Common.{◌≡◌, ◌≢◌, ◌⊎◌, ℕ, Bool, true, false, cond, ◌&&◌, ◌==◌, List, Option, None, Some, IsSome, refl, sym, ap, subst, ◌∙◌, inl, inr}
use Rattle.std.specs.Prelude.{is_some}
use Rattle.std.proofs.lemmas.Bool.{cases_eq, and_from, and_parts, eq-eqb, false_from_ne_true}
use Rattle.vm_base.specs.declared.names.Tag.{Tag}
use Rattle.vm_base.specs.Entries.{without_key}
use Rattle.vm_base.proofs.SearchLaws.{eqb_is}
use Rattle.vm_base.proofs.EntryLaws.{some_same, without_key-same, without_key-other}
use Rattle.vm_model.proofs.ContentLaws.{same_page}
use Rattle.pair_map.specs.Maps.{with_pair}
use Rattle.page_store.specs.inside.Rows.{HasViewer, HasNoViewer}
use Rattle.page_store.specs.Flat.{ArePaired}

-- ---- a map of pairs that changes

module _ {V : Type 0} (map : ℕ → ℕ → Option V) (a b : ℕ) (o : Option V) where
  pub pair-here : with_pair map a b o a b ≡ o
  unfolding with_pair
  pair-here = ap (λ (hit : Bool). cond hit o (map a b)) (and_from (a == a) (b == b) (eq-eqb a a refl) (eq-eqb b b refl))

  pub pair-other : (k q : ℕ) → (k ≡ a → q ≡ b → ⊥) → with_pair map a b o k q ≡ map k q
  unfolding with_pair
  pair-other k q apart =
      ap (λ (hit : Bool). cond hit o (map k q)) (false_from_ne_true ((k == a) && (q == b)) (λ e.
      let both = and_parts (k == a) (q == b) e in apart (eqb_is k a both.0) (eqb_is q b both.1)))

  -- what is found in the changed map
  pub pair-cases : (k q : ℕ) (x : V) → with_pair map a b o k q ≡ Some x
      → ((k ≡ a) × (q ≡ b) × (o ≡ Some x)) ⊎ ((k ≡ a → q ≡ b → ⊥) × (map k q ≡ Some x))
  pair-cases k q x e = elim (same_page a b k q) [
    | inl here ↦
        let at : with_pair map a b o k q ≡ with_pair map a b o a b = λ i. with_pair map a b o (here.0 i) (here.1 i) in
        inl (here.0, here.1, sym pair-here ∙ (sym at ∙ e))
    | inr apart ↦ inr (apart, sym (pair-other k q apart) ∙ e)
  ]

-- a pair that changes twice
module _ {V : Type 0} (map : ℕ → ℕ → Option V) (a b : ℕ) (o u : Option V) where
  pub pair-twice : with_pair (with_pair map a b o) a b u ≡ with_pair map a b u
  unfolding with_pair
  pair-twice = λ i k q. go ((k == a) && (q == b)) (map k q) i where
    go : (hit : Bool) (x : Option V) → cond hit u (cond hit o x) ≡ cond hit u x
    go true x = refl
    go false x = refl

-- a pair that has no value
pub pair-none : {V : Type 0} (map : ℕ → ℕ → Option V) (a b k q : ℕ) → map k q ≡ None → with_pair map a b None k q ≡ None
unfolding with_pair
pair-none map a b k q none = go ((k == a) && (q == b)) (map k q) none where
  go : {V : Type 0} (hit : Bool) (o : Option V) → o ≡ None → cond hit None o ≡ None
  go true o e = refl
  go false o e = e

-- a pair that has the value already
pub pair-same : {V : Type 0} (map : ℕ → ℕ → Option V) (a b : ℕ) (o : Option V) → map a b ≡ o → map ≡ with_pair map a b o
pair-same map a b o is = λ i k q. each k q i where
  each : (k q : ℕ) → map k q ≡ with_pair map a b o k q
  each k q = elim (same_page a b k q) [
    | inl here ↦ rw (here.0, here.1) (is ∙ sym (pair-here map a b o))
    | inr apart ↦ sym (pair-other map a b o k q apart)
  ]

-- a value that is there is none
pub not_none : {V : Type 0} (o : Option V) (x : V) → o ≡ None → o ≡ Some x → ⊥
not_none o x none some = cc

-- ---- a row that comes

module _ (rows : ℕ → ℕ → Option Tag) (viewers : ℕ → ℕ → Option ℕ) (old new : ℕ → Option (List ℕ)) (v p : ℕ) (tag : Tag)
    (linked : ArePaired rows viewers old) where
  pub linked-comes : rows v p ≡ None → viewers tag.0 v ≡ None → IsSome (new tag.0) → ((t : ℕ) → t ≢ tag.0 → new t ≡ old t)
      → ArePaired (with_pair rows v p (Some tag)) (with_pair viewers tag.0 v (Some p)) new
  linked-comes zero unseen taken others = record {
    there = λ w q u e. elim (pair-cases rows v p (Some tag) w q u e) [
      | inl here ↦
          let same : tag ≡ u = some_same here.2 in
          let at : with_pair viewers tag.0 v (Some p) u.0 w ≡ Some q =
          (λ i. with_pair viewers tag.0 v (Some p) ((sym same i).0) (here.0 i)) ∙ (pair-here viewers tag.0 v (Some p) ∙ ap (λ (k : ℕ). Some k) (sym here.1)) in
          at
      | inr other ↦
          let was = linked.there w q u other.1 in
          pair-other viewers tag.0 v (Some p) u.0 w (λ frame vmo. not_none (viewers tag.0 v) q unseen ((λ i. viewers (sym frame i) (sym vmo i)) ∙ was)) ∙ was
    ];
    back = λ t w q e. elim (pair-cases viewers tag.0 v (Some p) t w q e) [
      | inl here ↦
          let page : p ≡ q = some_same here.2 in
          (λ i. with_pair rows v p (Some tag) (here.1 i) (sym page i)) ∙ (pair-here rows v p (Some tag) ∙ λ i. Some (record { 0 = sym here.0 i }))
      | inr other ↦
          let was = linked.back t w q other.1 in
          pair-other rows v p (Some tag) w q (λ vmo page. not_none (rows v p) (record { 0 = t }) zero ((λ i. rows (sym vmo i) (sym page i)) ∙ was)) ∙ was
    ];
    taken = λ t w q e. elim (cases_eq t tag.0) [
      | inl same ↦ subst (λ (u : ℕ). IsSome (new u)) (sym same) taken
      | inr apart ↦ elim (pair-cases viewers tag.0 v (Some p) t w q e) [
        | inl here ↦ absurd (apart here.0)
        | inr other ↦ ap is_some (others t apart) ∙ linked.taken t w q other.1
      ]
    ];
    shown = λ t e. elim (cases_eq t tag.0) [
      | inl same ↦ record { w = v; shows = ap is_some ((λ i. with_pair viewers tag.0 v (Some p) (same i) v) ∙ pair-here viewers tag.0 v (Some p)) }
      | inr apart ↦
          let was = linked.shown t (sym (ap is_some (others t apart)) ∙ e) in
          record { w = was.w; shows = ap is_some (pair-other viewers tag.0 v (Some p) t was.w (λ frame vmo. apart frame)) ∙ was.shows }
    ];
  }

  -- a VMO does not show a frame that is free
  pub unseen_free : old tag.0 ≡ None → viewers tag.0 v ≡ None
  unseen_free free = go (viewers tag.0 v) refl where
    go : (o : Option ℕ) → viewers tag.0 v ≡ o → o ≡ None
    go None e = refl
    go (Some q) e = let some = linked.taken tag.0 v q e in absurd cc

-- ---- a row that goes

-- what becomes of the frame: it stays where some VMO shows it, and is free else
abbrev pub LetsGo : (ℕ → Option ℕ) → (old new : ℕ → Option (List ℕ)) → ℕ → Type 0
LetsGo viewers old new t = (HasViewer viewers × (new ≡ old)) ⊎ (HasNoViewer viewers × (new ≡ without_key old t))

module _ (rows : ℕ → ℕ → Option Tag) (viewers : ℕ → ℕ → Option ℕ) (old new : ℕ → Option (List ℕ)) (v p : ℕ) (tag : Tag)
    (linked : ArePaired rows viewers old) (found : rows v p ≡ Some tag) where
  abbrev left_viewers : ℕ → ℕ → Option ℕ
  left_viewers = with_pair viewers tag.0 v None

  -- a page that is left is another one, and so is its frame or its VMO
  pub left_apart : (u : Tag) (w q : ℕ) → rows w q ≡ Some u → (w ≡ v → q ≡ p → ⊥) → u.0 ≡ tag.0 → w ≡ v → ⊥
  left_apart u w q row apart frame vmo =
      let mine = linked.there v p tag found in
      let other : viewers tag.0 v ≡ Some q = (λ i. viewers (sym frame i) (sym vmo i)) ∙ linked.there w q u row in
      apart vmo (some_same (sym other ∙ mine))

  pub linked-goes : LetsGo (left_viewers tag.0) old new tag.0 → ArePaired (with_pair rows v p None) left_viewers new
  linked-goes goes = record {
    there = λ w q u e. elim (pair-cases rows v p None w q u e) [
      | inl here ↦ absurd (not_none None u refl here.2)
      | inr other ↦ pair-other viewers tag.0 v None u.0 w (left_apart u w q other.1 other.0) ∙ linked.there w q u other.1
    ];
    back = λ t w q e. elim (pair-cases viewers tag.0 v None t w q e) [
      | inl here ↦ absurd (not_none None q refl here.2)
      | inr other ↦
          let was = linked.back t w q other.1 in
          pair-other rows v p None w q (λ vmo page.
          let same : record { 0 = t } ≡ tag = some_same (sym was ∙ ((λ i. rows (vmo i) (page i)) ∙ found)) in
          other.0 (ap (λ (u : Tag). u.0) same) vmo) ∙ was
    ];
    taken = λ t w q e. elim (pair-cases viewers tag.0 v None t w q e) [
      | inl here ↦ absurd (not_none None q refl here.2)
      | inr other ↦
          let was = linked.taken t w q other.1 in
          elim goes [
            | inl stays ↦ ap (λ (m : ℕ → Option (List ℕ)). is_some (m t)) stays.1 ∙ was
            | inr free ↦
                ap (λ (m : ℕ → Option (List ℕ)). is_some (m t)) free.1
                ∙ (ap is_some (without_key-other old tag.0 t (λ same.
                not_none (left_viewers tag.0 w) q (free.0.none w) ((λ i. left_viewers (sym same i) w) ∙ e)))
                ∙ was)
          ]
    ];
    shown = λ t e. elim (cases_eq t tag.0) [
      | inl same ↦ elim goes [
        | inl stays ↦ record { w = stays.0.w; shows = ap (λ (u : ℕ). is_some (left_viewers u stays.0.w)) same ∙ stays.0.shows }
        | inr free ↦
            let none : new t ≡ None = ap (λ (m : ℕ → Option (List ℕ)). m t) free.1 ∙ (ap (without_key old tag.0) same ∙ without_key-same old tag.0) in
            absurd cc
      ]
      | inr apart ↦
          let kept : new t ≡ old t = elim goes [
            | inl stays ↦ ap (λ (m : ℕ → Option (List ℕ)). m t) stays.1
            | inr free ↦ ap (λ (m : ℕ → Option (List ℕ)). m t) free.1 ∙ without_key-other old tag.0 t apart
          ] in
          let was = linked.shown t (sym (ap is_some kept) ∙ e) in
          record { w = was.w; shows = ap is_some (pair-other viewers tag.0 v None t was.w (λ frame vmo. apart frame)) ∙ was.shows }
    ];
  }
