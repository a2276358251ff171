-- Laws of the tables.
use Rattle.std.proofs.Common.{◌≡◌, ◌≢◌, ℕ, ◌==◌, ◌&&◌, ◌⊎◌, inl, inr, not, Bool, true, false, cond, Option, None, Some, refl, sym, ap, ◌∙◌}
use Rattle.std.specs.Prelude.{option_map, IsSome, is_some}
use Rattle.std.proofs.lemmas.Bool.{cases_eq, and_parts}
use Rattle.vm_base.specs.Entries.{with_key, without_key}
use Rattle.vm_base.specs.declared.names.Koid.{Koid}
use Rattle.vm_base.proofs.EntryLaws.{some_same, with_key-same, with_key-other, with_key-cases, without_key-same, without_key-other, without_key-some}
use Rattle.vm_base.proofs.SearchLaws.{eqb_same, eqb_apart, eqb_is}
use Rattle.balanced_tree.specs.Pairs.{with_pair}
use Rattle.source_model.specs.declared.backing.Backing.{Backing}
use Rattle.source_model.specs.declared.link.Link.{Link}
use Rattle.source_vm.specs.Table.{AreIndexed}

either : {A B : Type 0} (f : Option A → Option B) (bit : Bool) (x y : Option A) → f (cond bit x y) ≡ cond bit (f x) (f y)
either f true x y = refl
either f false x y = refl

-- a map from pairs as one of the second numbers of list 0
pub pairs-with : {A : Type 0} (old new : ℕ → ℕ → Option A) (v : ℕ) (a : A) → new ≡ with_pair old 0 v (Some a) → (λ w. new 0 w) ≡ with_key (λ w. old 0 w) v a
unfolding with_pair with_key
pairs-with old new v a e = λ i w. (ap (λ m. m 0 w) e) i

pub pairs-without : {A : Type 0} (old new : ℕ → ℕ → Option A) (v : ℕ) → new ≡ with_pair old 0 v None → (λ w. new 0 w) ≡ without_key (λ w. old 0 w) v
unfolding with_pair without_key
pairs-without old new v e = λ i w. (ap (λ m. m 0 w) e) i

-- the same of numbers that stand in the values
pub numbers-with : {A : Type 0} (f : A → ℕ) (old new : ℕ → ℕ → Option A) (name : ℕ) (a : A) → new ≡ with_pair old 0 name (Some a)
    → (λ n. option_map f (new 0 n)) ≡ with_key (λ n. option_map f (old 0 n)) name (f a)
unfolding with_pair with_key
numbers-with {A} f old new name a e = λ i n. (ap (λ m. option_map f (m 0 n)) e
    ∙ either {A = A} {B = ℕ} (option_map f) (n == name) (Some a) (old 0 n)) i

pub numbers-without : {A : Type 0} (f : A → ℕ) (old new : ℕ → ℕ → Option A) (name : ℕ) → new ≡ with_pair old 0 name None
    → (λ n. option_map f (new 0 n)) ≡ without_key (λ n. option_map f (old 0 n)) name
unfolding with_pair without_key
numbers-without {A} f old new name e = λ i n. (ap (λ m. option_map f (m 0 n)) e
    ∙ either {A = A} {B = ℕ} (option_map f) (n == name) None (old 0 n)) i

-- what is there behind a map was there before it
pub mapped_some : {A : Type 0} (f : A → ℕ) (o : Option A) (n : ℕ) → option_map f o ≡ Some n → IsSome o
mapped_some f None n e = absurd cc
mapped_some f (Some a) n e = refl

-- a key that has nothing is not missed
pub without_key-none : {A : Type 0} (map : ℕ → Option A) (k : ℕ) → map k ≡ None → without_key map k ≡ map
without_key-none {A} map k none = λ i n. at n i where
  at : (n : ℕ) → without_key map k n ≡ map n
  at n = elim (cases_eq n k) [
    | inl same ↦ rw same (without_key-same map k ∙ sym none)
    | inr apart ↦ without_key-other map k n apart
  ]

-- what has a link has no backing
pub no_backing : (b : Option Backing) (o : Option Link) (l : Link) → is_some b ≡ not (is_some o) → o ≡ Some l → b ≡ None
no_backing None o l tight e = refl
no_backing (Some b) o l tight e = absurd (let no : ◌≡◌ {A = Bool} true false = tight ∙ ap (λ (x : Option Link). not (is_some x)) e in cc)

-- a name that was not found
pub closed_from : (o : Option Koid) (n : Option ℕ) (bit : Bool) → n ≡ option_map (λ (k : Koid). k.0) o → bit ≡ is_some o → bit ≡ false → n ≡ None
closed_from None n bit e is miss = e
closed_from (Some v) n bit e is miss = absurd cc

-- ---- names, and the VMOs that have them

-- there are none
pub AreIndexed-none : (names owners : ℕ → Option ℕ) (links : ℕ → Option Link) (children : ℕ → ℕ → Bool) → names ≡ (λ n. None) → owners ≡ (λ v. None) → links ≡ (λ v. None)
    → children ≡ (λ p w. false) → AreIndexed names owners links children
AreIndexed-none names owners links children e f g h = rw (e, f, g, h) (record {
  named = λ n v is. absurd cc;
  owned = λ v n is. absurd cc;
  linked = λ w l is. absurd cc;
  child = λ p w is. absurd cc;
})

-- other maps that are the same
pub AreIndexed-same : (names ns owners os : ℕ → Option ℕ) (links ls : ℕ → Option Link) (children cs : ℕ → ℕ → Bool) → ns ≡ names → os ≡ owners → ls ≡ links → cs ≡ children
    → AreIndexed names owners links children → AreIndexed ns os ls cs
AreIndexed-same names ns owners os links ls children cs e f g h indexed = rw (e, f, g, h) indexed

module _ (names owners : ℕ → Option ℕ) (links : ℕ → Option Link) (children : ℕ → ℕ → Bool) (indexed : AreIndexed names owners links children) where
  pub AreIndexed-named : (name v : ℕ) → names name ≡ None → owners v ≡ None → AreIndexed (with_key names name v) (with_key owners v name) links children
  AreIndexed-named name v closed unnamed = record {
    named = λ n w e. elim (with_key-cases names name v n w e) [
      | inl new ↦ ap (with_key owners v name) (sym new.1) ∙ (with_key-same owners v name ∙ ap (λ (k : ℕ). Some k) (sym new.0))
      | inr was ↦
          let has = indexed.named n w was.1 in
          with_key-other owners v name w (λ same. absurd (let no : ◌≡◌ {A = Option ℕ} None (Some n) = sym unnamed ∙ (ap owners (sym same) ∙ has) in cc)) ∙ has
    ];
    owned = λ w n e. elim (with_key-cases owners v name w n e) [
      | inl new ↦ ap (with_key names name v) (sym new.1) ∙ (with_key-same names name v ∙ ap (λ (k : ℕ). Some k) (sym new.0))
      | inr was ↦
          let has = indexed.owned w n was.1 in
          with_key-other names name v n (λ same. absurd (let no : ◌≡◌ {A = Option ℕ} None (Some w) = sym closed ∙ (ap names (sym same) ∙ has) in cc)) ∙ has
    ];
    linked = indexed.linked;
    child = indexed.child;
  }

  pub AreIndexed-closed : (name v : ℕ) → names name ≡ Some v → AreIndexed (without_key names name) (without_key owners v) links children
  AreIndexed-closed name v named = record {
    named = λ n w e.
        let was = without_key-some names name n w e in
        let has = indexed.named n w was.1 in
        without_key-other owners v w (λ same. was.0 (some_same (sym has ∙ (ap owners same ∙ indexed.named name v named)))) ∙ has;
    owned = λ w n e.
        let was = without_key-some owners v w n e in
        let has = indexed.owned w n was.1 in
        without_key-other names name n (λ same. was.0 (some_same (sym has ∙ (ap names same ∙ named)))) ∙ has;
    linked = indexed.linked;
    child = indexed.child;
  }

-- ---- links, and the children that they make

-- whether a pair is one that came, or was there
some_pair : {A : Type 0} (old new : ℕ → ℕ → Option A) (a b : ℕ) (x : A) → new ≡ with_pair old a b (Some x) → (p w : ℕ) → is_some (new p w) ≡ true
    → ((p ≡ a) × (w ≡ b)) ⊎ (is_some (old p w) ≡ true)
unfolding with_pair
some_pair old new a b x e p w h = go ((p == a) && (w == b)) refl (sym (ap (λ m. is_some (m p w)) e) ∙ h) where
  go : (bit : Bool) → ((p == a) && (w == b)) ≡ bit → is_some (cond bit (Some x) (old p w)) ≡ true → ((p ≡ a) × (w ≡ b)) ⊎ (is_some (old p w) ≡ true)
  go true f g = let both = and_parts (p == a) (w == b) f in inl (eqb_is p a both.0, eqb_is w b both.1)
  go false f g = inr g

pair_here : {A : Type 0} (old new : ℕ → ℕ → Option A) (a b : ℕ) (o : Option A) → new ≡ with_pair old a b o → new a b ≡ o
unfolding with_pair
pair_here {A} old new a b o e = ap (λ m. m a b) e ∙ (ap (λ (t : Bool). cond {A = Option A} (t && (b == b)) o (old a b)) (eqb_same a) ∙ ap (λ (t : Bool). cond {A = Option A} t o (old a b)) (eqb_same b))

pair_beside : {A : Type 0} (old new : ℕ → ℕ → Option A) (a b : ℕ) (o : Option A) → new ≡ with_pair old a b o → (p w : ℕ) → w ≢ b → new p w ≡ old p w
unfolding with_pair
pair_beside {A} old new a b o e p w apart = ap (λ m. m p w) e ∙ go (p == a) where
  go : (bit : Bool) → cond {A = Option A} (bit && (w == b)) o (old p w) ≡ old p w
  go true = ap (λ (t : Bool). cond {A = Option A} t o (old p w)) (eqb_apart w b apart)
  go false = refl

pair_list : {A : Type 0} (old new : ℕ → ℕ → Option A) (a b : ℕ) (o : Option A) → new ≡ with_pair old a b o → (p w : ℕ) → p ≢ a → new p w ≡ old p w
unfolding with_pair
pair_list {A} old new a b o e p w apart = ap (λ m. m p w) e ∙ ap (λ (t : Bool). cond {A = Option A} (t && (w == b)) o (old p w)) (eqb_apart p a apart)

module _ {A : Type 0} (names owners : ℕ → Option ℕ) (links : ℕ → Option Link) (old new : ℕ → ℕ → Option A) (indexed : AreIndexed names owners links (λ p w. is_some (old p w))) where
  pub AreIndexed-linked : (v : ℕ) (l : Link) (x : A) → links v ≡ None → new ≡ with_pair old l.parent.0 v (Some x)
      → AreIndexed names owners (with_key links v l) (λ p w. is_some (new p w))
  AreIndexed-linked v l x unlinked is = record {
    named = indexed.named;
    owned = indexed.owned;
    linked = λ w k e. elim (with_key-cases links v l w k e) [
      | inl now ↦
          let parent = ap (λ (y : Link). y.parent.0) now.1 in
          ap (λ (q : ℕ). is_some (new q w)) (sym parent) ∙ (ap (λ (q : ℕ). is_some (new l.parent.0 q)) now.0 ∙ ap is_some (pair_here old new l.parent.0 v (Some x) is))
      | inr was ↦ ap is_some (pair_beside old new l.parent.0 v (Some x) is k.parent.0 w was.0) ∙ indexed.linked w k was.1
    ];
    child = λ p w h. elim (some_pair old new l.parent.0 v x is p w h) [
      | inl now ↦ (l, ap (with_key links v l) now.1 ∙ with_key-same links v l, sym now.0)
      | inr was ↦
          let has = indexed.child p w was in
          (has.0, with_key-other links v l w (λ same. absurd (let no : ◌≡◌ {A = Option Link} None (Some has.0) = sym unlinked ∙ (ap links (sym same) ∙ has.1) in cc)) ∙ has.1, has.2)
    ];
  }

  pub AreIndexed-unlinked : (v : ℕ) (l : Link) → links v ≡ Some l → new ≡ with_pair old l.parent.0 v None
      → AreIndexed names owners (without_key links v) (λ p w. is_some (new p w))
  AreIndexed-unlinked v l linked is = record {
    named = indexed.named;
    owned = indexed.owned;
    linked = λ w k e.
        let was = without_key-some links v w k e in
        ap is_some (pair_beside old new l.parent.0 v None is k.parent.0 w was.0) ∙ indexed.linked w k was.1;
    child = λ p w h. elim (cases_eq w v) [
      | inl same ↦ absurd (elim (cases_eq p l.parent.0) [
        | inl here ↦
            let none : is_some (new p w) ≡ false = ap (λ (q : ℕ). is_some (new q w)) here ∙ (ap (λ (q : ℕ). is_some (new l.parent.0 q)) same ∙ ap is_some (pair_here old new l.parent.0 v None is)) in
            let no : ◌≡◌ {A = Bool} true false = sym h ∙ none in cc
        | inr apart ↦
            let was : is_some (old p w) ≡ true = sym (ap is_some (pair_list old new l.parent.0 v None is p w apart)) ∙ h in
            let has = indexed.child p w was in
            let one = some_same (sym linked ∙ (ap links (sym same) ∙ has.1)) in
            apart (sym has.2 ∙ ap (λ (y : Link). y.parent.0) (sym one))
      ])
      | inr apart ↦
          let has = indexed.child p w (sym (ap is_some (pair_beside old new l.parent.0 v None is p w apart)) ∙ h) in
          (has.0, without_key-other links v w apart ∙ has.1, has.2)
    ];
  }
