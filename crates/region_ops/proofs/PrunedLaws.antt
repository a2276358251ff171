-- Laws of VMOs that leave in several steps: pruning after each step comes to what pruning once at the end does.
use Rattle.std.proofs.Common.{◌≡◌, ℕ, zero, suc, ◌-◌, ◌<◌, ◌≤◌, Bool, true, false, cond, Option, None, Some, refl, sym, ap, ◌∙◌, inl, inr, arith}
use Rattle.std.specs.Prelude.{IsSome}
use Rattle.std.specs.Option.{option_map}
use Rattle.std.proofs.lemmas.Bool.{cases_Bool, both_ways, false_from_ne_true}
use Rattle.vm_model.specs.Contents.Sharing.{only}
use Rattle.vm_model.specs.Naming.Names.{Lineage}
use Rattle.vm_model.specs.Naming.Pins.{Pin}
use Rattle.vm_model.specs.declared.names.Target.{Target}
use Rattle.vm_model.specs.Space.AddressSpaces.{Spaces}
use Rattle.vm_model.specs.Machine.State.{State, is_live, lineage_of}
use Rattle.vm_model.specs.Machine.Leaving.{first_live, lineage_left, pruned}
use Rattle.vm_model.proofs.NamesLaws.{lineage_of-at, lineage_of-same, lineage-known}
use Rattle.vm_model.proofs.LiveLaws.{is_live-same}
use Rattle.vm_model.proofs.LeavingLaws.{IsLoose, first_live-none, first_live-here, lineage_left-is}

-- one that is not live is passed over
pub first_live-past : (steps : ℕ) (s : State) (p : ℕ) → 0 < steps → is_live s p ≡ false → first_live steps s (Some p) ≡ first_live (steps - 1) s (lineage_of s p).parent
unfolding first_live
first_live-past zero s p h off = absurd (omega arith)
first_live-past (suc steps) s p h off =
    let same : suc steps - 1 ≡ steps = omega arith in
    ap (λ (b : Bool). cond {A = Option ℕ} b (Some p) (first_live steps s (lineage_of s p).parent)) off
    ∙ ap (λ (n : ℕ). first_live n s (lineage_of s p).parent) (sym same)

-- ---- states in which the same VMOs are live

module _ (s t : State) (lineage : t.lineage ≡ s.lineage) (live : (v : ℕ) → is_live t v ≡ is_live s v) where
  -- the first that is live is the same in both
  pub first_live-alike : (steps : ℕ) (o : Option ℕ) → first_live steps t o ≡ first_live steps s o
  unfolding first_live
  first_live-alike zero o = refl
  first_live-alike (suc steps) None = refl
  first_live-alike (suc steps) (Some p) =
      let same = lineage_of-same t s p (ap (λ (f : ℕ → Option Lineage). f p) lineage) in
      ap (λ (b : Bool). cond {A = Option ℕ} b (Some p) (first_live steps t (lineage_of t p).parent)) (live p)
      ∙ ap (λ (o : Option ℕ). cond {A = Option ℕ} (is_live s p) (Some p) o)
      (ap (λ (l : Lineage). first_live steps t l.parent) same ∙ first_live-alike steps (lineage_of s p).parent)

  -- the same VMOs are left of both, with the same lineage
  pub lineage_left-alike : (v : ℕ) (l : Lineage) → lineage_left t v l ≡ lineage_left s v l
  unfolding lineage_left
  lineage_left-alike v l = ap (λ (o : Option ℕ). record l { parent = o }) (first_live-alike v l.parent)

  pub pruned-alike : t.content ≡ s.content → pruned t ≡ record t { content = (pruned s).content; lineage = (pruned s).lineage }
  unfolding pruned only
  pruned-alike content = λ i. record t {
    content = record (content i) {
      count = λ v. cond {A = Option ℕ} (live v i) ((content i).count v) None;
      page = λ v p. cond (live v i) ((content i).page v p) None;
    };
    lineage = λ v. cond {A = Option Lineage} (live v i) (option_map (λ l. lineage_left-alike v l i) (lineage i v)) None;
  }

-- ---- pruning twice

-- a VMO that is live keeps a lineage
lineage_kept : (t : State) (v : ℕ) (l : Lineage) → is_live t v ≡ true → t.lineage v ≡ Some l → (pruned t).lineage v ≡ Some (lineage_left t v l)
unfolding pruned
lineage_kept t v l live e =
    ap (λ (b : Bool). cond {A = Option Lineage} b (option_map (lineage_left t v) (t.lineage v)) None) live ∙ ap (option_map (lineage_left t v)) e

-- nothing stays of what did not stay before
stays_twice : {A : Type 0} (now was : Bool) (o : Option A) → (now ≡ true → was ≡ true) → cond now (cond was o None) None ≡ cond now o None
stays_twice true true o less = refl
stays_twice true false o less = absurd (let no = less refl in cc)
stays_twice false was o less = refl

module _ (t : State) (names : ℕ → Option Target) (pins : ℕ → Option Pin) (spaces : Spaces) (loose : IsLoose t) where
  -- less keeps VMOs, before those left that nothing kept any more, and after
  abbrev less : State
  less = record t { names = names; pins = pins; spaces = spaces }

  abbrev after : State
  after = record (pruned t) { names = names; pins = pins; spaces = spaces }

  module _ (fewer : (v : ℕ) → is_live less v ≡ true → is_live t v ≡ true) where
    after_live : (v : ℕ) → is_live after v ≡ is_live less v
    after_live v = is_live-same less after v refl refl refl

    -- the first that is live of those that were live before is the first that is live
    chain : (fuel bound n m k : ℕ) (o : Option ℕ) → bound ≤ fuel → bound ≤ n → bound ≤ m → bound ≤ k
        → ((q : ℕ) → o ≡ Some q → (q < bound) × IsSome (t.lineage q)) → first_live n after (first_live m t o) ≡ first_live k less o
    chain fuel bound n m k None h hn hm hk each =
        ap (first_live n after) (first_live-none m t) ∙ (first_live-none n after ∙ sym (first_live-none k less))
    chain zero bound n m k (Some q) h hn hm hk each = absurd (let here = each q refl in omega (arith, here.0))
    chain (suc fuel) bound n m k (Some q) h hn hm hk each = elim (cases_Bool (is_live t q)) [
      | inr off ↦
          let gone : is_live less q ≡ false = false_from_ne_true (is_live less q) (λ live. both_ways (is_live t q) off (fewer q live)) in
          ap (first_live n after) (first_live-past m t q (omega (arith, below)) off)
          ∙ (chain fuel q n (m - 1) (k - 1) (lineage_of t q).parent (omega (arith, below)) (omega (arith, below)) (omega (arith, below)) (omega (arith, below)) above
          ∙ sym (first_live-past k less q (omega (arith, below)) gone ∙ ap (λ (l : Lineage). first_live (k - 1) less l.parent) same))
      | inl was ↦ ap (first_live n after) (first_live-here m t q (omega (arith, below)) was) ∙ elim (cases_Bool (is_live less q)) [
        | inl live ↦ first_live-here n after q (omega (arith, below)) (after_live q ∙ live) ∙ sym (first_live-here k less q (omega (arith, below)) live)
        | inr gone ↦
            first_live-past n after q (omega (arith, below)) (after_live q ∙ gone)
            ∙ (ap (λ (l : Lineage). first_live (n - 1) after l.parent) (left was)
            ∙ (chain fuel q (n - 1) q (k - 1) (lineage_of t q).parent (omega (arith, below)) (omega (arith, below)) (omega arith) (omega (arith, below)) above
            ∙ sym (first_live-past k less q (omega (arith, below)) gone ∙ ap (λ (l : Lineage). first_live (k - 1) less l.parent) same)))
      ]
    ] where
      below : q < bound
      below = (each q refl).0

      known : t.lineage q ≡ Some (lineage_of t q)
      known = lineage-known t q (each q refl).1

      above : (r : ℕ) → (lineage_of t q).parent ≡ Some r → (r < q) × IsSome (t.lineage r)
      above r e = loose.parents q r (lineage_of t q) known e

      same : lineage_of less q ≡ lineage_of t q
      same = lineage_of-same less t q refl

      left : is_live t q ≡ true → lineage_of after q ≡ record (lineage_of t q) { parent = first_live q t (lineage_of t q).parent }
      left was = lineage_of-at after q (lineage_left t q (lineage_of t q)) (lineage_kept t q (lineage_of t q) was known) ∙ lineage_left-is t q (lineage_of t q) _ refl

    -- what is left of what was left is what is left at once
    lineage_twice : (v : ℕ) (o : Option Lineage) → t.lineage v ≡ o
        → cond (is_live less v) (option_map (lineage_left after v) (option_map (lineage_left t v) o)) None ≡ cond (is_live less v) (option_map (lineage_left less v) o) None
    unfolding lineage_left
    lineage_twice v None e = refl
    lineage_twice v (Some l) e =
        ap (λ (parent : Option ℕ). cond {A = Option Lineage} (is_live less v) (Some (record l { parent = parent })) None)
        (chain v v v v v l.parent (omega arith) (omega arith) (omega arith) (omega arith) (λ q f. loose.parents v q l e f))

    map_cond : (v : ℕ) (b : Bool) (o : Option Lineage) → option_map (lineage_left after v) (cond b o None) ≡ cond b (option_map (lineage_left after v) o) None
    map_cond v true o = refl
    map_cond v false o = refl

    -- So pruning before less keeps VMOs and again after it comes to pruning after it.
    pub pruned-twice : pruned after ≡ pruned less
    unfolding pruned only
    pruned-twice = λ i. record less {
      content = record t.content {
        count = λ v. kept v (t.content.count v) i;
        page = λ v p. kept v (t.content.page v p) i;
      };
      lineage = λ v. each v i;
    } where
      kept : {A : Type 0} (v : ℕ) (o : Option A) → cond (is_live after v) (cond (is_live t v) o None) None ≡ cond (is_live less v) o None
      kept {A} v o = ap (λ (b : Bool). cond {A = Option A} b (cond (is_live t v) o None) None) (after_live v) ∙ stays_twice (is_live less v) (is_live t v) o (fewer v)

      each : (v : ℕ) → cond (is_live after v) (option_map (lineage_left after v) (cond (is_live t v) (option_map (lineage_left t v) (t.lineage v)) None)) None
          ≡ cond (is_live less v) (option_map (lineage_left less v) (t.lineage v)) None
      each v =
          ap (λ (o : Option Lineage). cond {A = Option Lineage} (is_live after v) o None) (map_cond v (is_live t v) (option_map (lineage_left t v) (t.lineage v)))
          ∙ (kept v (option_map (lineage_left after v) (option_map (lineage_left t v) (t.lineage v)))
          ∙ lineage_twice v (t.lineage v) refl)

-- the same, where address spaces have less
pub pruned-twice_spaces : (t : State) (spaces : Spaces) → IsLoose t → ((v : ℕ) → is_live (record t { spaces = spaces }) v ≡ true → is_live t v ≡ true)
    → pruned (record (pruned t) { spaces = spaces }) ≡ pruned (record t { spaces = spaces })
unfolding pruned
pruned-twice_spaces t spaces loose fewer = pruned-twice t t.names t.pins spaces loose fewer
