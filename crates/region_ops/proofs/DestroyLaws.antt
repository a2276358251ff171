-- Laws of destroying a region: the regions below it die one after another, each when it has no live child, and then the region
-- itself. The entries of each go with it.
use Rattle.std.proofs.Common.{◌≡◌, ℕ, Bool, true, false, cond, ◌&&◌, ◌||◌, ◌==◌, Option, None, Some, ◌⊎◌, refl, sym, ap, subst, ◌∙◌, inl, inr, arith}
use Rattle.std.proofs.lemmas.Bool.{cases_Bool, and_parts, and_right, or_cases, or_left, or_right, both_ways, false_from_ne_true}
use Rattle.vm_base.specs.Entries.{passes}
use Rattle.vm_base.specs.declared.names.RegionName.{RegionName}
use Rattle.vm_base.proofs.SearchLaws.{eqb_is, eqb_same}
use Rattle.vm_model.specs.declared.command.Command.TheVariants.{VmarDestroy}
use Rattle.vm_model.specs.declared.reply.Reply.TheVariants.{Done}
use Rattle.vm_model.specs.declared.space.Entry.{Entry}
use Rattle.vm_model.specs.declared.space.Region.{Region}
use Rattle.vm_model.specs.Contents.Content.{Content}
use Rattle.vm_model.specs.Space.Regions.{end_of, region_of, lies_in, is_child, is_below, is_at_or_below}
use Rattle.vm_model.specs.Space.Table.{without_regions, is_in}
use Rattle.vm_model.specs.Space.AddressSpaces.{Spaces, without_region, AreGoodSpaces}
use Rattle.vm_model.specs.Space.Mappings.{lies_below_in}
use Rattle.vm_model.specs.Machine.Leaving.{pruned}
use Rattle.vm_model.proofs.RegionLaws.{region_of-at, is_child_parts, is_child-killed, is_below-step, root_below, killed-was, killed-stays}
use Rattle.vm_model.proofs.SpaceLaws.{none_child, without_regions-was}
use Rattle.region_ops.proofs.BelowLaws.{killed-alike, lies_below}
use Rattle.region_tree.proofs.BelowLaws.{is_below-killed}
use Rattle.region_tree.specs.Tree.{IsWithin, HasNoneWithin, has_child, with_one_dead}
use Rattle.vmo_table.specs.Table.{Vmos}
use Rattle.region_ops.specs.Spaces.{without_entries, with_all, AreWell, AreAllWell, LetsGo, Does}
use Rattle.region_ops.proofs.LeavingLaws.{LetsGo-same, LetsGo-next, AreWell-gone}
use Rattle.region_ops.proofs.DyingLaws.{IsUnderWay, underway_start, underway_next, within_was}
use Rattle.region_ops.proofs.UnmapLaws.{AreWell-all, Does-gone}
use Rattle.vm_base.proofs.EntryLaws.{some_same}

-- ---- the entries of regions that die

cond_none : {A : Type 0} (b : Bool) → cond {A = Option A} b None None ≡ None
cond_none true = refl
cond_none false = refl

some_left : {A : Type 0} (b : Bool) (o : Option A) (a : A) → cond b None o ≡ Some a → o ≡ Some a
some_left true o a e = absurd cc
some_left false o a e = e

without_regions-none : (table : ℕ → ℕ → Option Entry) → table ≡ without_regions table (λ n. false)
unfolding without_regions passes
without_regions-none table = λ i r p. one (table r p) i where
  one : (o : Option Entry) → o ≡ cond (passes (λ (x : Entry). false) o) None o
  one None = refl
  one (Some x) = refl

-- it makes no difference whether a region dies that has no entry
without_regions-alike : (table : ℕ → ℕ → Option Entry) (dies too : ℕ → Bool) → ((r p : ℕ) (entry : Entry) → table r p ≡ Some entry → dies entry.region.0 ≡ too entry.region.0)
    → without_regions table dies ≡ without_regions table too
unfolding without_regions passes
without_regions-alike table dies too each = λ i r p. one r p (table r p) refl i where
  one : (r p : ℕ) (o : Option Entry) → table r p ≡ o
      → cond (passes (λ (x : Entry). dies x.region.0) o) None o ≡ cond (passes (λ (x : Entry). too x.region.0) o) None o
  one r p None e = refl
  one r p (Some entry) e = ap (λ (b : Bool). cond {A = Option Entry} b None (Some entry)) (each r p entry e)

-- the entries of one region more go, which are all of one address space
without_regions-more : (table : ℕ → ℕ → Option Entry) (dies : ℕ → Bool) (root leaf : ℕ) → ((r p : ℕ) (entry : Entry) → table r p ≡ Some entry → entry.region.0 ≡ leaf → r ≡ root)
    → without_entries (without_regions table dies) root leaf ≡ without_regions table (λ n. dies n || (n == leaf))
unfolding without_regions passes
without_regions-more table dies root leaf its = λ i r p. one r p (table r p) refl i where
  two : (r p : ℕ) (entry : Entry) → table r p ≡ Some entry → (b : Bool)
      → cond ((r == root) && passes (is_in leaf) (cond b None (Some entry))) None (cond b None (Some entry)) ≡ cond {A = Option Entry} (b || (entry.region.0 == leaf)) None (Some entry)
  two r p entry e true = cond_none ((r == root) && false)
  two r p entry e false = elim (cases_Bool (entry.region.0 == leaf)) [
    | inl is ↦
        let here : (r == root) ≡ true = ap (λ (n : ℕ). n == root) (its r p entry e (eqb_is entry.region.0 leaf is)) ∙ eqb_same root in
        ap (λ (b : Bool). cond {A = Option Entry} (b && (entry.region.0 == leaf)) None (Some entry)) here
    | inr off ↦
        ap (λ (b : Bool). cond {A = Option Entry} ((r == root) && b) None (Some entry)) off
        ∙ (ap (λ (b : Bool). cond {A = Option Entry} b None (Some entry)) (and_right (r == root) false refl) ∙ sym (ap (λ (b : Bool). cond {A = Option Entry} b None (Some entry)) off))
  ]

  one : (r p : ℕ) (o : Option Entry) → table r p ≡ o
      → cond ((r == root) && passes (is_in leaf) (cond (passes (λ (x : Entry). dies x.region.0) o) None o)) None (cond (passes (λ (x : Entry). dies x.region.0) o) None o)
      ≡ cond (passes (λ (x : Entry). dies x.region.0 || (x.region.0 == leaf)) o) None o
  one r p None e = cond_none ((r == root) && false)
  one r p (Some entry) e = two r p entry e (dies entry.region.0)

-- ---- some of the regions that pass are dead, and their entries gone

pub record IsGoing (c : Content) (vmos : Vmos) (spaces : Spaces) (test : ℕ → Bool) (d : Content) (vmos_new : Vmos) (now : Spaces) : Type 0 where
  pub under : IsUnderWay spaces.regions now.regions test
  pub entries : now.table ≡ without_regions spaces.table under.dies
  pub gone : LetsGo c vmos spaces.table d vmos_new now.table

pub going_start : (c : Content) (vmos : Vmos) (spaces : Spaces) (test : ℕ → Bool) → IsGoing c vmos spaces test c vmos spaces
going_start c vmos spaces test =
    record { under = underway_start spaces.regions test; entries = without_regions-none spaces.table; gone = LetsGo-same c vmos spaces.table }

-- one more dies, which passes as those do that passed before, and its entries go, which are all of one address space
abbrev going_more : (c : Content) (vmos : Vmos) (spaces : Spaces) (test too : ℕ → Bool) (d : Content) (vmos_new : Vmos) (now : Spaces)
    → IsGoing c vmos spaces test d vmos_new now → ((n : ℕ) → test n ≡ true → too n ≡ true)
    → (root leaf : ℕ) → too leaf ≡ true → ((r p : ℕ) (entry : Entry) → spaces.table r p ≡ Some entry → entry.region.0 ≡ leaf → r ≡ root)
    → (e : Content) (last : Vmos) (after : Spaces) → after.regions ≡ with_one_dead now.regions leaf → after.table ≡ without_entries now.table root leaf
    → LetsGo d vmos_new now.table e last after.table → IsGoing c vmos spaces too e last after
going_more c vmos spaces test too d vmos_new now going wider root leaf passed its e last after regions table gone = record {
  under = underway_next spaces.regions now.regions after.regions test too leaf going.under wider passed regions;
  entries = table ∙ (ap (λ (t : ℕ → ℕ → Option Entry). without_entries t root leaf) going.entries ∙ without_regions-more spaces.table going.under.dies root leaf its);
  gone = LetsGo-next c vmos spaces.table d vmos_new now.table e last after.table
      (λ r p entry f. (without_regions-was spaces.table going.under.dies r p entry (ap (λ (t : ℕ → ℕ → Option Entry). t r p) (sym going.entries) ∙ f)).0)
      (λ r p entry f. some_left ((r == root) && passes (is_in leaf) (now.table r p)) (now.table r p) entry (ap (λ (t : ℕ → ℕ → Option Entry). t r p) (sym table) ∙ f))
      going.gone gone;
}

-- the parts are of one good state still
pub going_well : (c : Content) (vmos : Vmos) (spaces : Spaces) (test : ℕ → Bool) (d : Content) (vmos_new : Vmos) (now : Spaces) → IsGoing c vmos spaces test d vmos_new now
    → AreAllWell c vmos spaces → AreWell d vmos_new now.table
going_well c vmos spaces test d vmos_new now going well =
    AreWell-gone c vmos spaces.table d vmos_new now.table (AreWell-all c vmos spaces well) going.gone

-- ---- the regions below one

module _ (c : Content) (vmos : Vmos) (spaces : Spaces) (good : AreGoodSpaces c spaces) (name : ℕ) (dying : Region) (given : spaces.regions name ≡ Some dying) where
  abbrev below : ℕ → Bool
  below = lies_below_in spaces.regions name dying.first (end_of dying)

  -- the entries of the region, and of each below it, are of its address space
  its_root : (n : ℕ) → is_at_or_below spaces.regions name n ≡ true → (r p : ℕ) (entry : Entry) → spaces.table r p ≡ Some entry → entry.region.0 ≡ n → r ≡ dying.root.0
  its_root n h r p entry e same =
      let fine = good.entries r p entry e in
      let at : spaces.regions n ≡ Some fine.region = ap spaces.regions (sym same) ∙ fine.given in
      sym fine.root_is ∙ elim (or_cases (n == name) (is_below spaces.regions name n) h) [
        | inl here ↦ ap (λ (x : Region). x.root.0) (some_same (sym at ∙ (ap spaces.regions (eqb_is n name here) ∙ given)))
        | inr under ↦
            ap (λ (x : RegionName). x.0) (root_below spaces.regions good.regions name n fine.region at under)
            ∙ ap (λ (x : Region). x.root.0) (region_of-at spaces.regions name dying given)
      ]

  -- what is below is at or below
  lower : (n : ℕ) → below n ≡ true → is_at_or_below spaces.regions name n ≡ true
  lower n h = or_right (n == name) (is_below spaces.regions name n) (and_parts (is_below spaces.regions name n) (lies_in dying.first (end_of dying) (region_of spaces.regions n)) h).0

  module _ (d : Content) (vmos_new : Vmos) (now : Spaces) (going : IsGoing c vmos spaces below d vmos_new now) where
    -- one more region below dies
    pub going_next : (leaf : ℕ) → IsWithin now.regions name dying.first (end_of dying) leaf → (e : Content) (last : Vmos) (after : Spaces)
        → after.regions ≡ with_one_dead now.regions leaf → after.table ≡ without_entries now.table dying.root.0 leaf → LetsGo d vmos_new now.table e last after.table
        → IsGoing c vmos spaces below e last after
    going_next leaf within =
        let passed = within_was spaces.regions now.regions name dying.first (end_of dying) good.regions going.under leaf within in
        going_more c vmos spaces below below d vmos_new now going (λ n h. h) dying.root.0 leaf passed (its_root leaf (lower leaf passed))

    module _ (left : HasNoneWithin now.regions name dying.first (end_of dying)) where
      -- a region that is as before and lies below is not live
      none_left : (n : ℕ) (region : Region) → spaces.regions n ≡ Some region → now.regions n ≡ Some region → is_below spaces.regions name n ≡ true → region.live ≡ false
      none_left n region was is h = false_from_ne_true region.live (λ live. left n (record {
        region = region;
        given = is;
        live = live;
        below = ap (λ (r : ℕ → Option Region). is_below r name n) going.under.dead ∙ (is_below-killed spaces.regions going.under.dies name n ∙ h);
        inside = lies_below spaces.regions good.regions name dying given n region was live h;
      }))

      -- the region has no live child
      pub going_childless : has_child now.regions name ≡ false
      going_childless = none_child now.regions name (λ (r : Region). true) (λ n new e child. absurd (one n new e child)) where
        one : (n : ℕ) (new : Region) → now.regions n ≡ Some new → is_child name new ≡ true → ⊥
        one n new e child =
            let was = killed-was spaces.regions going.under.dies n new (ap (λ (f : ℕ → Option Region). f n) (sym going.under.dead) ∙ e) in
            let child_was = is_child-killed spaces.regions going.under.dies name n was.0 (subst (λ (r : Region). is_child name r ≡ true) was.2 child) in
            let found = is_child_parts name was.0 child_was.0 in
            let step : is_below spaces.regions name n ≡ true =
            is_below-step spaces.regions good.regions name n was.0 found.1 was.1 found.2
            ∙ or_left (found.1.0 == name) (is_below spaces.regions name found.1.0) (ap (λ (p : ℕ). p == name) found.3 ∙ eqb_same name) in
            let still = ap (λ (f : ℕ → Option Region). f n) going.under.dead ∙ killed-stays spaces.regions going.under.dies n was.0 was.1 child_was.1 in
            both_ways was.0.live (none_left n was.0 was.1 still step) found.0

      -- those that are dead, and the region, are the region and all below it
      alike : (n : ℕ) (region : Region) → spaces.regions n ≡ Some region → ((going.under.dies n || (n == name)) ≡ is_at_or_below spaces.regions name n) ⊎ (region.live ≡ false)
      alike n region f = elim (cases_Bool (going.under.dies n)) [
        | inl dead ↦ inl (or_left (going.under.dies n) (n == name) dead ∙ sym (lower n (going.under.each n dead)))
        | inr spared ↦ elim (cases_Bool (is_below spaces.regions name n)) [
          | inl under_it ↦ inr (none_left n region f (ap (λ (r : ℕ → Option Region). r n) going.under.dead ∙ killed-stays spaces.regions going.under.dies n region f spared) under_it)
          | inr apart ↦ inl (ap (λ (b : Bool). b || (n == name)) spared ∙ sym (both (n == name) (is_below spaces.regions name n) apart))
        ]
      ] where
        both : (a b : Bool) → b ≡ false → (a || b) ≡ a
        both true b h = refl
        both false b h = h

      -- so the region dies last, and its entries go
      pub going_end : (region : RegionName) → region.0 ≡ name → dying.live ≡ true → (e : Content) (last : Vmos) (after : Spaces)
          → after.regions ≡ with_one_dead now.regions name → after.table ≡ without_entries now.table dying.root.0 name → LetsGo d vmos_new now.table e last after.table
          → Does c vmos spaces (VmarDestroy region) Done e last after
      going_end region same live e last after regions table gone =
          let itself = or_left (name == name) (is_below spaces.regions name name) (eqb_same name) in
          let whole = going_more c vmos spaces below (is_at_or_below spaces.regions name) d vmos_new now going lower dying.root.0 name itself (its_root name itself) e last after regions table gone in
          let is : after ≡ without_region spaces region.0 =
          (λ i. record {
            regions = (whole.under.dead ∙ killed-alike spaces.regions (λ n. going.under.dies n || (n == name)) (is_at_or_below spaces.regions name) alike) i;
            table = (whole.entries ∙ without_regions-alike spaces.table (λ n. going.under.dies n || (n == name)) (is_at_or_below spaces.regions name) entry_alike) i;
          })
          ∙ ap (without_region spaces) (sym same) in
          let here : spaces.regions region.0 ≡ Some dying = ap spaces.regions same ∙ given in
          let is_it : region_of spaces.regions region.0 ≡ dying = region_of-at spaces.regions region.0 dying here in
          Does-gone c vmos spaces (VmarDestroy region) e last after whole.gone (λ s. grind (arith, here, is_it, live))
          (λ s new h. (refl, h ∙ ap (λ (x : Spaces). pruned (with_all s c vmos x)) is)) where
            entry_alike : (r p : ℕ) (entry : Entry) → spaces.table r p ≡ Some entry → (going.under.dies entry.region.0 || (entry.region.0 == name)) ≡ is_at_or_below spaces.regions name entry.region.0
            entry_alike r p entry f =
                let fine = good.entries r p entry f in
                elim (alike entry.region.0 fine.region fine.given) [ inl h ↦ h | inr off ↦ absurd (both_ways fine.region.live off fine.live) ]
