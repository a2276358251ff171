-- The links in their slab, as one is changed, comes or goes, and the translations then.
use Rattle.std.proofs.Common.{◌≡◌, ◌≢◌, ℕ, ◌+◌, ◌==◌, Bool, Option, None, Some, IsSome, is_some, refl, sym, ap, subst, ◌∙◌, inl, inr, arith}
use Rattle.std.specs.Prelude.{List, IfSome, slice_index_or, count_by}
use Rattle.std.specs.Option.{option_map}
use Rattle.std.proofs.lemmas.Bool.{cases_eq, cond-true, cond-false, eq-eqb}
use Rattle.std.proofs.lemmas.Grind.{common_steps}
use Rattle.slab.specs.Slab.{Slab, get, slab_len, ContainsKey, Updates, with_value}
use Rattle.slab.proofs.SlabLemmas.{Updates-with_value}
use Rattle.vm_base.specs.Entries.{with_key, without_key}
use Rattle.vm_base.proofs.EntryLaws.{some_same, with_key-here, with_key-same, with_key-other, with_key-stays, without_key-same, without_key-other}
use Rattle.vm_base.proofs.SearchLaws.{eqb_apart}
use Rattle.balanced_tree.specs.Pairs.{with_pair}
use Rattle.mapping_set.proofs.TableLaws.{with_pair-cases}
use Rattle.fault.specs.declared.translation.Translation.{Translation}
use Rattle.fault.specs.declared.translation.Place.{Place}
use Rattle.fault.specs.declared.translation.Link.{Link}
use Rattle.fault.specs.Table.{translation_at, translations_in}
use Rattle.fault.specs.inside.Lists.{Links, Shown, place_in_space, page_and_frame, shown_in, place_in, led_to, previous_in, next_in, set_in, to_next, to_previous, link_between, linked_behind, unlinked, first_behind, first_after, AreLists, ArePlaced, AreLinkedInLists}
use Rattle.fault.proofs.PairLaws.{missing, pair-left, pair-other, pair-here, pair-cases}
use Rattle.fault.proofs.ListLaws.{leads, AreLists-first, AreLists-behind, AreLists-left}

-- ---- a slab as a map from numbers

pub links_with : {T : Type 0} (old new : Slab T) (x : ℕ) (k : T) → Updates old new x (Some k) → get new ≡ with_key (get old) x k
links_with old new x k u = λ i n. at n i
  where
    at : (n : ℕ) → get new n ≡ with_key (get old) x k n
    at n = elim (cases_eq n x) [
      | inl same ↦ ap (get new) same ∙ (u.changed ∙ sym (with_key-here (get old) x k n same))
      | inr apart ↦ u.others n apart ∙ sym (with_key-other (get old) x k n apart)
    ]

pub links_without : {T : Type 0} (old new : Slab T) (x : ℕ) → Updates old new x None → get new ≡ without_key (get old) x
links_without old new x u = λ i n. at n i
  where
    at : (n : ℕ) → get new n ≡ without_key (get old) x n
    at n = elim (cases_eq n x) [
      | inl same ↦ ap (get new) same ∙ (u.changed ∙ sym (ap (without_key (get old) x) same ∙ without_key-same (get old) x))
      | inr apart ↦ u.others n apart ∙ sym (without_key-other (get old) x n apart)
    ]

-- a link that was written in its place
pub links_written : {T : Type 0} (s : Slab T) (x : ℕ) (k : T) → ContainsKey s x → get (with_value s x k) ≡ with_key (get s) x k
links_written s x k there = links_with s (with_value s x k) x k (Updates-with_value s x k there)

-- no link comes or goes by that
pub len-written : {T : Type 0} (s : Slab T) (x : ℕ) (k was : T) → get s x ≡ Some was → slab_len (with_value s x k) ≡ slab_len s
len-written s x k was is = grind (arith, common_steps)

-- ---- one link is changed

module _ (change : Link → Link) (links : Links) where
  pub set-here : (at : Option ℕ) (x : ℕ) → at ≡ Some x → set_in change at links x ≡ option_map change (links x)
  unfolding set_in
  set-here None x e = absurd cc
  set-here (Some y) x e = cond-true (x == y) (option_map change (links x)) (links x) (eq-eqb x y (sym (some_same e)))

  pub set-other : (at : Option ℕ) (x : ℕ) → (at ≡ Some x → ⊥) → set_in change at links x ≡ links x
  unfolding set_in
  set-other None x apart = refl
  set-other (Some y) x apart =
      cond-false (x == y) (option_map change (links x)) (links x) (eqb_apart x y (λ same. apart (ap {B = Option ℕ} (λ n. Some n) (sym same))))

  -- what the change leaves stays
  pub set-same : {B : Type 0} (f : Option Link → B) → ((o : Option Link) → f (option_map change o) ≡ f o) → (at : Option ℕ) (x : ℕ) → f (set_in change at links x) ≡ f (links x)
  set-same f same at x = elim (leads at x) [
    | inl here ↦ ap f (set-here at x here) ∙ same (links x)
    | inr apart ↦ ap f (set-other at x apart)
  ]

  -- no link goes
  pub set-stays : (at : Option ℕ) (x : ℕ) → IsSome (links x) → IsSome (set_in change at links x)
  set-stays at x some = set-same is_some still at x ∙ some
    where
      still : (o : Option Link) → is_some (option_map change o) ≡ is_some o
      still None = refl
      still (Some k) = refl

  -- a link that is written changed
  pub set-written : (k : Link) (x : ℕ) → links x ≡ Some k → with_key links x (change k) ≡ set_in change (Some x) links
  set-written k x is = λ i n. at n i
    where
      at : (n : ℕ) → with_key links x (change k) n ≡ set_in change (Some x) links n
      at n = elim (cases_eq n x) [
        | inl same ↦
            with_key-here links x (change k) n same
            ∙ sym (set-here (Some x) n (ap {B = Option ℕ} (λ m. Some m) (sym same)) ∙ ap (option_map change) (ap links same ∙ is))
        | inr apart ↦
            with_key-other links x (change k) n apart ∙ sym (set-other (Some x) n (λ e. apart (sym (some_same e))))
      ]

-- the change of a link in its slab
pub set-in_slab : (s : Slab Link) (change : Link → Link) (at : Option ℕ) (x : ℕ) (k : Link) → at ≡ Some x → get s x ≡ Some k
    → get (with_value s x (change k)) ≡ set_in change at (get s)
set-in_slab s change at x k e is =
    links_written s x (change k) (ap {B = Bool} is_some is) ∙ (set-written change (get s) k x is ∙ ap (λ (o : Option ℕ). set_in change o (get s)) (sym e))

-- no link is changed
pub set-none : (change : Link → Link) (links : Links) (at : Option ℕ) → at ≡ None → links ≡ set_in change at links
unfolding set_in
set-none change links at e = sym (ap (λ (o : Option ℕ). set_in change o links) e)

-- ---- what a link says, as it is changed

next-shown : (n : Option ℕ) (o : Option Link) → option_map (λ (k : Link). page_and_frame k.translation) (option_map (to_next n) o) ≡ option_map (λ (k : Link). page_and_frame k.translation) o
next-shown n None = refl
next-shown n (Some k) = refl

previous-shown : (b : Option ℕ) (o : Option Link) → option_map (λ (k : Link). page_and_frame k.translation) (option_map (to_previous b) o) ≡ option_map (λ (k : Link). page_and_frame k.translation) o
previous-shown b None = refl
previous-shown b (Some k) = refl

next-place : (n : Option ℕ) (o : Option Link) → option_map (λ (k : Link). k.place) (option_map (to_next n) o) ≡ option_map (λ (k : Link). k.place) o
next-place n None = refl
next-place n (Some k) = refl

previous-place : (b : Option ℕ) (o : Option Link) → option_map (λ (k : Link). k.place) (option_map (to_previous b) o) ≡ option_map (λ (k : Link). k.place) o
previous-place b None = refl
previous-place b (Some k) = refl

next-translation : (n : Option ℕ) (o : Option Link) → option_map (λ (k : Link). k.translation) (option_map (to_next n) o) ≡ option_map (λ (k : Link). k.translation) o
next-translation n None = refl
next-translation n (Some k) = refl

previous-translation : (b : Option ℕ) (o : Option Link) → option_map (λ (k : Link). k.translation) (option_map (to_previous b) o) ≡ option_map (λ (k : Link). k.translation) o
previous-translation b None = refl
previous-translation b (Some k) = refl

next-previous : (n : Option ℕ) (o : Option Link) → led_to (λ k. k.previous) (option_map (to_next n) o) ≡ led_to (λ k. k.previous) o
next-previous n None = refl
next-previous n (Some k) = refl

previous-next : (b : Option ℕ) (o : Option Link) → led_to (λ k. k.next) (option_map (to_previous b) o) ≡ led_to (λ k. k.next) o
previous-next b None = refl
previous-next b (Some k) = refl

next-next : (n : Option ℕ) (o : Option Link) → IsSome o → led_to (λ k. k.next) (option_map (to_next n) o) ≡ n
next-next n None e = absurd cc
next-next n (Some k) e = refl

previous-previous : (b : Option ℕ) (o : Option Link) → IsSome o → led_to (λ k. k.previous) (option_map (to_previous b) o) ≡ b
previous-previous b None e = absurd cc
previous-previous b (Some k) e = refl

-- two links get something else behind and before them
module _ (links : Links) (b n : Option ℕ) (to from : Option ℕ) where
  abbrev pub relinked : Links
  relinked = set_in (to_previous from) n (set_in (to_next to) b links)

  pub relinked-shown : (x : ℕ) → shown_in relinked x ≡ shown_in links x
  relinked-shown x =
      set-same (to_previous from) (set_in (to_next to) b links) (option_map (λ (k : Link). page_and_frame k.translation)) (previous-shown from) n x
      ∙ set-same (to_next to) links (option_map (λ (k : Link). page_and_frame k.translation)) (next-shown to) b x

  pub relinked-place : (x : ℕ) → place_in relinked x ≡ place_in links x
  relinked-place x =
      set-same (to_previous from) (set_in (to_next to) b links) (option_map (λ (k : Link). k.place)) (previous-place from) n x
      ∙ set-same (to_next to) links (option_map (λ (k : Link). k.place)) (next-place to) b x

  pub relinked-translation : (x : ℕ) → option_map (λ (k : Link). k.translation) (relinked x) ≡ option_map (λ (k : Link). k.translation) (links x)
  relinked-translation x =
      set-same (to_previous from) (set_in (to_next to) b links) (option_map (λ (k : Link). k.translation)) (previous-translation from) n x
      ∙ set-same (to_next to) links (option_map (λ (k : Link). k.translation)) (next-translation to) b x

  pub relinked-next : (x : ℕ) → b ≡ Some x → IsSome (links x) → next_in relinked x ≡ to
  relinked-next x e some =
      set-same (to_previous from) (set_in (to_next to) b links) (led_to (λ k. k.next)) (previous-next from) n x
      ∙ (ap (led_to (λ k. k.next)) (set-here (to_next to) links b x e) ∙ next-next to (links x) some)

  pub relinked-next_other : (x : ℕ) → (b ≡ Some x → ⊥) → next_in relinked x ≡ next_in links x
  relinked-next_other x apart =
      set-same (to_previous from) (set_in (to_next to) b links) (led_to (λ k. k.next)) (previous-next from) n x
      ∙ ap (led_to (λ k. k.next)) (set-other (to_next to) links b x apart)

  pub relinked-previous : (x : ℕ) → n ≡ Some x → IsSome (links x) → previous_in relinked x ≡ from
  relinked-previous x e some =
      ap (led_to (λ k. k.previous)) (set-here (to_previous from) (set_in (to_next to) b links) n x e)
      ∙ previous-previous from (set_in (to_next to) b links x) (set-stays (to_next to) links b x some)

  pub relinked-previous_other : (x : ℕ) → (n ≡ Some x → ⊥) → previous_in relinked x ≡ previous_in links x
  relinked-previous_other x apart =
      ap (led_to (λ k. k.previous)) (set-other (to_previous from) (set_in (to_next to) b links) n x apart)
      ∙ set-same (to_next to) links (led_to (λ k. k.previous)) (next-previous to) b x

-- ---- the places of links

-- a link says that it is of a page, so it is there
place-some : (o : Option Link) (w : Place) → option_map (λ (k : Link). k.place) o ≡ Some w → IsSome o
place-some None w e = absurd cc
place-some (Some k) w e = refl

some-shown : (o : Option Link) → IsSome (option_map (λ (k : Link). page_and_frame k.translation) o) → IsSome o
some-shown None e = e
some-shown (Some k) e = refl

none-shown : (o : Option Link) → o ≡ None → option_map (λ (k : Link). page_and_frame k.translation) o ≡ None
none-shown o e = ap (option_map (λ (k : Link). page_and_frame k.translation)) e

module _ (places : ℕ → ℕ → Option ℕ) (links : Links) (h : ArePlaced places (place_in links)) where
  -- the link of a page is there
  pub link-there : (root p x : ℕ) → places root p ≡ Some x → IsSome (links x)
  link-there root p x is = place-some (links x) _ (h.link root p x is)

  -- and is that of no other page
  pub link-once : (r q s p x : ℕ) → places r q ≡ Some x → places s p ≡ Some x → (r ≡ s) × (q ≡ p)
  link-once r q s p x one two =
      let same : place_in_space r q ≡ place_in_space s p = some_same (sym (h.link r q x one) ∙ h.link s p x two) in
      (ap (λ (w : Place). w.root.0) same, ap (λ (w : Place). w.page) same)

  -- a page with a link comes
  module _ (x : ℕ) (free : links x ≡ None) (w : Place) (absent : places w.root.0 w.page ≡ None) (more : ℕ → ℕ → Option ℕ) (more_is : more ≡ with_pair places w.root.0 w.page (Some x))
      (now : Links) (here : place_in now x ≡ Some w) (other : (y : ℕ) → y ≢ x → place_in now y ≡ place_in links y) where
    old-link : (root p y : ℕ) → places root p ≡ Some y → y ≢ x
    old-link root p y is same = absurd (let no = sym (link-there root p y is) ∙ (ap {B = Bool} (λ n. is_some (links n)) same ∙ ap {B = Bool} is_some free) in cc)

    pub ArePlaced-joined : ArePlaced more (place_in now)
    ArePlaced-joined = record {
      link = λ root p y is. elim (pair-cases places more w.root.0 w.page x more_is root p y is) [
        | inl is_new ↦
            ap (place_in now) (sym is_new.2) ∙ (here ∙ (λ i. Some (place_in_space (sym is_new.0 i) (sym is_new.1 i))))
        | inr old ↦ other y (old-link root p y old.1) ∙ h.link root p y old.1
      ];
      place = λ y v is. elim (cases_eq y x) [
        | inl same ↦
            let is_new : w ≡ v = some_same (sym here ∙ (sym (ap (place_in now) same) ∙ is)) in
            pair-here places more w.root.0 w.page (Some x) more_is v.root.0 v.page (ap (λ (u : Place). u.root.0) (sym is_new)) (ap (λ (u : Place). u.page) (sym is_new))
            ∙ ap {B = Option ℕ} (λ n. Some n) (sym same)
        | inr apart ↦
            let old = h.place y v (sym (other y apart) ∙ is) in
            pair-other places more w.root.0 w.page (Some x) more_is v.root.0 v.page (λ one two.
            missing old (ap (λ r. places r v.page) one ∙ (ap (places w.root.0) two ∙ absent))) ∙ old
      ];
    }

  -- a page with its link goes
  module _ (x root p : ℕ) (is_here : places root p ≡ Some x) (fewer : ℕ → ℕ → Option ℕ) (fewer_is : fewer ≡ with_pair places root p None)
      (now : Links) (gone : place_in now x ≡ None) (other : (y : ℕ) → y ≢ x → place_in now y ≡ place_in links y) where
    other-link : (r q y : ℕ) → fewer r q ≡ Some y → (places r q ≡ Some y) × (y ≢ x)
    other-link r q y is =
        let old = pair-left places fewer root p fewer_is r q y is in
        (old.1, λ same. let page = link-once r q root p x (old.1 ∙ ap {B = Option ℕ} (λ n. Some n) same) is_here in old.0 page.0 page.1)

    pub ArePlaced-left : ArePlaced fewer (place_in now)
    ArePlaced-left = record {
      link = λ r q y is. let old = other-link r q y is in other y old.1 ∙ h.link r q y old.0;
      place = λ y v is.
          let apart : y ≢ x = λ same. missing (sym (ap (place_in now) same) ∙ is) gone in
          let old = h.place y v (sym (other y apart) ∙ is) in
          pair-other places fewer root p None fewer_is v.root.0 v.page (λ one two.
          apart (some_same (sym old ∙ (ap (λ r. places r v.page) one ∙ (ap (places root) two ∙ is_here))))) ∙ old;
    }

-- ---- the translations

-- the translation of a page, of the same link that says the same
at-alike : (links now : Links) (o : Option ℕ) → ((y : ℕ) → o ≡ Some y → option_map (λ (k : Link). k.translation) (now y) ≡ option_map (λ (k : Link). k.translation) (links y))
    → translation_at now o ≡ translation_at links o
at-alike links now None same = refl
at-alike links now (Some y) same = same y refl

-- the translations once a page has another one, or has none
pub translations-with : (links now : Links) (places new : ℕ → ℕ → Option ℕ) (root p : ℕ) (v : Option ℕ) (x : Option Translation) → new ≡ with_pair places root p v → translation_at now v ≡ x
    → ((r q y : ℕ) → (r ≡ root → q ≡ p → ⊥) → places r q ≡ Some y → option_map (λ (k : Link). k.translation) (now y) ≡ option_map (λ (k : Link). k.translation) (links y))
    → translations_in now new ≡ with_pair (translations_in links places) root p x
translations-with links now places new root p v x e is others = λ i r q. at r q i
  where
    at : (r q : ℕ) → translation_at now (new r q) ≡ with_pair (translations_in links places) root p x r q
    at r q = elim (with_pair-cases (translations_in links places) root p x r q) [
      | inl here ↦ ap (translation_at now) (pair-here places new root p v e r q here.0 here.1) ∙ (is ∙ sym here.2)
      | inr there ↦
          ap (translation_at now) (pair-other places new root p v e r q there.0)
          ∙ (at-alike links now (places r q) (λ y found. others r q y there.0 found) ∙ sym there.1)
    ]

-- ---- a link comes, and a link goes

-- the links of other lists and places, which say the same
pub AreLists-alike : (shown more : ℕ → Option Shown) (previous back next on : ℕ → Option ℕ) (lists : ℕ → ℕ → Option ℕ) (count other : ℕ)
    → more ≡ shown → back ≡ previous → on ≡ next → other ≡ count → AreLists shown previous next lists count → AreLists more back on lists other
AreLists-alike shown more previous back next on lists count other s b n c h =
    subst (λ (m : ℕ → Option Shown). AreLists m back on lists other) (sym s)
    (subst (λ (m : ℕ → Option ℕ). AreLists shown m on lists other) (sym b)
    (subst (λ (m : ℕ → Option ℕ). AreLists shown previous m lists other) (sym n)
    (subst (λ m. AreLists shown previous next lists m) (sym c) h)))

module _ (places lists : ℕ → ℕ → Option ℕ) (links : Links) (count : ℕ) (h : AreLinkedInLists places lists links count) where
  -- what the link of a page leads to is there
  pub previous-there : (x y : ℕ) → previous_in links x ≡ Some y → IsSome (links y)
  previous-there x y e = some-shown (links y) (ap {B = Bool} is_some (h.listed.before x y e).1 ∙ h.listed.there x y e)

  pub next-there : (x y : ℕ) → next_in links x ≡ Some y → IsSome (links y)
  next-there x y e = some-shown (links y) (h.listed.there y x (h.listed.behind x y e))

  -- and is another link
  pub previous-apart : (x y : ℕ) → previous_in links x ≡ Some y → y ≢ x
  previous-apart x y e same = let low = (h.listed.before x y e).2 in absurd (omega (arith, ap h.listed.order same))

  pub next-apart : (x y : ℕ) → next_in links x ≡ Some y → y ≢ x
  next-apart x y e same = previous-apart y x (h.listed.behind x y e) (sym same)

  pub nexts-there : (x : ℕ) → IfSome (next_in links x) (λ y. IsSome (links y))
  nexts-there x = go (next_in links x) refl
    where
      go : (o : Option ℕ) → next_in links x ≡ o → IfSome o (λ y. IsSome (links y))
      go None e = tt
      go (Some y) e = next-there x y e

  pub nexts-apart : (x : ℕ) → IfSome (next_in links x) (λ y. IsSome (links y) × (y ≢ x))
  nexts-apart x = go (next_in links x) refl
    where
      go : (o : Option ℕ) → next_in links x ≡ o → IfSome o (λ y. IsSome (links y) × (y ≢ x))
      go None e = tt
      go (Some y) e = (next-there x y e, next-apart x y e)

  pub previous-others : (x : ℕ) → IfSome (previous_in links x) (λ y. IsSome (links y) × (y ≢ x))
  previous-others x = go (previous_in links x) refl
    where
      go : (o : Option ℕ) → previous_in links x ≡ o → IfSome o (λ y. IsSome (links y) × (y ≢ x))
      go None e = tt
      go (Some y) e = (previous-there x y e, previous-apart x y e)

  -- a link without one before it is the first of its list
  pub head-there : (x : ℕ) (k : Link) → links x ≡ Some k → k.previous ≡ None → IsSome (lists k.translation.entry.koid.0 k.translation.entry.page)
  head-there x k is none = ap {B = Bool} is_some (h.listed.head k.translation.entry.koid.0 k.translation.entry.page x k.translation.frame
      (ap (option_map (λ (j : Link). page_and_frame j.translation)) is) (ap (led_to (λ j. j.previous)) is ∙ none))

  -- the first link of a list is there
  pub first-there : (v p x : ℕ) → lists v p ≡ Some x → IsSome (links x)
  first-there v p x is = some-shown (links x) (ap {B = Bool} is_some (h.listed.first v p x is).1)

  -- ---- a link comes

  module _ (x : ℕ) (free : links x ≡ None) (t : Translation) (w : Place) (absent : places w.root.0 w.page ≡ None)
      (more : ℕ → ℕ → Option ℕ) (more_is : more ≡ with_pair places w.root.0 w.page (Some x)) where
    -- a list begins with it
    module _ (none : lists t.entry.koid.0 t.entry.page ≡ None) (now : Links) (now_is : now ≡ with_key links x (link_between t w None None))
        (also : ℕ → ℕ → Option ℕ) (also_is : also ≡ with_pair lists t.entry.koid.0 t.entry.page (Some x)) where
      new-here : now x ≡ Some (link_between t w None None)
      new-here = ap (λ (m : Links). m x) now_is ∙ with_key-same links x (link_between t w None None)

      new-other : (y : ℕ) → y ≢ x → now y ≡ links y
      new-other y apart = ap (λ (m : Links). m y) now_is ∙ with_key-other links x (link_between t w None None) y apart

      pub AreLinkedInLists-first : AreLinkedInLists more also now (count + 1)
      AreLinkedInLists-first = record {
        placed = ArePlaced-joined places links h.placed x free w absent more more_is now (ap (option_map (λ (k : Link). k.place)) new-here)
            (λ y apart. ap (option_map (λ (k : Link). k.place)) (new-other y apart));
        listed = AreLists-first (shown_in links) (previous_in links) (next_in links) lists count h.listed x (page_and_frame t) (none-shown (links x) free)
            (shown_in now) (previous_in now) (next_in now) (ap (option_map (λ (k : Link). page_and_frame k.translation)) new-here)
            (λ y apart. ap (option_map (λ (k : Link). page_and_frame k.translation)) (new-other y apart)) none
            (ap (led_to (λ k. k.previous)) new-here) (λ y apart. ap (led_to (λ k. k.previous)) (new-other y apart))
            (ap (led_to (λ k. k.next)) new-here) (λ y apart. ap (led_to (λ k. k.next)) (new-other y apart)) also also_is;
      }

      pub translations-first : translations_in now more ≡ with_pair (translations_in links places) w.root.0 w.page (Some t)
      translations-first = translations-with links now places more w.root.0 w.page (Some x) (Some t) more_is (ap (option_map (λ (k : Link). k.translation)) new-here)
          (λ r q y apart found. ap (option_map (λ (k : Link). k.translation)) (new-other y (old-link places links h.placed x free w absent more more_is now
          (ap (option_map (λ (k : Link). k.place)) new-here) (λ z out. ap (option_map (λ (k : Link). k.place)) (new-other z out)) r q y found)))

    -- it stands behind the first of its list
    module _ (f : ℕ) (is_first : lists t.entry.koid.0 t.entry.page ≡ Some f) (shows : shown_in links f ≡ Some (page_and_frame t)) (now : Links) (now_is : now ≡ linked_behind links f x t w) where
      abbrev with_new : Links
      with_new = with_key links x (link_between t w (Some f) (next_in links f))

      added-here : with_new x ≡ Some (link_between t w (Some f) (next_in links f))
      added-here = with_key-same links x (link_between t w (Some f) (next_in links f))

      added-other : (y : ℕ) → y ≢ x → with_new y ≡ links y
      added-other y apart = with_key-other links x (link_between t w (Some f) (next_in links f)) y apart

      first-some : IsSome (links f)
      first-some = some-shown (links f) (ap {B = Bool} is_some shows)

      first-out : f ≢ x
      first-out same = absurd (let no = sym first-some ∙ (ap {B = Bool} (λ n. is_some (links n)) same ∙ ap {B = Bool} is_some free) in cc)

      next-out : (y : ℕ) → next_in links f ≡ Some y → y ≢ x
      next-out y e same = absurd (let no = sym (next-there f y e) ∙ (ap {B = Bool} (λ n. is_some (links n)) same ∙ ap {B = Bool} is_some free) in cc)

      still-there : (y : ℕ) → y ≢ x → IsSome (links y) → IsSome (with_new y)
      still-there y apart some = ap {B = Bool} is_some (added-other y apart) ∙ some

      now-shown : (y : ℕ) → shown_in now y ≡ shown_in with_new y
      now-shown y = ap (λ (m : Links). shown_in m y) now_is ∙ relinked-shown with_new (Some f) (next_in links f) (Some x) (Some x) y

      now-place : (y : ℕ) → place_in now y ≡ place_in with_new y
      now-place y = ap (λ (m : Links). place_in m y) now_is ∙ relinked-place with_new (Some f) (next_in links f) (Some x) (Some x) y

      now-translation : (y : ℕ) → option_map (λ (k : Link). k.translation) (now y) ≡ option_map (λ (k : Link). k.translation) (with_new y)
      now-translation y = ap (λ (m : Links). option_map (λ (k : Link). k.translation) (m y)) now_is ∙ relinked-translation with_new (Some f) (next_in links f) (Some x) (Some x) y

      placed-here : place_in now x ≡ Some w
      placed-here = now-place x ∙ ap (option_map (λ (k : Link). k.place)) added-here

      placed-other : (y : ℕ) → y ≢ x → place_in now y ≡ place_in links y
      placed-other y apart = now-place y ∙ ap (option_map (λ (k : Link). k.place)) (added-other y apart)

      pub AreLinkedInLists-behind : AreLinkedInLists more lists now (count + 1)
      AreLinkedInLists-behind = record {
        placed = ArePlaced-joined places links h.placed x free w absent more more_is now placed-here placed-other;
        listed = AreLists-behind (shown_in links) (previous_in links) (next_in links) lists count h.listed x (page_and_frame t) (none-shown (links x) free)
            (shown_in now) (previous_in now) (next_in now) (now-shown x ∙ ap (option_map (λ (k : Link). page_and_frame k.translation)) added-here)
            (λ y apart. now-shown y ∙ ap (option_map (λ (k : Link). page_and_frame k.translation)) (added-other y apart))
            f shows
            (ap (λ (m : Links). previous_in m x) now_is ∙ (relinked-previous_other with_new (Some f) (next_in links f) (Some x) (Some x) x (λ e. next-out x e refl)
            ∙ ap (led_to (λ k. k.previous)) added-here))
            (λ y e. ap (λ (m : Links). previous_in m y) now_is
            ∙ relinked-previous with_new (Some f) (next_in links f) (Some x) (Some x) y e (still-there y (next-out y e) (next-there f y e)))
            (λ y apart other. ap (λ (m : Links). previous_in m y) now_is ∙ (relinked-previous_other with_new (Some f) (next_in links f) (Some x) (Some x) y other
            ∙ ap (led_to (λ k. k.previous)) (added-other y apart)))
            (ap (λ (m : Links). next_in m x) now_is ∙ (relinked-next_other with_new (Some f) (next_in links f) (Some x) (Some x) x (λ e. first-out (some_same e))
            ∙ ap (led_to (λ k. k.next)) added-here))
            (ap (λ (m : Links). next_in m f) now_is ∙ relinked-next with_new (Some f) (next_in links f) (Some x) (Some x) f refl (still-there f first-out first-some))
            (λ y apart other. ap (λ (m : Links). next_in m y) now_is ∙ (relinked-next_other with_new (Some f) (next_in links f) (Some x) (Some x) y (λ e. other (sym (some_same e)))
            ∙ ap (led_to (λ k. k.next)) (added-other y apart)));
      }

      pub translations-behind : translations_in now more ≡ with_pair (translations_in links places) w.root.0 w.page (Some t)
      translations-behind = translations-with links now places more w.root.0 w.page (Some x) (Some t) more_is
          (now-translation x ∙ ap (option_map (λ (k : Link). k.translation)) added-here)
          (λ r q y apart found. now-translation y ∙ ap (option_map (λ (k : Link). k.translation)) (added-other y
          (old-link places links h.placed x free w absent more more_is now placed-here placed-other r q y found)))

  -- ---- a link goes

  module _ (x : ℕ) (k : Link) (is_here : links x ≡ Some k) (root p : ℕ) (at : places root p ≡ Some x) (fewer : ℕ → ℕ → Option ℕ) (fewer_is : fewer ≡ with_pair places root p None)
      (now : Links) (now_is : now ≡ unlinked links x) (len : ℕ) (one_less : len + 1 ≡ count) where
    abbrev without : Links
    without = without_key links x

    gone-here : without x ≡ None
    gone-here = without_key-same links x

    gone-other : (y : ℕ) → y ≢ x → without y ≡ links y
    gone-other y apart = without_key-other links x y apart

    stays-there : (y : ℕ) → y ≢ x → IsSome (links y) → IsSome (without y)
    stays-there y apart some = ap {B = Bool} is_some (gone-other y apart) ∙ some

    left-shown : (y : ℕ) → shown_in now y ≡ shown_in without y
    left-shown y = ap (λ (m : Links). shown_in m y) now_is ∙ relinked-shown without (previous_in links x) (next_in links x) (next_in links x) (previous_in links x) y

    left-place : (y : ℕ) → place_in now y ≡ place_in without y
    left-place y = ap (λ (m : Links). place_in m y) now_is ∙ relinked-place without (previous_in links x) (next_in links x) (next_in links x) (previous_in links x) y

    left-translation : (y : ℕ) → option_map (λ (k : Link). k.translation) (now y) ≡ option_map (λ (k : Link). k.translation) (without y)
    left-translation y = ap (λ (m : Links). option_map (λ (k : Link). k.translation) (m y)) now_is
        ∙ relinked-translation without (previous_in links x) (next_in links x) (next_in links x) (previous_in links x) y

    gone-place : place_in now x ≡ None
    gone-place = left-place x ∙ ap (option_map (λ (k : Link). k.place)) gone-here

    other-place : (y : ℕ) → y ≢ x → place_in now y ≡ place_in links y
    other-place y apart = left-place y ∙ ap (option_map (λ (k : Link). k.place)) (gone-other y apart)

    -- with these first links of lists the others are lists
    module _ (also : ℕ → ℕ → Option ℕ) (also_first : previous_in links x ≡ None → also ≡ with_pair lists k.translation.entry.koid.0 k.translation.entry.page (next_in links x))
        (also_other : (y : ℕ) → previous_in links x ≡ Some y → also ≡ lists) where
      pub AreLinkedInLists-left : AreLinkedInLists fewer also now len
      AreLinkedInLists-left = record {
        placed = ArePlaced-left places links h.placed x root p at fewer fewer_is now gone-place other-place;
        listed = AreLists-left (shown_in links) (previous_in links) (next_in links) lists count h.listed x (page_and_frame k.translation)
            (ap (option_map (λ (j : Link). page_and_frame j.translation)) is_here) (shown_in now) (previous_in now) (next_in now) also len one_less
            (left-shown x ∙ none-shown (without x) gone-here)
            (λ y apart. left-shown y ∙ ap (option_map (λ (j : Link). page_and_frame j.translation)) (gone-other y apart))
            (ap (λ (m : Links). previous_in m x) now_is ∙ (relinked-previous_other without (previous_in links x) (next_in links x) (next_in links x) (previous_in links x) x
            (λ e. next-apart x x e refl) ∙ ap (led_to (λ j. j.previous)) gone-here))
            (λ y apart e. ap (λ (m : Links). previous_in m y) now_is
            ∙ relinked-previous without (previous_in links x) (next_in links x) (next_in links x) (previous_in links x) y e (stays-there y apart (next-there x y e)))
            (λ y apart other. ap (λ (m : Links). previous_in m y) now_is ∙ (relinked-previous_other without (previous_in links x) (next_in links x) (next_in links x) (previous_in links x) y other
            ∙ ap (led_to (λ j. j.previous)) (gone-other y apart)))
            (ap (λ (m : Links). next_in m x) now_is ∙ (relinked-next_other without (previous_in links x) (next_in links x) (next_in links x) (previous_in links x) x
            (λ e. previous-apart x x e refl) ∙ ap (led_to (λ j. j.next)) gone-here))
            (λ y apart e. ap (λ (m : Links). next_in m y) now_is
            ∙ relinked-next without (previous_in links x) (next_in links x) (next_in links x) (previous_in links x) y e (stays-there y apart (previous-there x y e)))
            (λ y apart other. ap (λ (m : Links). next_in m y) now_is ∙ (relinked-next_other without (previous_in links x) (next_in links x) (next_in links x) (previous_in links x) y other
            ∙ ap (led_to (λ j. j.next)) (gone-other y apart)))
            also_first also_other;
      }

    -- those where the list goes on with the link behind
    pub AreLinkedInLists-after : (also : ℕ → ℕ → Option ℕ) → also ≡ first_after lists k → AreLinkedInLists fewer also now len
    AreLinkedInLists-after also also_is = AreLinkedInLists-left also
        (λ none. also_is ∙ (ap (λ o. first_behind o lists k) (sym (ap (led_to (λ j. j.previous)) is_here) ∙ none)
        ∙ ap (with_pair lists k.translation.entry.koid.0 k.translation.entry.page) (sym (ap (led_to (λ j. j.next)) is_here))))
        (λ y before. also_is ∙ ap (λ o. first_behind o lists k) (sym (ap (led_to (λ j. j.previous)) is_here) ∙ before))

    pub translations-left : translations_in now fewer ≡ with_pair (translations_in links places) root p None
    translations-left = translations-with links now places fewer root p None None fewer_is refl
        (λ r q y apart found. left-translation y ∙ ap (option_map (λ (k : Link). k.translation)) (gone-other y (λ same.
        let page = link-once places links h.placed r q root p x (found ∙ ap {B = Option ℕ} (λ n. Some n) same) at in apart page.0 page.1)))

-- ---- what a call writes, one link after another

-- links stay where others do
pub there-after : (links now : Links) (at : Option ℕ) → ((y : ℕ) → IsSome (links y) → IsSome (now y)) → IfSome at (λ y. IsSome (links y)) → IfSome at (λ y. IsSome (now y))
there-after links now None stays there = tt
there-after links now (Some y) stays there = stays y there

-- links stay where another one goes
pub there-gone : (links now : Links) (x : ℕ) (at : Option ℕ) → now ≡ without_key links x → IfSome at (λ y. IsSome (links y) × (y ≢ x)) → IfSome at (λ y. IsSome (now y))
there-gone links now x None e there = tt
there-gone links now x (Some y) e there = ap {B = Bool} (λ (m : Links). is_some (m y)) e ∙ (ap {B = Bool} is_some (without_key-other links x y there.1) ∙ there.0)

-- the links beside a link, once it goes
pub previous-gone : (links now : Links) (x : ℕ) (k : Link) → links x ≡ Some k → now ≡ without_key links x → IfSome (previous_in links x) (λ y. IsSome (links y) × (y ≢ x))
    → IfSome k.previous (λ y. IsSome (now y))
previous-gone links now x k is e there =
    there-gone links now x k.previous e (subst (λ (o : Option ℕ). IfSome o (λ y. IsSome (links y) × (y ≢ x))) (ap (led_to (λ j. j.previous)) is) there)

pub next-gone : (links now : Links) (x : ℕ) (k : Link) → links x ≡ Some k → now ≡ without_key links x → IfSome (next_in links x) (λ y. IsSome (links y) × (y ≢ x))
    → IfSome k.next (λ y. IsSome (now y))
next-gone links now x k is e there =
    there-gone links now x k.next e (subst (λ (o : Option ℕ). IfSome o (λ y. IsSome (links y) × (y ≢ x))) (ap (led_to (λ j. j.next)) is) there)

pub next-written : (links now : Links) (x : ℕ) (k : Link) → links x ≡ Some k → ((y : ℕ) → IsSome (links y) → IsSome (now y)) → IfSome (next_in links x) (λ y. IsSome (links y))
    → IfSome k.next (λ y. IsSome (now y))
next-written links now x k is stays there =
    there-after links now k.next stays (subst (λ (o : Option ℕ). IfSome o (λ y. IsSome (links y))) (ap (led_to (λ j. j.next)) is) there)

-- no link goes where one is set
pub set-there : (change : Link → Link) (links now : Links) (at : Option ℕ) → now ≡ set_in change at links → (y : ℕ) → IsSome (links y) → IsSome (now y)
set-there change links now at e y some = ap {B = Bool} (λ (m : Links). is_some (m y)) e ∙ set-stays change links at y some

-- nor where one comes
pub with-there : (links now : Links) (x : ℕ) (k : Link) → now ≡ with_key links x k → (y : ℕ) → IsSome (links y) → IsSome (now y)
with-there links now x k e y some = ap {B = Bool} (λ (m : Links). is_some (m y)) e ∙ with_key-stays links x k y some

-- a link behind another one, as it was written
pub behind-written : (links : Links) (first number : ℕ) (k : Link) (x : Translation) (w : Place) → links first ≡ Some k
    → set_in (to_previous (Some number)) k.next (set_in (to_next (Some number)) (Some first) (with_key links number (link_between x w (Some first) k.next)))
    ≡ linked_behind links first number x w
behind-written links first number k x w is =
    ap (λ (n : Option ℕ). set_in (to_previous (Some number)) n (set_in (to_next (Some number)) (Some first) (with_key links number (link_between x w (Some first) n))))
    (sym (ap (led_to (λ j. j.next)) is))

-- a link that was taken out
pub unlinked-written : (links : Links) (x : ℕ) (k : Link) → links x ≡ Some k
    → set_in (to_previous k.previous) k.next (set_in (to_next k.next) k.previous (without_key links x)) ≡ unlinked links x
unlinked-written links x k is = λ i.
    set_in (to_previous (sym (ap (led_to (λ j. j.previous)) is) i)) (sym (ap (led_to (λ j. j.next)) is) i)
    (set_in (to_next (sym (ap (led_to (λ j. j.next)) is) i)) (sym (ap (led_to (λ j. j.previous)) is) i) (without_key links x))

-- ---- more room

pub AreLinkedInLists-roomy : (places wider lists longer : ℕ → ℕ → Option ℕ) (old new : Slab Link) → wider ≡ places → longer ≡ lists → new.slots ≡ old.slots
    → AreLinkedInLists places lists (get old) (slab_len old) → AreLinkedInLists wider longer (get new) (slab_len new)
AreLinkedInLists-roomy places wider lists longer old new p l s h =
    subst (λ (m : ℕ → ℕ → Option ℕ). AreLinkedInLists m longer (get new) (slab_len new)) (sym p)
    (subst (λ (m : ℕ → ℕ → Option ℕ). AreLinkedInLists places m (get new) (slab_len new)) (sym l)
    (subst (λ (slots : List (Option Link)). AreLinkedInLists places lists (λ x. slice_index_or slots x None) (count_by is_some slots)) (sym s) h))

pub translations-roomy : (places wider : ℕ → ℕ → Option ℕ) (old new : Slab Link) → wider ≡ places → new.slots ≡ old.slots → translations_in (get new) wider ≡ translations_in (get old) places
translations-roomy places wider old new p s = λ i. translations_in (λ x. slice_index_or (s i) x None) (p i)

-- ---- no link

pub AreLinkedInLists-none : (places lists : ℕ → ℕ → Option ℕ) (links : Links) (count : ℕ) → places ≡ (λ r p. None) → lists ≡ (λ v p. None) → ((x : ℕ) → links x ≡ None)
    → AreLinkedInLists places lists links count
AreLinkedInLists-none places lists links count bare empty none = record {
  placed = record {
    link = λ root p x is. absurd (missing is (ap (λ (m : ℕ → ℕ → Option ℕ). m root p) bare));
    place = λ x w is. absurd (missing is (ap (option_map (λ (k : Link). k.place)) (none x)));
  };
  listed = record {
    order = λ x. 0;
    first = λ v p x is. absurd (missing is (ap (λ (m : ℕ → ℕ → Option ℕ). m v p) empty));
    head = λ v p x frame is before. absurd (missing is (none-shown (links x) (none x)));
    before = λ x y e. absurd (missing e (ap (led_to (λ k. k.previous)) (none x)));
    behind = λ x y e. absurd (missing e (ap (led_to (λ k. k.next)) (none x)));
    there = λ x y e. absurd (missing e (ap (led_to (λ k. k.previous)) (none x)));
    below = λ x some. absurd (let no = sym some ∙ ap {B = Bool} is_some (none-shown (links x) (none x)) in cc);
    apart = λ x y some also same. absurd (let no = sym some ∙ ap {B = Bool} is_some (none-shown (links x) (none x)) in cc);
  };
}
