-- Links that say something else where no list depends on it, and what is done to the links of a list one after another.
use Rattle.std.proofs.Common.{◌≡◌, ◌≢◌, ℕ, zero, suc, ◌+◌, ◌<◌, ◌==◌, ◌&&◌, Bool, true, false, cond, Option, None, Some, IsSome, is_some, ◌⊎◌, refl, sym, ap, subst, ◌∙◌, inl, inr, arith}
use Rattle.std.specs.Option.{option_map}
use Rattle.std.proofs.lemmas.Bool.{cases_Bool, cases_eq, and_from, and_parts, eq-eqb, both_ways}
use Rattle.std.proofs.lemmas.Bool.Decides.{nat_tests}
use Rattle.vm_base.specs.Entries.{with_key}
use Rattle.vm_base.proofs.EntryLaws.{some_same, with_key-here, with_key-other}
use Rattle.vm_base.proofs.SearchLaws.{eqb_is}
use Rattle.vm_model.specs.Contents.Zeroing.{is_within}
use Rattle.vm_model.specs.declared.space.Entry.{Entry}
use Rattle.vm_model.specs.Space.Readiness.{shows_in}
use Rattle.balanced_tree.specs.Pairs.{with_pair}
use Rattle.mapping_set.proofs.TableLaws.{with_pair-cases, with_pair-over}
use Rattle.vm_base.specs.declared.names.Tag.{Tag}
use Rattle.fault.specs.declared.translation.Translation.{Translation}
use Rattle.fault.specs.declared.translation.Place.{Place}
use Rattle.fault.specs.declared.translation.Link.{Link}
use Rattle.fault.specs.Table.{Places, is_translation_of, translation_at, translations_in}
use Rattle.fault.specs.inside.Lists.{Links, Shown, page_and_frame, shown_in, place_in, led_to, previous_in, next_in, unlinked, MayHold, read_only, is_shown, restricted_beside, AreLists, AreLinkedInLists, ahead, steps_from}
use Rattle.fault.specs.inside.Walks.{become, changed_where, dropped, left_read_only, HoldElsewhere}
use Rattle.fault.proofs.PairLaws.{missing, with_pair-kept}
use Rattle.fault.proofs.ListLaws.{reached, behind-shown, steps-less, AreLists-alone, alone-in_list}
use Rattle.fault.proofs.LinkLaws.{translations-with, link-once, AreLists-alike, AreLinkedInLists-left, translations-left}
use Rattle.fault.proofs.FindLaws.{linked, shown-of, list-missing, translation-of, HasFrame-of}

-- ---- links that say the same of pages, places and each other

module _ (places lists : ℕ → ℕ → Option ℕ) (links now : Links) (count other : ℕ) (h : AreLinkedInLists places lists links count) (len : other ≡ count) where
  pub AreLinkedInLists-alike : ((y : ℕ) → shown_in now y ≡ shown_in links y) → ((y : ℕ) → place_in now y ≡ place_in links y) → ((y : ℕ) → previous_in now y ≡ previous_in links y)
      → ((y : ℕ) → next_in now y ≡ next_in links y) → AreLinkedInLists places lists now other
  AreLinkedInLists-alike shown place previous next = record {
    placed = record { link = λ root p x is. place x ∙ h.placed.link root p x is; place = λ x w is. h.placed.place x w (sym (place x) ∙ is) };
    listed = AreLists-alike (shown_in links) (shown_in now) (previous_in links) (previous_in now) (next_in links) (next_in now) lists count other
        (λ i y. shown y i) (λ i y. previous y i) (λ i y. next y i) len h.listed;
  }

  -- ---- one link gets another translation, with the same entry

  module _ (x : ℕ) (k : Link) (is : links x ≡ Some k) (t : Translation) (entry : t.entry ≡ k.translation.entry) (now_is : now ≡ with_key links x (record k { translation = t })) where
    put-here : (y : ℕ) → y ≡ x → now y ≡ Some (record k { translation = t })
    put-here y same = ap (λ (m : Links). m y) now_is ∙ with_key-here links x (record k { translation = t }) y same

    put-other : (y : ℕ) → y ≢ x → now y ≡ links y
    put-other y apart = ap (λ (m : Links). m y) now_is ∙ with_key-other links x (record k { translation = t }) y apart

    put-alike : {B : Type 0} (f : Option Link → B) → f (Some (record k { translation = t })) ≡ f (Some k) → (y : ℕ) → f (now y) ≡ f (links y)
    put-alike f same y = elim (cases_eq y x) [
      | inl here ↦ ap f (put-here y here) ∙ (same ∙ ap f (sym is ∙ ap links (sym here)))
      | inr apart ↦ ap f (put-other y apart)
    ]

    -- the frame is the same
    AreLinkedInLists-same : k.translation.frame ≡ t.frame → AreLinkedInLists places lists now other
    AreLinkedInLists-same frame =
        let same : page_and_frame t ≡ page_and_frame k.translation = λ i. ((entry i).koid.0, (entry i).page, sym frame i) in
        AreLinkedInLists-alike
        (put-alike (option_map (λ (j : Link). page_and_frame j.translation)) (ap {B = Option Shown} (λ (a : Shown). Some a) same))
        (put-alike (option_map (λ (j : Link). j.place)) refl)
        (put-alike (led_to (λ j. j.previous)) refl)
        (put-alike (led_to (λ j. j.next)) refl)

    shows : shown_in links x ≡ Some (page_and_frame k.translation)
    shows = ap (option_map (λ (j : Link). page_and_frame j.translation)) is

    -- or the link is alone in its list
    AreLinkedInLists-alone : k.previous ≡ None → k.next ≡ None → AreLinkedInLists places lists now other
    AreLinkedInLists-alone previous next = record {
      placed = record {
        link = λ root p y at. put-alike (option_map (λ (j : Link). j.place)) refl y ∙ h.placed.link root p y at;
        place = λ y w at. h.placed.place y w (sym (put-alike (option_map (λ (j : Link). j.place)) refl y) ∙ at);
      };
      listed = AreLists-alike (shown_in now) (shown_in now) (previous_in links) (previous_in now) (next_in links) (next_in now) lists count other refl
          (λ i y. put-alike (led_to (λ j. j.previous)) refl y i) (λ i y. put-alike (led_to (λ j. j.next)) refl y i) len
          (AreLists-alone (shown_in links) (previous_in links) (next_in links) lists count h.listed x (page_and_frame k.translation) (page_and_frame t) shows
          (ap (λ (e : Entry). e.koid.0) (sym entry)) (ap (λ (e : Entry). e.page) (sym entry))
          (ap (led_to (λ j. j.previous)) is ∙ previous) (ap (led_to (λ j. j.next)) is ∙ next)
          (shown_in now) (ap (option_map (λ (j : Link). page_and_frame j.translation)) (put-here x refl))
          (λ z apart. ap (option_map (λ (j : Link). page_and_frame j.translation)) (put-other z apart)));
    }

    pub AreLinkedInLists-put : MayHold links t.frame x → AreLinkedInLists places lists now other
    AreLinkedInLists-put may = elim (may k is) [ inl same ↦ AreLinkedInLists-same same | inr alone ↦ AreLinkedInLists-alone alone.0 alone.1 ]

    -- then no other translation of the page of the VMO holds another frame
    pub HoldElsewhere-put : (root p : ℕ) → places root p ≡ Some x → MayHold links t.frame x → HoldElsewhere (translations_in links places) root p t
    HoldElsewhere-put root p at may r q u found apart koid page = elim (may k is) [
      | inl same ↦
          HasFrame-of places lists links count h root p k.translation (translation-of places lists links root p x k at is) r q u found
          (koid ∙ ap (λ (e : Entry). e.koid.0) entry) (page ∙ ap (λ (e : Entry). e.page) entry) ∙ same
      | inr alone ↦
          let l = linked places lists links r q u found in
          let only = alone-in_list (shown_in links) (previous_in links) (next_in links) lists count h.listed x (page_and_frame k.translation) (page_and_frame k.translation) shows refl refl
          (ap (led_to (λ j. j.previous)) is ∙ alone.0) (ap (led_to (λ j. j.next)) is ∙ alone.1) (shown_in links) shows (λ z out. refl)
          l.number (page_and_frame u) (shown-of places lists links count h r q u l) (koid ∙ ap (λ (e : Entry). e.koid.0) entry) (page ∙ ap (λ (e : Entry). e.page) entry) in
          let place = link-once places links h.placed r q root p x (l.is ∙ ap {B = Option ℕ} (λ n. Some n) only) at in
          absurd (apart place.0 place.1)
    ]

    pub translations-put : (root p : ℕ) → places root p ≡ Some x → translations_in now places ≡ with_pair (translations_in links places) root p (Some t)
    translations-put root p at = translations-with links now places places root p (Some x) (Some t) (with_pair-kept places root p (Some x) at)
        (ap (option_map (λ (j : Link). j.translation)) (put-here x refl))
        (λ r q y apart found. ap (option_map (λ (j : Link). j.translation)) (put-other y (λ same. once r q y apart found same)))
      where
        once : (r q y : ℕ) → (r ≡ root → q ≡ p → ⊥) → places r q ≡ Some y → y ≡ x → ⊥
        once r q y apart found same =
            let one = h.placed.link r q y found in
            let two = h.placed.link root p x at in
            let place = some_same (sym one ∙ (ap (place_in links) same ∙ two)) in
            apart (ap (λ (w : Place). w.root.0) place) (ap (λ (w : Place). w.page) place)

  -- ---- the links of a list are left for reading alone

  module _ (v p first : ℕ) (is : lists v p ≡ Some first) (now_is : now ≡ restricted_beside links first) where
    shown-once : (test : Bool) (k : Link) → page_and_frame (cond test (read_only k) k).translation ≡ page_and_frame k.translation
    shown-once true k = refl
    shown-once false k = refl

    place-once : (test : Bool) (k : Link) → (cond test (read_only k) k).place ≡ k.place
    place-once true k = refl
    place-once false k = refl

    previous-once : (test : Bool) (k : Link) → (cond test (read_only k) k).previous ≡ k.previous
    previous-once true k = refl
    previous-once false k = refl

    next-once : (test : Bool) (k : Link) → (cond test (read_only k) k).next ≡ k.next
    next-once true k = refl
    next-once false k = refl

    now-at : (y : ℕ) → now y ≡ option_map (λ k. cond (is_shown (shown_in links first) k) (read_only k) k) (links y)
    unfolding restricted_beside
    now-at y = ap (λ (m : Links). m y) now_is

    left_read_only-alike : {B : Type 0} (f : Option Link → B) → ((test : Bool) (k : Link) → f (Some (cond test (read_only k) k)) ≡ f (Some k)) → (y : ℕ) → f (now y) ≡ f (links y)
    left_read_only-alike f same y = ap f (now-at y) ∙ go (links y)
      where
        go : (o : Option Link) → f (option_map (λ k. cond (is_shown (shown_in links first) k) (read_only k) k) o) ≡ f o
        go None = refl
        go (Some k) = same (is_shown (shown_in links first) k) k

    pub AreLinkedInLists-restricted : AreLinkedInLists places lists now other
    AreLinkedInLists-restricted = AreLinkedInLists-alike
        (left_read_only-alike (option_map (λ (j : Link). page_and_frame j.translation)) (λ test k. ap {B = Option Shown} (λ (a : Shown). Some a) (shown-once test k)))
        (left_read_only-alike (option_map (λ (j : Link). j.place)) (λ test k. ap {B = Option Place} (λ (w : Place). Some w) (place-once test k)))
        (left_read_only-alike (led_to (λ j. j.previous)) previous-once)
        (left_read_only-alike (led_to (λ j. j.next)) next-once)

    -- the link shows the page exactly where its translation does
    shown-of_page : (k : Link) → is_shown (shown_in links first) k ≡ shows_in v p (p + 1) k.translation.entry
    shown-of_page k = ap (λ (o : Option Shown). is_shown o k) (h.listed.first v p first is).1 ∙ same k.translation.entry.koid.0 k.translation.entry.page
      where
        same : (w page : ℕ) → ((w == v) && (page == p)) ≡ ((w == v) && is_within p (p + 1) page)
        same w page = grind (arith, nat_tests)

    pub translations-restricted : translations_in now places ≡ changed_where left_read_only (is_translation_of v p (p + 1)) (translations_in links places)
    unfolding changed_where
    translations-restricted = λ i r q. at r q (places r q) i
      where
        on : (test : Bool) (k : Link) → ◌≡◌ {A = Option Translation} (Some (cond test (read_only k) k).translation) (cond test (left_read_only k.translation) (Some k.translation))
        on true k = refl
        on false k = refl

        link : (o : Option Link) → option_map (λ (j : Link). j.translation) (option_map (λ k. cond (is_shown (shown_in links first) k) (read_only k) k) o)
            ≡ become left_read_only (λ t. shows_in v p (p + 1) t.entry) (option_map (λ (j : Link). j.translation) o)
        link None = refl
        link (Some k) = on (is_shown (shown_in links first) k) k ∙ ap (λ b. cond b (left_read_only k.translation) (Some k.translation)) (shown-of_page k)

        at : (r q : ℕ) (o : Option ℕ) → translation_at now o ≡ become left_read_only (is_translation_of v p (p + 1) r q) (translation_at links o)
        at r q None = refl
        at r q (Some y) = ap (option_map (λ (j : Link). j.translation)) (now-at y) ∙ link (links y)

-- ---- one link of a list after another is left for reading alone

-- The links that show the page are restricted, but for those from one on.
pub record AreRestricted (old now : Links) (page : Option Shown) (at : Option ℕ) : Type 0 where
  pub free : (x : ℕ) → old x ≡ None → now x ≡ None
  pub other : (x : ℕ) (k : Link) → old x ≡ Some k → is_shown page k ≡ false → now x ≡ Some k
  pub member : (x : ℕ) (k : Link) → old x ≡ Some k → is_shown page k ≡ true
      → (now x ≡ Some (read_only k)) ⊎ ((now x ≡ Some k) × ((n : ℕ) × (ahead (next_in old) n at ≡ Some x)))
  pub here : (x : ℕ) → at ≡ Some x → (k : Link) × (old x ≡ Some k) × (is_shown page k ≡ true)

module _ (old : Links) (lists : ℕ → ℕ → Option ℕ) (count : ℕ) (h : AreLists (shown_in old) (previous_in old) (next_in old) lists count) where
  -- a link shows the page of another exactly where both are in its list
  shown-at : (x : ℕ) (k : Link) (a : Shown) → old x ≡ Some k → shown_in old x ≡ Some a → page_and_frame k.translation ≡ a
  shown-at x k a is shows = some_same (sym (ap (option_map (λ (j : Link). page_and_frame j.translation)) is) ∙ shows)

  module _ (v p first : ℕ) (is : lists v p ≡ Some first) where
    page-shown : (frame : Option Tag) → shown_in old first ≡ Some (v, p, frame) → (k : Link) → is_shown (shown_in old first) k ≡ true → (k.translation.entry.koid.0 ≡ v) × (k.translation.entry.page ≡ p)
    page-shown frame shows k e =
        let both = and_parts (k.translation.entry.koid.0 == v) (k.translation.entry.page == p) (sym (ap (λ (o : Option Shown). is_shown o k) shows) ∙ e) in
        (eqb_is k.translation.entry.koid.0 v both.0, eqb_is k.translation.entry.page p both.1)

    shown-page : (frame : Option Tag) → shown_in old first ≡ Some (v, p, frame) → (k : Link) → k.translation.entry.koid.0 ≡ v → k.translation.entry.page ≡ p → is_shown (shown_in old first) k ≡ true
    shown-page frame shows k koid page =
        ap (λ (o : Option Shown). is_shown o k) shows
        ∙ and_from (k.translation.entry.koid.0 == v) (k.translation.entry.page == p) (eq-eqb k.translation.entry.koid.0 v koid) (eq-eqb k.translation.entry.page p page)

    -- none is restricted at first
    pub AreRestricted-start : AreRestricted old old (shown_in old first) (Some first)
    AreRestricted-start =
        let begin = h.first v p first is in
        record {
          free = λ x e. e;
          other = λ x k e off. e;
          member = λ x k e on.
              let page = page-shown begin.0 begin.1 k on in
              let way = reached (shown_in old) (previous_in old) (next_in old) lists count h x (page_and_frame k.translation) (ap (option_map (λ (j : Link). page_and_frame j.translation)) e) in
              let same : way.first ≡ first = some_same (sym way.is ∙ (ap (λ w. lists w k.translation.entry.page) page.0 ∙ (ap (lists v) page.1 ∙ is))) in
              inr (e, (way.steps, ap (λ f. ahead (next_in old) way.steps (Some f)) (sym same) ∙ way.reach));
          here = λ x e.
              let same : first ≡ x = some_same e in
              let shows : shown_in old x ≡ Some (v, p, begin.0) = ap (shown_in old) (sym same) ∙ begin.1 in
              let k = found (old x) (ap {B = Bool} is_some shows) in
              let says = shown-at x k.0 (v, p, begin.0) k.1 shows in
              (k.0, k.1, shown-page begin.0 begin.1 k.0 (ap (λ (a : Shown). a.0) says) (ap (λ (a : Shown). a.1) says));
        }
      where
        found : (o : Option Link) → IsSome (option_map (λ (j : Link). page_and_frame j.translation) o) → (k : Link) × (o ≡ Some k)
        found None e = absurd cc
        found (Some k) e = (k, refl)

    -- the next one is
    module _ (now : Links) (x : ℕ) (r : AreRestricted old now (shown_in old first) (Some x)) where
      -- the link is as it was, but perhaps for its readiness
      pub AreRestricted-there : IsSome (now x)
      AreRestricted-there =
          let here = r.here x refl in
          elim (r.member x here.0 here.1 here.2) [ inl done ↦ ap {B = Bool} is_some done | inr as_was ↦ ap {B = Bool} is_some as_was.0 ]

      same-next : (j : Link) → now x ≡ Some j → j.next ≡ next_in old x
      same-next j at =
          let here = r.here x refl in
          elim (r.member x here.0 here.1 here.2) [
            | inl done ↦ ap (λ (k : Link). k.next) (some_same (sym at ∙ done)) ∙ sym (ap (led_to (λ k. k.next)) here.1)
            | inr as_was ↦ ap (λ (k : Link). k.next) (some_same (sym at ∙ as_was.0)) ∙ sym (ap (led_to (λ k. k.next)) here.1)
          ]

      same-read : (j : Link) → now x ≡ Some j → read_only j ≡ read_only (r.here x refl).0
      same-read j at =
          let here = r.here x refl in
          elim (r.member x here.0 here.1 here.2) [
            | inl done ↦ ap read_only (some_same (sym at ∙ done))
            | inr as_was ↦ ap read_only (some_same (sym at ∙ as_was.0))
          ]

      pub AreRestricted-next : (j : Link) (new : Links) → now x ≡ Some j → new ≡ with_key now x (read_only j) → AreRestricted old new (shown_in old first) j.next
      AreRestricted-next j new at e =
          let here = r.here x refl in
          let other : (z : ℕ) → z ≢ x → new z ≡ now z = λ z apart. ap (λ (m : Links). m z) e ∙ with_key-other now x (read_only j) z apart in
          record {
            free = λ z none. other z (λ same. missing here.1 (ap old (sym same) ∙ none)) ∙ r.free z none;
            other = λ z k is_old off. elim (cases_eq z x) [
              | inl same ↦
                  let one : here.0 ≡ k = some_same (sym here.1 ∙ (ap old (sym same) ∙ is_old)) in
                  absurd (both_ways (is_shown (shown_in old first) k) off (ap (is_shown (shown_in old first)) (sym one) ∙ here.2))
              | inr apart ↦ other z apart ∙ r.other z k is_old off
            ];
            member = λ z k is_old on. elim (cases_eq z x) [
              | inl same ↦
                  let one : here.0 ≡ k = some_same (sym here.1 ∙ (ap old (sym same) ∙ is_old)) in
                  inl (ap (λ (m : Links). m z) e ∙ (with_key-here now x (read_only j) z same
                  ∙ ap {B = Option Link} (λ (l : Link). Some l) (same-read j at ∙ ap read_only one)))
              | inr apart ↦ elim (r.member z k is_old on) [
                | inl done ↦ inl (other z apart ∙ done)
                | inr as_was ↦ inr (other z apart ∙ as_was.0, behind z (λ same. apart (sym same)) as_was.1.0 as_was.1.1)
              ]
            ];
            here = λ z follows.
                let follow : next_in old x ≡ Some z = sym (same-next j at) ∙ follows in
                let shows = behind-shown (shown_in old) (previous_in old) (next_in old) lists count h x z follow in
                let says : shown_in old z ≡ Some (page_and_frame here.0.translation) = shows ∙ ap (option_map (λ (k : Link). page_and_frame k.translation)) here.1 in
                let k = found (old z) (ap {B = Bool} is_some says) in
                let same = shown-at z k.0 (page_and_frame here.0.translation) k.1 says in
                let begin = h.first v p first is in
                let page = page-shown begin.0 begin.1 here.0 here.2 in
                (k.0, k.1, shown-page begin.0 begin.1 k.0 (ap (λ (a : Shown). a.0) same ∙ page.0) (ap (λ (a : Shown). a.1) same ∙ page.1));
          }
        where
          found : (o : Option Link) → IsSome (option_map (λ (k : Link). page_and_frame k.translation) o) → (k : Link) × (o ≡ Some k)
          found None none = absurd cc
          found (Some k) some = (k, refl)

          behind : (z : ℕ) → (x ≡ z → ⊥) → (n : ℕ) → ahead (next_in old) n (Some x) ≡ Some z → (m : ℕ) × (ahead (next_in old) m j.next ≡ Some z)
          behind z apart zero reach = absurd (apart (some_same reach))
          behind z apart (suc n) reach = (n, ap (ahead (next_in old) n) (same-next j at) ∙ reach)

      -- and there are fewer ahead
      pub AreRestricted-less : (j : Link) → now x ≡ Some j → steps_from (next_in old) count j.next < steps_from (next_in old) count (Some x)
      AreRestricted-less j at =
          let here = r.here x refl in
          subst (λ (o : Option ℕ). steps_from (next_in old) count o < steps_from (next_in old) count (Some x)) (sym (same-next j at))
          (steps-less (shown_in old) (previous_in old) (next_in old) lists count h count x refl (ap {B = Bool} is_some (ap (option_map (λ (k : Link). page_and_frame k.translation)) here.1)))

    -- and where none is left, all are
    pub AreRestricted-end : (now : Links) (at : Option ℕ) → at ≡ None → AreRestricted old now (shown_in old first) at → now ≡ restricted_beside old first
    unfolding restricted_beside
    AreRestricted-end now at none r = λ i x. all x i
      where
        past : (x n : ℕ) (o : Option ℕ) → o ≡ None → ahead (next_in old) n o ≡ Some x → ⊥
        past x zero None e reach = absurd cc
        past x (suc n) None e reach = absurd cc
        past x n (Some y) e reach = absurd cc

        all : (x : ℕ) → now x ≡ option_map (λ k. cond (is_shown (shown_in old first) k) (read_only k) k) (old x)
        all x = go (old x) refl
          where
            go : (o : Option Link) → old x ≡ o → now x ≡ option_map (λ k. cond (is_shown (shown_in old first) k) (read_only k) k) o
            go None e = r.free x e
            go (Some k) e = elim (cases_Bool (is_shown (shown_in old first) k)) [
              | inl on ↦ rw on (elim (r.member x k e on) [
                | inl done ↦ done
                | inr as_was ↦ absurd (past x as_was.1.0 at none as_was.1.1)
              ])
              | inr off ↦ rw off (r.other x k e off)
            ]

-- ---- one link of a list after another is forgotten

-- each translation is as it was, or is one of the page of the VMO and gone
abbrev pub AreDropped : (v p : ℕ) → (old new : Places) → Type 0
AreDropped v p old new = (r q : ℕ) → (new r q ≡ old r q) ⊎ ((new r q ≡ None) × ((x : Translation) → old r q ≡ Some x → is_translation_of v p (p + 1) r q x ≡ true))

-- none is gone at first
pub AreDropped-start : (v p : ℕ) (old : Places) → AreDropped v p old old
AreDropped-start v p old = λ r q. inl refl

page-of : (v p w page : ℕ) → w ≡ v → page ≡ p → ((w == v) && is_within p (p + 1) page) ≡ true
page-of v p w page koid page_is = grind (arith, nat_tests)

of-page : (v p w page : ℕ) → ((w == v) && is_within p (p + 1) page) ≡ true → (w ≡ v) × (page ≡ p)
of-page v p w page e = grind (arith, nat_tests)

module _ (places rest : ℕ → ℕ → Option ℕ) (links : Links) (count v p : ℕ) (at : Option ℕ) (h : AreLinkedInLists places (with_pair rest v p at) links count) where
  -- the list begins with it
  pub lists-here : (x : ℕ) → at ≡ Some x → with_pair rest v p at v p ≡ Some x
  lists-here x is_at = elim (with_pair-cases rest v p at v p) [ inl here ↦ here.2 ∙ is_at | inr there ↦ absurd (there.0 refl refl) ]

  -- the first of those that are left goes
  module _ (x : ℕ) (is_at : at ≡ Some x) (k : Link) (is : links x ≡ Some k) where
    page-here : (k.translation.entry.koid.0 ≡ v) × (k.translation.entry.page ≡ p)
    page-here =
        let first = h.listed.first v p x (lists-here x is_at) in
        let says : page_and_frame k.translation ≡ (v, p, first.0) = some_same (sym (ap (option_map (λ (j : Link). page_and_frame j.translation)) is) ∙ first.1) in
        (ap (λ (a : Shown). a.0) says, ap (λ (a : Shown). a.1) says)

    place-here : places k.place.root.0 k.place.page ≡ Some x
    place-here = h.placed.place x k.place (ap (option_map (λ (j : Link). j.place)) is)

    pub previous-none : previous_in links x ≡ None
    previous-none = (h.listed.first v p x (lists-here x is_at)).2

    pub place-there : IsSome (places k.place.root.0 k.place.page)
    place-there = ap {B = Bool} is_some place-here

    module _ (fewer : ℕ → ℕ → Option ℕ) (fewer_is : fewer ≡ with_pair places k.place.root.0 k.place.page None) (now : Links) (now_is : now ≡ unlinked links x) (len : ℕ) (one_less : len + 1 ≡ count) where
      pub AreLinkedInLists-next : AreLinkedInLists fewer (with_pair rest v p k.next) now len
      AreLinkedInLists-next = AreLinkedInLists-left places (with_pair rest v p at) links count h x k is k.place.root.0 k.place.page place-here fewer fewer_is now now_is len one_less
          (with_pair rest v p k.next)
          (λ first. sym (with_pair-over rest v p at k.next) ∙ (λ i. with_pair (with_pair rest v p at) (sym page-here.0 i) (sym page-here.1 i) (sym (ap (led_to (λ j. j.next)) is) i)))
          (λ y before. absurd (missing before previous-none))

      pub AreDropped-next : (old : Places) → AreDropped v p old (translations_in links places) → AreDropped v p old (translations_in now fewer)
      AreDropped-next old done r q = elim (with_pair-cases (translations_in links places) k.place.root.0 k.place.page None r q) [
        | inl here ↦ inr (
          ap (λ (m : Places). m r q) gone ∙ here.2,
          λ t was. elim (done r q) [
            | inl same ↦
                let one : k.translation ≡ t = some_same (sym (ap (λ n. translations_in links places n q) here.0
                ∙ (ap (translations_in links places k.place.root.0) here.1 ∙ translation-of places rest links k.place.root.0 k.place.page x k place-here is)) ∙ (same ∙ was)) in
                page-of v p t.entry.koid.0 t.entry.page (ap (λ (u : Translation). u.entry.koid.0) (sym one) ∙ page-here.0) (ap (λ (u : Translation). u.entry.page) (sym one) ∙ page-here.1)
            | inr dropped ↦ dropped.1 t was
          ],
        )
        | inr there ↦ elim (done r q) [
          | inl same ↦ inl (ap (λ (m : Places). m r q) gone ∙ (there.1 ∙ same))
          | inr dropped ↦ inr (ap (λ (m : Places). m r q) gone ∙ (there.1 ∙ dropped.0), dropped.1)
        ]
      ]
        where
          gone : translations_in now fewer ≡ with_pair (translations_in links places) k.place.root.0 k.place.page None
          gone = translations-left places (with_pair rest v p at) links count h x k is k.place.root.0 k.place.page place-here fewer fewer_is now now_is len one_less

  -- where no link is left, all translations of the page are gone
  pub AreDropped-end : at ≡ None → (old : Places) → AreDropped v p old (translations_in links places) → translations_in links places ≡ changed_where dropped (is_translation_of v p (p + 1)) old
  unfolding changed_where
  AreDropped-end none old done = λ i r q. at_place r q i
    where
      lists-none : with_pair rest v p at v p ≡ None
      lists-none = elim (with_pair-cases rest v p at v p) [ inl here ↦ here.2 ∙ none | inr there ↦ absurd (there.0 refl refl) ]

      stays : (r q : ℕ) (o : Option Translation) → old r q ≡ o → translations_in links places r q ≡ old r q → translations_in links places r q ≡ become dropped (is_translation_of v p (p + 1) r q) o
      stays r q None e same = same ∙ e
      stays r q (Some t) e same = elim (cases_Bool (is_translation_of v p (p + 1) r q t)) [
        | inl on ↦
            let page = of-page v p t.entry.koid.0 t.entry.page on in
            absurd (list-missing places (with_pair rest v p at) links count h v p r q t lists-none (same ∙ e) page.0 page.1)
        | inr off ↦ rw off (same ∙ e)
      ]

      goes : (r q : ℕ) (o : Option Translation) → old r q ≡ o → translations_in links places r q ≡ None → ((t : Translation) → old r q ≡ Some t → is_translation_of v p (p + 1) r q t ≡ true)
          → translations_in links places r q ≡ become dropped (is_translation_of v p (p + 1) r q) o
      goes r q None e gone on = gone
      goes r q (Some t) e gone on = gone ∙ rw (on t e) refl

      at_place : (r q : ℕ) → translations_in links places r q ≡ become dropped (is_translation_of v p (p + 1) r q) (old r q)
      at_place r q = elim (done r q) [
        | inl same ↦ stays r q (old r q) refl same
        | inr gone ↦ goes r q (old r q) refl gone.0 gone.1
      ]

-- the row of a list, as it is
pub AreLinkedInLists-at : (places lists : ℕ → ℕ → Option ℕ) (links : Links) (count v p : ℕ) (at : Option ℕ) → AreLinkedInLists places lists links count → lists v p ≡ at
    → AreLinkedInLists places (with_pair lists v p at) links count
AreLinkedInLists-at places lists links count v p at h is = subst (λ (m : ℕ → ℕ → Option ℕ). AreLinkedInLists places m links count) (with_pair-kept lists v p at is) h
