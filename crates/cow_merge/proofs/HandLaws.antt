-- The list of a hidden node goes over to one of its children: each page of it is as if its row had moved into the child's list.
use Rattle.cow_merge.proofs.Words.{◌≡◌, ◌≢◌, ℕ, zero, suc, ◌+◌, ◌-◌, ◌<◌, ◌≤◌, Bool, true, false, if◌then◌else◌, Option, None, Some, IsSome}
use Rattle.cow_merge.proofs.Words.{◌⊎◌, refl, sym, ap, subst, ◌∙◌, inl, inr, arith, is_some, not, ◌==◌, and_from, ne_eqb, cases_Bool}
use Rattle.cow_merge.proofs.Words.{cases_eq, cases_lt, with_pair, HasNone, has_row, IsNext, Rows, Koid, Tag, some_same, slots_of, row_count, Row, Slot, Node}
use Rattle.cow_merge.proofs.Words.{Side, Arena, nodes_of, other_side, side_of, exchanged, Slots, Tree, tree_with, frame_in, Reaches}
use Rattle.cow_merge.proofs.Words.{KeepsBelow, IsPartOf, tree_of, with_row, reached_from, without_frame, Pool, taken_frames, is_taken}
use Rattle.cow_merge.proofs.Words.{links_of, bit_on, AreLinked, GivesBack, HasGiven, Accounts, Moves, IsLifting, IsBefore, AreLifted}
use Rattle.cow_merge.proofs.Words.{SeesRow, IsMoved, is_row_of_frame, KeepsFamily, Pages, AreShared, frame_there, AreSeenFrom}
use Rattle.cow_merge.proofs.Words.{IsHandingOver}
use Rattle.cow_arena.proofs.AlikeLaws.{with_pair-same, with_pair-other}
use Rattle.cow_arena.proofs.RisesSplicedLaws.{below-same, below-gone, below-fewer, below-then}
use Rattle.cow_arena.proofs.RenamedLaws.{exchanged-first, exchanged-second, exchanged-other}
use Rattle.cow_split.proofs.ExactLaws.{cases_place}
use Rattle.cow_split.proofs.RowLaws.{exact-in_use_alike, with_row-twice}
use Rattle.cow_merge.proofs.RangeLaws.{gives-then, accounts-same, accounts-then, moves-as}
use Rattle.cow_merge.proofs.LiftedLaws.{linked-placed, family-lists, row-sees, row-bit, row-bit_below, without-none, lifted-gone}
use Rattle.cow_merge.proofs.LiftedLaws.{lifted-moved, HasLiftedOn}
use Rattle.cow_merge.proofs.SharingLaws.{some-left, reached-below, reached-found}
use Rattle.cow_split.proofs.PartLaws.{part-none}
use Rattle.cow_split.proofs.CutLaws.{page-over}

-- both bits are clear
both-clear : (from : Side) (left right : Bool) → bit_on from left right ≡ false → bit_on (other_side from) left right ≡ false → (left ≡ false) × (right ≡ false)
both-clear Side.Left left right one other = (one, other)
both-clear Side.Right left right one other = (other, one)

-- what holds of the two lists, and of each other one, holds of each as it is exchanged
by-exchange : (P : ℕ → ℕ → Type 0) (a b : ℕ) → P a b → P b a → ((l : ℕ) → l ≢ a → l ≢ b → P l l) → (l : ℕ) → P l (exchanged a b l)
by-exchange P a b first second other l = elim (cases_eq l a) [
  | inl here ↦ subst (λ x. P x (exchanged a b x)) (sym here) (subst (P a) (sym (exchanged-first a b)) first)
  | inr l_a ↦ elim (cases_eq l b) [
    | inl there ↦ subst (λ x. P x (exchanged a b x)) (sym there) (subst (P b) (sym (exchanged-second a b)) second)
    | inr l_b ↦ subst (P l) (sym (exchanged-other a b l l_a l_b)) (other l l_a l_b)
  ]
]

-- the pool is another, in which the same frames are taken
lifted-pool : (arena : Arena) (slots : Slots) (between after : Pool) (k h : ℕ) (node : Node) → AreLifted arena slots between k h node →
    ((x : ℕ) → is_taken after x ≡ is_taken between x) → AreLifted arena slots after k h node
lifted-pool arena slots between after k h node was taken = record {
  out = was.out;
  exact = exact-in_use_alike (tree_with (nodes_of arena) arena.lists slots) was.out (is_taken between) (is_taken after) (λ x. sym (taken x)) was.exact;
  only = was.only;
  bare = was.bare;
  held = was.held;
}

-- ---- one row that is put

-- no row changes where there is none
pub without-none-there : (slots : Slots) (l q : ℕ) → slots l q ≡ None → slots ≡ with_pair slots l q None
without-none-there slots l q none = λ i m r. each m r i
  where
    each : (m r : ℕ) → slots m r ≡ with_pair slots l q None m r
    each m r = elim (cases_place l q m r) [
      | inl here ↦
          (ap (λ x. slots x r) here.0 ∙ (ap (slots l) here.1 ∙ none))
          ∙ sym (ap (λ x. with_pair slots l q None x r) here.0 ∙ (ap (with_pair slots l q None l) here.1 ∙ with_pair-same slots l q None))
      | inr differs ↦ sym (with_pair-other slots l q None m r (λ x y. differs (x, y)))
    ]

-- a frame that did not go is still in use
still-used : (in_use : ℕ → Bool) (frame : Option ℕ) (tag : ℕ) → in_use tag ≡ true → (frame ≡ Some tag → ⊥) → without_frame in_use frame tag ≡ true
unfolding without_frame
still-used in_use None tag used apart = used
still-used in_use (Some other) tag used apart =
    and_from (not (tag == other)) (in_use tag) (ap not (ne_eqb tag other (λ same. apart (ap Some (sym same))))) used

-- the frame of the row that is put is taken
pub put-taken : (before between : Pool) (frame : Option ℕ) (tag : ℕ) → HasGiven before between frame → IsSome (taken_frames before tag) →
    (frame ≡ Some tag → ⊥) → IsSome (taken_frames between tag)
put-taken before between frame tag given taken apart = given.taken tag ∙ still-used (is_taken before) frame tag taken apart

-- the page has no row then, so that one can be put
pub put-free : (old mid : Slots) (l q : ℕ) → mid ≡ with_pair old l q None → mid l q ≡ None
put-free old mid l q gone = ap (λ (x : Slots). x l q) gone ∙ with_pair-same old l q None

-- of two slots of a page the second stays
put-twice : (slots : Slots) (l q : ℕ) (first second : Option Slot) → with_pair (with_pair slots l q first) l q second ≡ with_pair slots l q second
put-twice slots l q first second = ap (λ (u : Tree). u.slots) (with_row-twice (tree_with (λ k. None) 0 slots) l q first second)

-- ---- one page

-- One page more has gone over.
module _ (arena : Arena) (old new late : Rows Row) (before after last : Pool) (k h s q : ℕ) (was : IsHandingOver arena old new before after k h s (Some q))
    (slots : Slots) (next : HasLiftedOn arena was.slots slots last k h s was.of) (others : (l p : ℕ) → p ≢ q → slots l p ≡ was.slots l p)
    (gone : slots was.of.parent.list.0 q ≡ None) (beside : (l p : ℕ) → p ≢ q → slots_of late l p ≡ slots_of new l p)
    (here : (l : ℕ) → slots_of late l q ≡ slots (exchanged was.of.parent.list.0 was.of.sibling.list.0 l) q) where
  was-row : (p : ℕ) (row : Slot) → slots was.of.parent.list.0 p ≡ Some row → was.slots was.of.parent.list.0 p ≡ Some row
  was-row p row at = elim (cases_eq p q) [
    | inl same ↦ absurd (let none = ap (slots was.of.parent.list.0) same ∙ gone in cc)
    | inr apart ↦ sym (others was.of.parent.list.0 p apart) ∙ at
  ]

  over-next : Accounts new late after last → IsHandingOver arena old late before last k h s (Some (q + 1))
  over-next accounts = record {
    of = was.of;
    slots = slots;
    lifted = next.lifted;
    shows = λ w p page before. next.shows w p (page-over (tree_of arena old) was.slots w p page) before ∙ was.shows w p page before;
    below = below-then (slots_of old) was.slots slots was.of.parent was.of.sibling (family-lists arena k h s was.lifted.exact.forest was.of).2 was.below next.below;
    first = was.first;
    shared = λ none p some from.
        reached-below (tree_with (nodes_of arena) arena.lists was.slots) was.lifted.exact.forest slots was.of.parent was.of.sibling s was.of.family.sibling_at
        next.below from p (was.shared none p (some-left (was.slots was.of.parent.list.0 p) (slots was.of.parent.list.0 p) (was-row p) some) from);
    passed = λ l p less. elim (cases_eq p q) [
      | inl same ↦ subst (λ x. slots_of late l x ≡ slots (exchanged was.of.parent.list.0 was.of.sibling.list.0 l) x) (sym same) (here l)
      | inr apart ↦
          beside l p apart
          ∙ (was.passed l p (omega arith) ∙ sym (others (exchanged was.of.parent.list.0 was.of.sibling.list.0 l) p apart))
    ];
    ahead = λ l p past.
        let apart : p ≢ q = λ same. past (omega arith) in
        beside l p apart ∙ (was.ahead l p (λ less. past (omega arith)) ∙ sym (others l p apart));
    empty = λ p less. elim (cases_eq p q) [
      | inl same ↦ ap (slots was.of.parent.list.0) same ∙ gone
      | inr apart ↦ others was.of.parent.list.0 p apart ∙ was.empty p (omega arith)
    ];
    inside = λ p some. elim (cases_eq p q) [
      | inl same ↦ absurd (let none = ap is_some (ap (slots was.of.parent.list.0) same ∙ gone) in cc)
      | inr apart ↦ was.inside p (ap is_some (sym (others was.of.parent.list.0 p apart)) ∙ some)
    ];
    seen = λ end. record { bit = λ p tag left right least less at. (was.seen end).bit p tag left right least less (was-row p (Slot.Frame tag left right) at) };
    accounts = accounts-then was.accounts accounts;
  }

module _ (arena : Arena) (old new : Rows Row) (before after : Pool) (k h s q : ℕ) (was : IsHandingOver arena old new before after k h s (Some q)) where
  abbrev up : ℕ
  up = was.of.parent.list.0

  abbrev own : ℕ
  own = was.of.sibling.list.0

  abbrev now_tree : Tree
  now_tree = tree_with (nodes_of arena) arena.lists was.slots

  apart-lists : own ≢ up
  apart-lists same = (family-lists arena k h s was.lifted.exact.forest was.of).2 (sym same)

  -- no row of this page has gone over yet
  here : (l : ℕ) → slots_of new l q ≡ was.slots l q
  here l = was.ahead l q (λ less. absurd (omega arith))

  its-page : q - was.of.sibling.first ≡ q
  its-page = omega (arith, was.first)

  -- the child has no row of its own there
  module _ (free : slots_of new own q ≡ None) where
    free-there : was.slots own q ≡ None
    free-there = sym (here own) ∙ free

    sees-it : (row : Slot) → was.slots up q ≡ Some row → SeesRow was.slots was.of.sibling q
    sees-it row has = record {
      from = omega (arith, was.first);
      inside = omega (arith, was.first, was.inside q (ap is_some has));
      free = subst (λ x. was.slots own x ≡ None) (sym its-page) free-there;
    }

    its-bit : (row : Slot) → was.slots up q ≡ Some row → (tag : Tag) (left right : Bool) → row ≡ Slot.Frame tag left right →
        bit_on (other_side (side_of was.of.parent k)) left right ≡ false
    its-bit row has tag left right e = by_koid was.of.sibling.koid refl
      where
        by_koid : (o : Option Koid) → was.of.sibling.koid ≡ o → bit_on (other_side (side_of was.of.parent k)) left right ≡ false
        by_koid (Some koid) is =
            row-bit now_tree k h s was.of.node was.of.parent was.of.sibling was.of.family was.of.visible q row has was.lifted.out (is_taken after) was.lifted.exact
            was.lifted.only tag left right e (record { at = was.of.family.sibling_at; koid = ap is_some is }) (sees-it row has)
        by_koid None is =
            let it = was.shared is q (ap is_some has) Side.Left in
            row-bit_below now_tree k h s was.of.node was.of.parent was.of.sibling was.of.family was.of.visible q row has was.lifted.out (is_taken after)
            was.lifted.exact was.lifted.only tag left right e it.v it.p Side.Left it.page
            (subst (λ x. Reaches now_tree it.v it.p Side.Left s x) (sym its-page) it.way) (sees-it row has)

    -- its bits are clear
    clear : (row : Slot) → was.slots up q ≡ Some row → (tag : Tag) (left right : Bool) → row ≡ Slot.Frame tag left right → (left ≡ false) × (right ≡ false)
    clear row has tag left right e =
        both-clear (side_of was.of.parent k) left right ((was.seen (q + 1)).bit q tag left right (omega arith) (omega arith) (has ∙ ap Some e)) (its-bit row has tag left right e)

    -- if the child is hidden, VMOs on both sides of it see the row
    found : (row : Slot) → was.slots up q ≡ Some row → was.of.sibling.koid ≡ None → (from : Side) →
        reached_from (with_row now_tree up q None) None from s (q - was.of.sibling.first) ≡ true
    found row has none from =
        subst (λ x. reached_from (with_row now_tree up q None) None from s x ≡ true) (sym its-page)
        (reached-found (with_row now_tree up q None) was.lifted.exact.forest from s q
        (reached-below now_tree was.lifted.exact.forest (with_pair was.slots up q None) was.of.parent was.of.sibling s was.of.family.sibling_at
        (below-gone was.slots was.of.parent was.of.sibling q) from q (was.shared none q (ap is_some has) from)))

    -- a row with a frame is the one that the child would have
    same-row : (row : Slot) → was.slots up q ≡ Some row → IsMoved (with_row now_tree up q None) s (q - was.of.sibling.first) was.of.sibling row row
    same-row row has = record {
      frame = refl;
      plain = λ tag left right e _. clear row has tag left right e;
      split = λ tag left right e none.
          let bits = clear row has tag left right e in
          (bits.0 ∙ sym (ap not (found row has none Side.Left)), bits.1 ∙ sym (ap not (found row has none Side.Right)));
    }

    abbrev moved : Slot → Slots
    moved row = with_pair (with_pair was.slots up q None) own q (Some row)

    lifted-same : (row : Slot) → was.slots up q ≡ Some row → HasLiftedOn arena was.slots (moved row) after k h s was.of
    lifted-same row has =
        subst (λ x. HasLiftedOn arena was.slots (with_pair (with_pair was.slots up q None) own x (Some row)) after k h s was.of) its-page
        (lifted-moved arena was.slots after after k h s was.of q row was.lifted has row (sees-it row has) (its-bit row has)
        (same-row row has) (λ x. refl))

    moved-up : (row : Slot) → moved row up q ≡ None
    moved-up row =
        with_pair-other (with_pair was.slots up q None) own q (Some row) up q (λ list _. apart-lists (sym list)) ∙ with_pair-same was.slots up q None

    pub over-passed : IsHandingOver arena old new before after k h s (Some (q + 1))
    over-passed = by_row (was.slots up q) refl
      where
        by_row : (o : Option Slot) → was.slots up q ≡ o → IsHandingOver arena old new before after k h s (Some (q + 1))
        by_row None none = over-next arena old new new before after after k h s q was was.slots
            (record { lifted = was.lifted; shows = λ w p page before. refl; below = below-same was.slots was.of.parent was.of.sibling })
            (λ l p apart. refl) none (λ l p apart. refl)
            (λ l. here l
            ∙ by-exchange (λ a b. was.slots a q ≡ was.slots b q) up own (none ∙ sym free-there) (free-there ∙ sym none) (λ l l_a l_b. refl) l)
            (accounts-same new after)
        by_row (Some row) has = over-next arena old new new before after after k h s q was (moved row) (lifted-same row has)
            (λ l p apart.
            with_pair-other (with_pair was.slots up q None) own q (Some row) l p (λ _ page. apart page)
            ∙ with_pair-other was.slots up q None l p (λ _ page. apart page))
            (moved-up row) (λ l p apart. refl)
            (λ l. here l
            ∙ by-exchange (λ a b. was.slots a q ≡ moved row b q) up own
            (has ∙ sym (with_pair-same (with_pair was.slots up q None) own q (Some row)))
            (free-there ∙ sym (moved-up row))
            (λ l l_a l_b. sym (with_pair-other (with_pair was.slots up q None) own q (Some row) l q (λ list _. l_b list)
            ∙ with_pair-other was.slots up q None l q (λ list _. l_a list))) l)
            (accounts-same new after)

  -- its own row there was taken out, and put into the list of its parent
  module _ (mid late : Rows Row) (last : Pool) (row : Slot) (has : slots_of new own q ≡ Some row) (taken_out : slots_of mid ≡ with_pair (slots_of new) own q None)
      (put : slots_of late ≡ with_pair (slots_of mid) up q (Some row))
      (taken : (x : ℕ) → is_taken last x ≡ without_frame (is_taken after) (frame_there (slots_of mid up q)) x)
      (links : (x : ℕ) → links_of last x ≡ (if is_row_of_frame x row then record { list = up; page = q } else links_of after x)) where
    has-there : was.slots own q ≡ Some row
    has-there = sym (here own) ∙ has

    -- the row of the parent is as it was
    under : slots_of mid up q ≡ was.slots up q
    under =
        ap (λ (x : Slots). x up q) taken_out
        ∙ (with_pair-other (slots_of new) own q None up q (λ list _. apart-lists (sym list)) ∙ here up)

    taken-now : (x : ℕ) → is_taken last x ≡ without_frame (is_taken after) (frame_there (was.slots up q)) x
    taken-now x = taken x ∙ ap (λ (o : Option Slot). without_frame (is_taken after) (frame_there o) x) under

    late-is : slots_of late ≡ with_pair (with_pair (slots_of new) own q None) up q (Some row)
    late-is = put ∙ ap (λ (x : Slots). with_pair x up q (Some row)) taken_out

    late-other : (l p : ℕ) → ((l ≡ up) × (p ≡ q) → ⊥) → ((l ≡ own) × (p ≡ q) → ⊥) → slots_of late l p ≡ slots_of new l p
    late-other l p not_up not_own =
        ap (λ (x : Slots). x l p) late-is
        ∙ (with_pair-other (with_pair (slots_of new) own q None) up q (Some row) l p (λ list page. not_up (list, page))
        ∙ with_pair-other (slots_of new) own q None l p (λ list page. not_own (list, page)))

    late-up : slots_of late up q ≡ Some row
    late-up = ap (λ (x : Slots). x up q) late-is ∙ with_pair-same (with_pair (slots_of new) own q None) up q (Some row)

    pub late-own : slots_of late own q ≡ None
    late-own =
        ap (λ (x : Slots). x own q) late-is
        ∙ (with_pair-other (with_pair (slots_of new) own q None) up q (Some row) own q (λ list _. apart-lists list)
        ∙ with_pair-same (slots_of new) own q None)

    -- a row is the one that was put, or it was there
    put-or-was : (m r : ℕ) (other : Slot) → slots_of late m r ≡ Some other →
        ((m ≡ up) × (r ≡ q) × (other ≡ row)) ⊎ (((m ≡ own) × (r ≡ q) → ⊥) × (slots_of new m r ≡ Some other))
    put-or-was m r other e = elim (cases_place up q m r) [
      | inl here ↦ inl (here.0, here.1, some_same (sym e ∙ (ap (λ x. slots_of late x r) here.0 ∙ (ap (slots_of late up) here.1 ∙ late-up))))
      | inr not_up ↦ elim (cases_place own q m r) [
        | inl there ↦ absurd (let none = ap (λ x. slots_of late x r) there.0 ∙ (ap (slots_of late own) there.1 ∙ late-own) in cc)
        | inr not_own ↦ inr (not_own, sym (late-other m r not_up not_own) ∙ e)
      ]
    ]

    put-linked : AreLinked new after → AreLinked late last
    put-linked = linked-placed new late after last up q own q row row has refl links put-or-was

    -- a row of the parent under it goes
    covers : (other : Slot) → SeesRow was.slots was.of.sibling q → ⊥
    covers other sees = absurd (let none = subst (λ x. was.slots own x ≡ None) its-page sees.free in let some = has-there in cc)

    here-now : (slots : Slots) → slots own q ≡ Some row → slots up q ≡ None → ((l : ℕ) → l ≢ up → l ≢ own → slots l q ≡ was.slots l q) → (l : ℕ) →
        slots_of late l q ≡ slots (exchanged up own l) q
    here-now slots at gone others = by-exchange (λ a b. slots_of late a q ≡ slots b q) up own (late-up ∙ sym at) (late-own ∙ sym gone)
        (λ l l_a l_b. late-other l q (λ both. l_a both.0) (λ both. l_b both.0) ∙ (here l ∙ sym (others l l_a l_b)))

    pub over-put : GivesBack after last → new.spare ≤ late.spare → row_count late ≤ row_count new → IsHandingOver arena old late before last k h s (Some (q + 1))
    over-put gives spare count = by_row (was.slots up q) refl
      where
        next : (slots : Slots) → HasLiftedOn arena was.slots slots last k h s was.of → ((l p : ℕ) → p ≢ q → slots l p ≡ was.slots l p) →
            slots up q ≡ None → slots own q ≡ Some row → ((l : ℕ) → l ≢ up → l ≢ own → slots l q ≡ was.slots l q) →
            IsHandingOver arena old late before last k h s (Some (q + 1))
        next slots lifted others gone at beside = over-next arena old new late before after last k h s q was slots lifted others gone
            (λ l p apart. late-other l p (λ both. apart both.1) (λ both. apart both.1)) (here-now slots at gone beside)
            (record { gives = gives; linked = put-linked; spare = spare; count = count })

        by_row : (o : Option Slot) → was.slots up q ≡ o → IsHandingOver arena old late before last k h s (Some (q + 1))
        by_row None none = next was.slots
            (record {
              lifted = lifted-pool arena was.slots after last k h was.of.node was.lifted
                  (λ x. taken-now x ∙ (ap (λ (o : Option Slot). without_frame (is_taken after) (frame_there o) x) none ∙ sym (without-none (is_taken after) x)));
              shows = λ w p page before. refl;
              below = below-same was.slots was.of.parent was.of.sibling;
            })
            (λ l p apart. refl) none has-there (λ l l_a l_b. refl)
        by_row (Some other) there = next (with_pair was.slots up q None)
            (lifted-gone arena was.slots after last k h s was.of q other was.lifted there
            ((λ tag left right e. bit-set tag left right e), (λ e sees. covers other sees))
            (λ x. taken-now x ∙ ap (λ (o : Option Slot). without_frame (is_taken after) (frame_there o) x) there))
            (λ l p apart. with_pair-other was.slots up q None l p (λ _ page. apart page))
            (with_pair-same was.slots up q None)
            (with_pair-other was.slots up q None own q (λ list _. apart-lists list) ∙ has-there)
            (λ l l_a l_b. with_pair-other was.slots up q None l q (λ list _. l_a list))
          where
            bit-set : (tag : Tag) (left right : Bool) → other ≡ Slot.Frame tag left right → bit_on (other_side (side_of was.of.parent k)) left right ≡ true
            bit-set tag left right e = elim (cases_Bool (bit_on (other_side (side_of was.of.parent k)) left right)) [
              | inl on ↦ on
              | inr off ↦ absurd (covers other (row-sees now_tree k h s was.of.node was.of.parent was.of.sibling was.of.family was.of.visible q other there
                  was.lifted.out (is_taken after) was.lifted.exact was.lifted.only tag left right e off))
            ]

-- ---- all pages

-- It begins where the rows of the parent were all seen in a window, those outside of it are gone, and the child shares the others.
pub over-ready : (arena : Arena) (first new : Rows Row) (after : Pool) (k h s low high : ℕ) (pages : Pages)
    (was : IsLifting arena new after k h s) → was.of.sibling.first ≡ 0 → AreSeenFrom (slots_of first) was.of.parent k low high →
    low ≤ pages.from → pages.to ≤ high →
    ((p : ℕ) → p < pages.from → slots_of new was.of.parent.list.0 p ≡ None) → ((p : ℕ) → pages.to ≤ p → slots_of new was.of.parent.list.0 p ≡ None) →
    ((p : ℕ) (row : Slot) → slots_of new was.of.parent.list.0 p ≡ Some row → slots_of first was.of.parent.list.0 p ≡ Some row) →
    AreShared (tree_of arena new) was.of.parent.list.0 s was.of.sibling pages → IsHandingOver arena new new after after k h s (Some 0)
over-ready arena first new after k h s low high pages was start seen from within none_before none_from others shares = record {
  of = was.of;
  slots = slots_of new;
  lifted = was.lifted;
  shows = λ w q page before. refl;
  below = below-same (slots_of new) was.of.parent was.of.sibling;
  first = start;
  shared = λ none q some. let it = inside q some in shares.reached none q it.0 it.1 some;
  passed = λ l p less. absurd (omega arith);
  ahead = λ l p past. refl;
  empty = λ p less. absurd (omega arith);
  inside = λ q some. let it = inside q some in shares.below q it.0 it.1;
  seen = λ end. record {
    bit = λ q tag left right _ _ at.
        let it = inside q (ap is_some at) in
        seen.bit q tag left right (omega (arith, it.0)) (omega (arith, it.1)) (others q (Slot.Frame tag left right) at);
  };
  accounts = accounts-same new after;
}
  where
    inside : (q : ℕ) → IsSome (slots_of new was.of.parent.list.0 q) → (pages.from ≤ q) × (q < pages.to)
    inside q some = elim (cases_lt q pages.from) [
      | inl before ↦ absurd (let none = ap is_some (none_before q before) in cc)
      | inr low ↦ elim (cases_lt q pages.to) [
        | inl less ↦ (low, less)
        | inr past ↦ absurd (let none = ap is_some (none_from q past) in cc)
      ]
    ]

none-kept : (old new : ℕ → Option Slot) (p : ℕ) → ((row : Slot) → new p ≡ Some row → old p ≡ Some row) → old p ≡ None → new p ≡ None
none-kept old new p was none = by_row (new p) refl
  where
    by_row : (o : Option Slot) → new p ≡ o → new p ≡ None
    by_row None e = e
    by_row (Some row) e = absurd (let some = was row e in cc)

-- The same of what was found: the child shares pages, rows before the window of the leaf and before these pages went, and then those
-- from the end of the two on.
module _ (arena : Arena) (first shared mid new : Rows Row) (between after : Pool) (k h s from to : ℕ) (pages : Pages) (leaf : Node)
    (leaf_at : nodes_of arena k ≡ Some leaf) (now : IsLifting arena new after k h s)
    (since : Moves arena shared new between after k 0 (KeepsFamily arena k h s)) where
  pub over-lifted :
      ((node : Node) → nodes_of arena s ≡ Some node → node.first ≡ 0) →
      ((node parent : Node) → nodes_of arena k ≡ Some node → nodes_of arena h ≡ Some parent →
      AreSeenFrom (slots_of first) parent k node.first (node.first + node.seen)) →
      leaf.first ≤ from → pages.from ≤ from → to ≤ leaf.first + leaf.seen → to ≤ pages.to →
      ((parent : Node) → nodes_of arena h ≡ Some parent → (p : ℕ) (row : Slot) → slots_of shared parent.list.0 p ≡ Some row →
      slots_of first parent.list.0 p ≡ Some row) →
      ((parent node : Node) → nodes_of arena h ≡ Some parent → nodes_of arena s ≡ Some node →
      AreShared (tree_of arena shared) parent.list.0 s node pages) →
      ((parent : Node) → nodes_of arena h ≡ Some parent → (p : ℕ) → 0 ≤ p → IsBefore (Some from) p → slots_of mid parent.list.0 p ≡ None) →
      ((parent : Node) → nodes_of arena h ≡ Some parent → (p : ℕ) (row : Slot) → slots_of mid parent.list.0 p ≡ Some row →
      slots_of shared parent.list.0 p ≡ Some row) →
      ((parent : Node) → nodes_of arena h ≡ Some parent → (p : ℕ) → to ≤ p → IsBefore None p → slots_of new parent.list.0 p ≡ None) →
      ((parent : Node) → nodes_of arena h ≡ Some parent → (p : ℕ) (row : Slot) → slots_of new parent.list.0 p ≡ Some row →
      slots_of mid parent.list.0 p ≡ Some row) →
      IsHandingOver arena new new after after k h s (Some 0)
  over-lifted start seen low lower high higher others shares empty others_mid ended left =
      over-ready arena first new after k h s now.of.node.first (now.of.node.first + now.of.node.seen) (record { from = from; to = to }) now
      (start now.of.sibling now.of.family.sibling_at)
      (seen now.of.node now.of.parent now.of.family.at at)
      (omega (arith, low_is)) (omega (arith, low_is, width_is))
      (λ p before. none-kept (slots_of mid now.of.parent.list.0) (slots_of new now.of.parent.list.0) p (left now.of.parent at p)
      (empty now.of.parent at p (omega arith) (omega arith)))
      (λ p past. ended now.of.parent at p past tt)
      (λ p row there. others now.of.parent at p row (to-shared p row there))
      (record {
        below = λ q least less. it.below q (omega arith) (omega arith);
        reached = λ none q least less some side.
            reached-below (tree_of arena shared) now.lifted.exact.forest (slots_of new) now.of.parent now.of.sibling s now.of.family.sibling_at (since.keeps.below now.of) side q
            (it.reached none q (omega arith) (omega arith)
            (some-left (slots_of shared now.of.parent.list.0 q) (slots_of new now.of.parent.list.0 q) (to-shared q) some) side);
      })
    where
      at : nodes_of arena h ≡ Some now.of.parent
      at = now.of.family.parent_at

      node : leaf ≡ now.of.node
      node = some_same (sym leaf_at ∙ now.of.family.at)

      low_is : leaf.first ≡ now.of.node.first
      low_is = ap (λ (n : Node). n.first) node

      width_is : leaf.seen ≡ now.of.node.seen
      width_is = ap (λ (n : Node). n.seen) node

      it : AreShared (tree_of arena shared) now.of.parent.list.0 s now.of.sibling pages
      it = shares now.of.parent now.of.sibling at now.of.family.sibling_at

      to-shared : (p : ℕ) (row : Slot) → slots_of new now.of.parent.list.0 p ≡ Some row → slots_of shared now.of.parent.list.0 p ≡ Some row
      to-shared p row there = others_mid now.of.parent at p row (left now.of.parent at p row there)

module _ {arena : Arena} {old new : Rows Row} {before after : Pool} {k h s : ℕ} (child : Node) (child_at : nodes_of arena s ≡ Some child) where
  -- pages at which the child has no rows go over as they are
  pub over-skipped : (n from : ℕ) → IsHandingOver arena old new before after k h s (Some from) →
      ((p : ℕ) → from ≤ p → p < from + n → slots_of new child.list.0 p ≡ None) → IsHandingOver arena old new before after k h s (Some (from + n))
  over-skipped zero from was none = subst (λ x. IsHandingOver arena old new before after k h s (Some x)) (omega arith) was
  over-skipped (suc n) from was none =
      let one : child ≡ was.of.sibling = some_same (sym child_at ∙ was.of.family.sibling_at) in
      let here = over-passed arena old new before after k h s from was
      (subst (λ (x : Node). slots_of new x.list.0 from ≡ None) one (none from (omega arith) (omega arith))) in
      subst (λ x. IsHandingOver arena old new before after k h s (Some x)) (omega arith)
      (over-skipped n (from + 1) here (λ p least less. none p (omega arith) (omega arith)))

  -- and so do all that are left, where it has no more
  pub over-all : (from : ℕ) → IsHandingOver arena old new before after k h s (Some from) → ((p : ℕ) → from ≤ p → slots_of new child.list.0 p ≡ None) →
      IsHandingOver arena old new before after k h s None
  over-all from was none =
      let last = over-skipped child.seen from was (λ p least less. none p least) in
      let one : child ≡ last.of.sibling = some_same (sym child_at ∙ last.of.family.sibling_at) in
      let count = ap (λ (x : Node). x.seen) one in
      let empty : (p : ℕ) → last.slots last.of.parent.list.0 p ≡ None = λ p. ended last count p in
      record {
        of = last.of;
        slots = last.slots;
        lifted = last.lifted;
        shows = last.shows;
        below = last.below;
        first = last.first;
        shared = last.shared;
        passed = λ l p _. elim (cases_lt p (from + child.seen)) [
          | inl less ↦ last.passed l p less
          | inr past ↦
              let ahead : (m : ℕ) → slots_of new m p ≡ last.slots m p = λ m. last.ahead m p (λ less. absurd (omega arith)) in
              let own : last.slots last.of.sibling.list.0 p ≡ None =
              sym (ahead last.of.sibling.list.0) ∙ subst (λ (x : Node). slots_of new x.list.0 p ≡ None) one (none p (omega arith)) in
              ahead l
              ∙ by-exchange (λ a b. last.slots a p ≡ last.slots b p) last.of.parent.list.0 last.of.sibling.list.0
              (empty p ∙ sym own) (own ∙ sym (empty p)) (λ l l_a l_b. refl) l
        ];
        ahead = λ l p past. absurd (past tt);
        empty = λ p _. empty p;
        inside = last.inside;
        seen = last.seen;
        accounts = last.accounts;
      }
    where
      ended : (last : IsHandingOver arena old new before after k h s (Some (from + child.seen))) → child.seen ≡ last.of.sibling.seen → (p : ℕ) →
          last.slots last.of.parent.list.0 p ≡ None
      ended last count p = elim (cases_lt p (from + child.seen)) [
        | inl less ↦ last.empty p less
        | inr past ↦ by_row past (last.slots last.of.parent.list.0 p) refl
      ]
        where
          by_row : from + child.seen ≤ p → (o : Option Slot) → last.slots last.of.parent.list.0 p ≡ o → last.slots last.of.parent.list.0 p ≡ None
          by_row past None e = e
          by_row past (Some row) e = absurd (let within = last.inside p (ap is_some e) in omega arith)

-- a row of the child is next
module _ {arena : Arena} {old new : Rows Row} {before after : Pool} {k h s at from : ℕ} (was : IsHandingOver arena old new before after k h s (Some at))
    (low : from ≤ at) {child : Node} (child_at : nodes_of arena s ≡ Some child) (none : HasNone (has_row (slots_of new child.list.0)) from at)
    {q : ℕ} {row : Slot} (next : IsNext (slots_of new child.list.0) from (Some q)) (has : slots_of new child.list.0 q ≡ Some row) where
  child-is : child ≡ was.of.sibling
  child-is = some_same (sym child_at ∙ was.of.family.sibling_at)

  least : at ≤ q
  least = elim (cases_lt q at) [
    | inr past ↦ past
    | inl less ↦ absurd (let nothing = none q (next.least q refl).0 less in let some = ap is_some has in cc)
  ]

  -- no row of its page has gone over yet
  here-was : (l : ℕ) → slots_of new l q ≡ was.slots l q
  here-was l = was.ahead l q (λ less. let past = least in absurd (omega arith))

  its-row : was.slots was.of.sibling.list.0 q ≡ Some row
  its-row = sym (here-was was.of.sibling.list.0) ∙ subst (λ (n : Node). slots_of new n.list.0 q ≡ Some row) child-is has

  -- its frame is taken
  pub hand-taken : (tag : ℕ) → frame_in row ≡ Some tag → IsSome (taken_frames after tag)
  hand-taken tag frame = was.lifted.exact.used was.of.sibling.list.0 q row tag its-row frame

  module _ {parent : Node} (parent_at : nodes_of arena h ≡ Some parent) (mid : Rows Row) (taken_out : slots_of mid ≡ with_pair (slots_of new) child.list.0 q None) where
    parent-is : parent ≡ was.of.parent
    parent-is = some_same (sym parent_at ∙ was.of.family.parent_at)

    mid-is : slots_of mid ≡ with_pair (slots_of new) was.of.sibling.list.0 q None
    mid-is = subst (λ (n : Node). slots_of mid ≡ with_pair (slots_of new) n.list.0 q None) child-is taken_out

    two-lists : was.of.sibling.list.0 ≢ was.of.parent.list.0
    two-lists same = (family-lists arena k h s was.lifted.exact.forest was.of).2 (sym same)

    under-is : slots_of mid parent.list.0 q ≡ was.slots was.of.parent.list.0 q
    under-is =
        ap (λ (n : Node). slots_of mid n.list.0 q) parent-is
        ∙ (ap (λ (x : Slots). x was.of.parent.list.0 q) mid-is
        ∙ (with_pair-other (slots_of new) was.of.sibling.list.0 q None was.of.parent.list.0 q (λ list _. two-lists (sym list))
        ∙ here-was was.of.parent.list.0))

    frame-under : (o : Option Slot) (tag : ℕ) → frame_there o ≡ Some tag → (other : Slot) × (o ≡ Some other) × (frame_in other ≡ Some tag)
    frame-under None tag e = absurd (cc)
    frame-under (Some other) tag e = (other, refl, e)

    -- the frame of the row of the parent there is taken, and is another
    pub hand-under : (tag : ℕ) → frame_there (slots_of mid parent.list.0 q) ≡ Some tag → IsSome (taken_frames after tag)
    hand-under tag e =
        let it = frame-under (was.slots was.of.parent.list.0 q) tag (ap frame_there (sym under-is) ∙ e) in
        was.lifted.exact.used was.of.parent.list.0 q it.0 tag it.1 it.2

    pub hand-apart : (tag : ℕ) → frame_in row ≡ Some tag → frame_there (slots_of mid parent.list.0 q) ≡ Some tag → ⊥
    hand-apart tag frame e =
        let it = frame-under (was.slots was.of.parent.list.0 q) tag (ap frame_there (sym under-is) ∙ e) in
        two-lists (was.lifted.exact.once was.of.sibling.list.0 q was.of.parent.list.0 q tag row it.0 its-row it.1 frame it.2).0

    module _ (cleared late : Rows Row) (gone : slots_of cleared ≡ with_pair (slots_of mid) parent.list.0 q None)
        (slots : slots_of late ≡ with_pair (slots_of cleared) parent.list.0 q (Some row)) where
      put : slots_of late ≡ with_pair (slots_of mid) parent.list.0 q (Some row)
      put = slots ∙ (ap (λ (x : Slots). with_pair x parent.list.0 q (Some row)) gone ∙ put-twice (slots_of mid) parent.list.0 q None (Some row))

      -- the child has no row there then
      pub hand-gone : slots_of late child.list.0 q ≡ None
      hand-gone =
          ap (λ (x : Slots). x child.list.0 q) put
          ∙ (with_pair-other (slots_of mid) parent.list.0 q (Some row) child.list.0 q
          (λ list _. two-lists (sym (ap (λ (n : Node). n.list.0) child-is) ∙ (list ∙ ap (λ (n : Node). n.list.0) parent-is)))
          ∙ (ap (λ (x : Slots). x child.list.0 q) taken_out ∙ with_pair-same (slots_of new) child.list.0 q None))

      -- it was put there, and the pages before it have gone over
      pub hand-next : {between last : Pool} → HasGiven after between (frame_there (slots_of mid parent.list.0 q)) → taken_frames last ≡ taken_frames between → last.frames ≡ between.frames →
          ((x : ℕ) → links_of last x ≡ (if is_row_of_frame x row then record { list = parent.list.0; page = q } else links_of between x)) →
          new.spare ≤ late.spare → row_count late ≤ row_count new → IsHandingOver arena old late before last k h s (Some (q + 1))
      hand-next {between} {last} given taken frames links spare count =
          let here : IsHandingOver arena old new before after k h s (Some q) = subst (λ x. IsHandingOver arena old new before after k h s (Some x)) (omega (arith, least))
          (over-skipped child child_at (q - at) at was (λ p from_on less. (next.least q refl).2 p (omega arith) (omega (arith, least)))) in
          let up_is : parent ≡ here.of.parent = some_same (sym parent_at ∙ here.of.family.parent_at) in
          let own : child ≡ here.of.sibling = some_same (sym child_at ∙ here.of.family.sibling_at) in
          over-put arena old new before after k h s q here mid late last row
          (subst (λ (n : Node). slots_of new n.list.0 q ≡ Some row) own has)
          (subst (λ (n : Node). slots_of mid ≡ with_pair (slots_of new) n.list.0 q None) own taken_out)
          (subst (λ (n : Node). slots_of late ≡ with_pair (slots_of mid) n.list.0 q (Some row)) up_is put)
          (λ x. ap (λ f. is_some (f x)) taken
          ∙ (given.taken x ∙ ap (λ (n : Node). without_frame (is_taken after) (frame_there (slots_of mid n.list.0 q)) x) up_is))
          (subst (λ (n : Node). (x : ℕ) → links_of last x ≡ (if is_row_of_frame x row then record { list = n.list.0; page = q } else links_of after x)) up_is
          (λ x. links x ∙ ap (λ f. if is_row_of_frame x row then record { list = parent.list.0; page = q } else f x) given.links))
          (gives-then after between last given.gives (record { frames = frames; kept = λ x. inl (ap (λ f. f x) taken) }))
          spare count

-- rows went or moved before the list went over
module _ {arena : Arena} {old mid new : Rows Row} {before between after : Pool} {k h s : ℕ} {from : Option ℕ} (it : IsHandingOver arena mid new between after k h s from) where
  pub handed-then : Moves arena old mid before between k 0 (λ a b. KeepsBelow a b it.of.parent it.of.sibling) → IsHandingOver arena old new before after k h s from
  handed-then moves = record {
    of = it.of;
    slots = it.slots;
    lifted = it.lifted;
    shows = λ w q page sight. it.shows w q (page-over (tree_of arena old) (slots_of mid) w q page) sight ∙ moves.shows w q page sight;
    below = below-then (slots_of old) (slots_of mid) it.slots it.of.parent it.of.sibling (family-lists arena k h s it.lifted.exact.forest it.of).2 moves.keeps it.below;
    first = it.first;
    shared = it.shared;
    passed = it.passed;
    ahead = it.ahead;
    empty = it.empty;
    inside = it.inside;
    seen = it.seen;
    accounts = accounts-then moves.accounts it.accounts;
  }

  pub lost-handed : Moves arena old mid before between k 0 IsPartOf → IsHandingOver arena old new before after k h s from
  lost-handed lost = handed-then (moves-as lost (below-fewer (slots_of old) (slots_of mid) it.of.parent it.of.sibling (part-none (slots_of old) (slots_of mid) lost.keeps)))
