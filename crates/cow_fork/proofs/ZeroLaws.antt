-- What becomes of the clone tree and of the pool where a page is made zero.
use Rattle.cow_fork.proofs.Words.{◌≡◌, ◌≢◌, ◌↔◌, ◌⊎◌, ℕ, ◌+◌, ◌≤◌, Bool, true, false, List, Option, None, Some, IsSome, refl, sym, ap, ◌∙◌}
use Rattle.cow_fork.proofs.Words.{subst, inl, inr, arith, is_some, cases_eq, some_same, some_is, none_is, without_key-same}
use Rattle.cow_fork.proofs.Words.{without_key-other, without_key, Tag, Rows, with_pair, Row, Slot, slots_of, Pool, taken_frames}
use Rattle.cow_fork.proofs.Words.{is_taken, links_of, Node, Side, Arena, IsVisible, nodes_of, Slots, Tree, walk, frame_shown, frame_in}
use Rattle.cow_fork.proofs.Words.{Arrives, IsPartOf, Cut, Holder, tree_of, with_row, holder_of, IsLastViewer, ShowsSame}
use Rattle.cow_fork.proofs.Words.{IsNotPage, IsExact, all_in_sight, leaving_out, with_frame, without_frame, HasCut, frame_left, IsSole}
use Rattle.cow_fork.proofs.Words.{◌-◌, ◌<◌, cond, cases_Bool, bit-false, bit-true, count_below_change, IsPage, GivesSole, LeavesFrame}
use Rattle.cow_fork.proofs.Words.{IsNeeded, HasZeroed, shown_from}
use Rattle.cow_arena.proofs.AlikeLaws.{with_pair-other}
use Rattle.cow_arena.proofs.WalkLaws.{walk-own}
use Rattle.cow_arena.proofs.ReachLaws.{walk-ends, reach-hidden, hidden-apart}
use Rattle.cow_split.proofs.ExactLaws.{cases_place}
use Rattle.cow_split.proofs.RowLaws.{without_frame-none, with_frame-none, exact-in_use_alike, exact-in_sight, own_comes-shows}
use Rattle.cow_split.proofs.RowLaws.{exact-own_gone, exact-own_comes, with_row-twice, frame-once, frame-shown, frame-in_use}
use Rattle.cow_split.proofs.PartLaws.{stood-with_pair}
use Rattle.cow_fork.proofs.PoolLaws.{given-without, taken-same}
use Rattle.cow_fork.proofs.HolderLaws.{own-shown}
use Rattle.cow_fork.proofs.LeafLaws.{IsLeaf, tree-with, with_row-there, others-on, put-tree, put-others}
use Rattle.cow_fork.proofs.CutOffLaws.{cut-exact, cut_off, leaves_cases}

-- ---- an own frame goes

-- v alone shows the frame of its own row: nobody is below it
pub own-last : (t : Tree) (in_use : ℕ → Bool) (v p : ℕ) (node : Node) (row : Slot) (tag : ℕ) → IsExact t all_in_sight in_use →
    IsVisible t.nodes v node → t.slots node.list.0 p ≡ Some row → frame_in row ≡ Some tag → IsLastViewer t v tag
own-last t in_use v p node row tag exact visible own frame w q page shows =
    let shown = frame-shown t w q tag shows in
    let here = walk-own t exact.forest v p node row visible.at own in
    let same = frame-once t all_in_sight in_use exact v p w q tag _ shown.it here shown.found frame shown.frame in
    let way = (walk-ends t exact.forest w q shown.it shown.found).way in
    from shown.it.side shown.it.page (subst (λ h. Arrives t w q shown.it.side h shown.it.page) (sym same.0) way)
  where
    from : (side : Option Side) (r : ℕ) → Arrives t w q side v r → w ≡ v
    from None r way = way.0
    from (Some side) r way =
        let above = reach-hidden t exact.forest w q side v r way in
        absurd (hidden-apart t exact.forest v v above.0 node above.1 above.2 visible refl)

-- the frames in use are those that are taken after one was given back, if one was left
given-used : (before after : Pool) (answer : Cut) →
    ((tag : Tag) → answer ≡ Cut.LastViewer tag → taken_frames after ≡ without_key (taken_frames before) tag.0) →
    ((LeavesFrame answer → ⊥) → after ≡ before) → (n : ℕ) → without_frame (is_taken before) (frame_left answer) n ≡ is_taken after n
given-used before after answer given kept n = elim (leaves_cases answer) [
  | inl leaves ↦
      let it = leaves.last in
      ap (λ (a : Cut). without_frame (is_taken before) (frame_left a) n) it ∙ given-without before after leaves.tag.0 (given leaves.tag it) n
  | inr stays ↦
      ap (λ frame. without_frame (is_taken before) frame n) stays.1
      ∙ (ap (λ (used : ℕ → Bool). used n) (without_frame-none (is_taken before)) ∙ taken-same before after (ap taken_frames (kept stays.0)) n)
]

-- no frame changes but one that is given back
given-gives : (before after : Pool) (answer : Cut) →
    ((tag : Tag) → answer ≡ Cut.LastViewer tag → taken_frames after ≡ without_key (taken_frames before) tag.0) →
    ((LeavesFrame answer → ⊥) → after ≡ before) → (t : ℕ) → (taken_frames after t ≡ taken_frames before t) ⊎ (taken_frames after t ≡ None)
given-gives before after answer given kept t = elim (leaves_cases answer) [
  | inl leaves ↦
      let gone = ap (λ (map : ℕ → Option (List ℕ)). map t) (given leaves.tag leaves.last) in
      elim (cases_eq t leaves.tag.0) [
        | inl same ↦
            inr (gone ∙ (ap (without_key (taken_frames before) leaves.tag.0) same ∙ without_key-same (taken_frames before) leaves.tag.0))
        | inr apart ↦ inl (gone ∙ without_key-other (taken_frames before) leaves.tag.0 t apart)
      ]
  | inr stays ↦ inl (ap (λ (pool : Pool). taken_frames pool t) (kept stays.0))
]

-- This was answered, and a frame that the answer leaves is given back.
module _ {t : Tree} {before after : Pool} {v p : ℕ} {answer : Cut}
    (last : (tag : Tag) → (answer ≡ Cut.LastViewer tag) ↔ IsSole t v p tag.0)
    (given : (tag : Tag) → answer ≡ Cut.LastViewer tag → taken_frames after ≡ without_key (taken_frames before) tag.0)
    (kept : (LeavesFrame answer → ⊥) → after ≡ before) where
  gives-left : links_of after ≡ links_of before → after.frames ≡ before.frames → GivesSole t v p before after
  gives-left links frames = record {
    given = λ tag sole. let it : Tag = record { 0 = tag } in given it ((last it).1 sole);
    kept = λ shared. ap taken_frames (kept (λ leaves. shared leaves.tag.0 ((last leaves.tag).0 leaves.last)));
    gives = given-gives before after answer given kept;
    links = links;
    frames = frames;
  }

-- an own row goes, which has this frame
module _ {arena : Arena} {old : Rows Row} {v p : ℕ} {node : Node} (leaf : IsLeaf arena old v p node) (before : Pool)
    (exact : IsExact (tree_of arena old) all_in_sight (is_taken before)) (row : Slot) (own : slots_of old node.list.0 p ≡ Some row) (tag : Tag)
    (frame : frame_in row ≡ Some tag.0) where
  own-left : (other : Tag) → (Cut.LastViewer tag ≡ Cut.LastViewer other) ↔ IsSole (tree_of arena old) v p other.0
  own-left other =
      let t = tree_of arena old in
      let shows : frame_shown t v p ≡ Some tag.0 = own-shown leaf row own ∙ frame in
      let last = own-last t (is_taken before) v p node row tag.0 exact leaf.visible own frame in (
        λ e.
            let same : tag ≡ other = cc in
            subst (λ (x : Tag). IsSole t v p x.0) same (record { shows = shows; last = last }),
        λ sole.
            let same : tag.0 ≡ other.0 = some_same (sym shows ∙ sole.shows) in
            ap (λ n. let x : Tag = record { 0 = n } in Cut.LastViewer x) same,
      )

  pub own-exact : (new : Rows Row) (after : Pool) → slots_of new ≡ with_pair (slots_of old) node.list.0 p None →
      taken_frames after ≡ without_key (taken_frames before) tag.0 → IsExact (tree_of arena new) (leaving_out all_in_sight v p) (is_taken after)
  own-exact new after gone taken = exact-in_use_alike (tree_of arena new) (leaving_out all_in_sight v p) (without_frame (is_taken before) (Some tag.0)) (is_taken after)
      (given-without before after tag.0 taken)
      (subst (λ left. IsExact (tree_of arena new) (leaving_out all_in_sight v p) (without_frame (is_taken before) left)) frame
      (subst (λ (u : Tree). IsExact u (leaving_out all_in_sight v p) (without_frame (is_taken before) (frame_in row))) (sym (put-tree leaf new None gone))
      (exact-own_gone (tree_of arena old) v p node leaf.visible all_in_sight (is_taken before) row exact own)))

  pub own-given : (after : Pool) → taken_frames after ≡ without_key (taken_frames before) tag.0 → links_of after ≡ links_of before →
      after.frames ≡ before.frames → GivesSole (tree_of arena old) v p before after
  own-given after taken = gives-left own-left
      (λ other is. let same : tag ≡ other = cc in subst (λ (x : Tag). taken_frames after ≡ without_key (taken_frames before) x.0) same taken)
      (λ stays. absurd (stays (record { tag = tag; last = refl })))

-- the page is cut off from the row that it sees
module _ {arena : Arena} {old mid : Rows Row} {v p : ℕ} {node : Node} {answer : Cut} (leaf : IsLeaf arena old v p node)
    (none : slots_of old node.list.0 p ≡ None) (is : HasCut arena old mid v p answer) (before : Pool) (found : Holder)
    (exact : IsExact (tree_of arena old) all_in_sight (is_taken before)) (held : found ≡ holder_of (walk (tree_of arena old) v p)) where
  -- a frame that is left is taken
  pub left-taken : (tag : Tag) → answer ≡ Cut.LastViewer tag → is_taken before tag.0 ≡ true
  left-taken tag left = frame-in_use (tree_of arena old) all_in_sight (is_taken before) exact v p tag.0
      (((cut_off leaf none is (is_taken before) found exact held).last tag).0 left).shows

  module _ {after : Pool} (given : (tag : Tag) → answer ≡ Cut.LastViewer tag → taken_frames after ≡ without_key (taken_frames before) tag.0)
      (kept : (LeavesFrame answer → ⊥) → after ≡ before) where
    pub left-exact : IsExact (tree_of arena mid) (leaving_out all_in_sight v p) (is_taken after)
    left-exact = exact-in_use_alike (tree_of arena mid) (leaving_out all_in_sight v p) (without_frame (is_taken before) (frame_left answer)) (is_taken after)
        (given-used before after answer given kept) (cut-exact leaf none is (is_taken before) exact)

    pub left-given : links_of after ≡ links_of before → after.frames ≡ before.frames → GivesSole (tree_of arena old) v p before after
    left-given = gives-left (cut_off leaf none is (is_taken before) found exact held).last given kept

-- ---- a page that was zero

-- a row is taken where there is none
module _ {arena : Arena} {old : Rows Row} (mid : Rows Row) {v p : ℕ} {node : Node} (leaf : IsLeaf arena old v p node)
    (gone : slots_of mid ≡ with_pair (slots_of old) node.list.0 p None) (none : slots_of old node.list.0 p ≡ None) where
  pub mid-same : tree_of arena mid ≡ tree_of arena old
  mid-same = put-tree leaf mid None gone ∙ with_row-there (tree_of arena old) node.list.0 p None none

-- a row that says zero is taken and put back
pub back-same : {arena : Arena} {old : Rows Row} (mid new : Rows Row) {v p : ℕ} {node : Node} (leaf : IsLeaf arena old v p node) →
    slots_of old node.list.0 p ≡ Some Slot.Zero → slots_of mid ≡ with_pair (slots_of old) node.list.0 p None →
    slots_of new ≡ with_pair (slots_of mid) node.list.0 p (Some Slot.Zero) → slots_of new ≡ slots_of old
back-same {arena} {old} mid new {v} {p} {node} leaf own gone put =
    let t = tree_of arena old in
    put ∙ (ap (λ (s : Slots). with_pair s node.list.0 p (Some Slot.Zero)) gone
    ∙ ap (λ (u : Tree). u.slots) (with_row-twice t node.list.0 p None (Some Slot.Zero) ∙ with_row-there t node.list.0 p (Some Slot.Zero) own))

-- ---- the page comes back into sight

-- a place that has a row had one, or is that of the page that is made zero
part-places : (old mid : Rows Row) (list p l q : ℕ) → IsPartOf (slots_of old) (slots_of mid) → IsSome (slots_of mid l q) ⊎ ((l ≡ list) × (q ≡ p)) →
    IsSome (slots_of old l q) ⊎ ((l ≡ list) × (q ≡ p))
part-places old mid list p l q part place = elim place [
  | inl some ↦ let it = some_is (slots_of mid l q) some in inl (ap is_some (part.had l q it.0 it.1).at)
  | inr here ↦ inr here
]

-- where one place gets a row, no other gets one
put-places : (slots : Slots) (l q : ℕ) (row : Slot) (m r : ℕ) → IsSome (with_pair slots l q (Some row) m r) → IsSome (slots m r) ⊎ ((m ≡ l) × (r ≡ q))
put-places slots l q row m r some = elim (cases_place l q m r) [
  | inl here ↦ inr here
  | inr apart ↦ inl (subst IsSome (with_pair-other slots l q (Some row) m r (λ a b. apart (a, b))) some)
]

-- what is not None is there
pub some-from : {A : Type 0} (o : Option A) → o ≢ None → is_some o ≡ true
some-from None apart = absurd (apart refl)
some-from (Some a) apart = refl

-- a page that became zero is one less, if it showed a frame
shown-less : (old new : Tree) (v a n p : ℕ) → a ≤ p → p < a + n → ((q : ℕ) → q < a + n → q ≢ p → frame_shown new v q ≡ frame_shown old v q) →
    frame_shown new v p ≡ None → shown_from new v a n + cond (is_some (frame_shown old v p)) 1 0 ≡ shown_from old v a n
unfolding shown_from
shown-less old new v a n p low less same none =
    let before : ℕ → Bool = λ k. is_some (frame_shown old v (a + k)) in
    let after : ℕ → Bool = λ k. is_some (frame_shown new v (a + k)) in
    let place : a + (p - a) ≡ p = omega arith in
    let was = ap (λ q. cond {A = ℕ} (is_some (frame_shown old v q)) 1 0) place in
    let is : after (p - a) ≡ false = ap (λ q. is_some (frame_shown new v q)) place ∙ ap is_some none in
    let change = count_below_change n (p - a) before after (omega arith) (λ j below apart. ap is_some (same (a + j) (omega arith) (λ e. apart (omega arith)))) in
    omega (arith, change, was, bit-false (after (p - a)) is)

-- The page showed a frame, and was let go.
module _ (arena : Arena) (first new : Rows Row) (before after : Pool) (v p : ℕ) where
  -- it shows zeros, and a row that came is needed
  abbrev AreZeros : Type 0
  AreZeros = HasZeroed arena first new before after v p (p + 1) × (frame_shown (tree_of arena new) v p ≡ None) × (first.spare ≤ new.spare + 1) ×
      IsNeeded arena new v p

  module _ {old : Rows Row} {node : Node} (leaf : IsLeaf arena old v p node) (shows : frame_shown (tree_of arena first) v p ≢ None)
      (exact : IsExact (tree_of arena old) (leaving_out all_in_sight v p) (is_taken after)) (bare : slots_of old node.list.0 p ≡ None)
      (others : ShowsSame (tree_of arena first) (tree_of arena old) (IsNotPage v p)) (part : IsPartOf (slots_of first) (slots_of old))
      (given : GivesSole (tree_of arena first) v p before after) (room : first.spare ≤ old.spare) where
    zeros : IsExact (tree_of arena new) all_in_sight (is_taken after) → frame_shown (tree_of arena new) v p ≡ None → IsNeeded arena new v p →
        ShowsSame (tree_of arena old) (tree_of arena new) (IsNotPage v p) →
        ((l q : ℕ) (row : Slot) (t : ℕ) → slots_of new l q ≡ Some row → frame_in row ≡ Some t → slots_of old l q ≡ Some row) →
        ((l q : ℕ) → IsSome (slots_of new l q) → IsSome (slots_of old l q) ⊎ ((l ≡ node.list.0) × (q ≡ p))) → old.spare ≤ new.spare + 1 → AreZeros
    zeros now zero needed same stood places spare = (
      record {
        exact = now;
        others = λ w q page apart. all w q page (λ here. let place = here.1 in apart (here.0, omega arith, omega arith));
        part = λ w q t page some. elim (cases_place v p w q) [
          | inl here ↦
              let none : frame_shown (tree_of arena new) w q ≡ None = rw (here.0, here.1) zero in
              absurd (cc)
          | inr apart ↦ sym (all w q page apart) ∙ some
        ];
        gives = given.gives;
        stood = λ l q row tag at frame. part.had l q row (stood l q row tag at frame);
        links = given.links;
        frames = given.frames;
        places = λ n at l q some. elim (part-places first old node.list.0 p l q part (places l q some)) [
          | inl was ↦ inl was
          | inr place ↦ let here = place.1 in inr (place.0 ∙ ap (λ (m : Node). m.list.0) (some_same (sym leaf.visible.at ∙ at)), omega arith, omega arith)
        ];
        spare = λ n at a m low high below.
            let is : node ≡ n = some_same (sym leaf.visible.at ∙ at) in
            let page : (q : ℕ) → q < a + m → IsPage (tree_of arena first) v q = λ q less.
            record { node = node; visible = leaf.visible; below = subst (λ (k : Node). q < k.count) (sym is) (omega arith) } in
            let less = shown-less (tree_of arena first) (tree_of arena new) v a m p low (omega arith) (λ q small apart. all v q (page q small) (λ here. apart here.1)) zero in
            omega (arith, less, room, spare, bit-true (is_some (frame_shown (tree_of arena first) v p)) (some-from (frame_shown (tree_of arena first) v p) shows));
      },
      zero,
      omega arith,
      needed,
    )
      where
        all : ShowsSame (tree_of arena first) (tree_of arena new) (IsNotPage v p)
        all = others-on (tree_of arena first) (tree_of arena old) (tree_of arena new) v p refl others same

    -- a row that says zero hides the frame of a row above
    marked : frame_shown (tree_of arena old) v p ≢ None → slots_of new ≡ with_pair (slots_of old) node.list.0 p (Some Slot.Zero) →
        new.spare + 1 ≡ old.spare → AreZeros
    marked shown put spare =
        let t = tree_of arena old in
        let now = put-tree leaf new (Some Slot.Zero) put in
        zeros
        (subst (λ (u : Tree). IsExact u all_in_sight (is_taken after)) (sym now)
        (exact-in_use_alike (with_row t node.list.0 p (Some Slot.Zero)) all_in_sight (with_frame (is_taken after) None) (is_taken after)
        (λ tag. ap (λ (used : ℕ → Bool). used tag) (with_frame-none (is_taken after)))
        (exact-own_comes t v p node leaf.visible all_in_sight (is_taken after) Slot.Zero exact bare leaf.below tt (λ tag e. absurd (cc)))))
        (ap (λ (u : Tree). frame_shown u v p) now ∙ own_comes-shows t v p node leaf.visible leaf.forest Slot.Zero)
        (λ n at own none.
        let back : with_row (tree_of arena new) node.list.0 p None ≡ t =
        ap (λ (u : Tree). with_row u node.list.0 p None) now
        ∙ (with_row-twice t node.list.0 p (Some Slot.Zero) None ∙ with_row-there t node.list.0 p None bare) in
        shown
        (sym (ap (λ (u : Tree). frame_shown u v p) back)
        ∙ subst (λ (m : Node). frame_shown (with_row (tree_of arena new) m.list.0 p None) v p ≡ None) (some_same (sym at ∙ leaf.visible.at)) none))
        (put-others leaf new (Some Slot.Zero) put)
        (λ l q row tag at frame.
        stood-with_pair (slots_of old) node.list.0 p Slot.Zero l q row tag (ap (λ (s : Slots). s l q) (sym put) ∙ at) frame (λ e. absurd (cc)))
        (λ l q some. put-places (slots_of old) node.list.0 p Slot.Zero l q (subst (λ (s : Slots). IsSome (s l q)) put some))
        (omega (arith, spare))

    -- no such row is needed where nothing is shown
    pub zeros-from : (frame_shown (tree_of arena old) v p ≡ None → new ≡ old) →
        (frame_shown (tree_of arena old) v p ≢ None → (n : Node) → nodes_of arena v ≡ Some n →
        (slots_of new ≡ with_pair (slots_of old) n.list.0 p (Some Slot.Zero)) × (new.spare + 1 ≡ old.spare)) → AreZeros
    zeros-from kept put = elim (cases_Bool (is_some (frame_shown (tree_of arena old) v p))) [
      | inl some ↦
          let shown : frame_shown (tree_of arena old) v p ≢ None = λ none. let no = ap is_some none in absurd (cc) in
          let it = put shown node leaf.visible.at in
          marked shown it.0 it.1
      | inr free ↦
          let zero = none_is (frame_shown (tree_of arena old) v p) free in
          let same = ap (tree_of arena) (kept zero) in
          zeros (subst (λ (u : Tree). IsExact u all_in_sight (is_taken after)) (sym same)
          (exact-in_sight (tree_of arena old) all_in_sight (is_taken after) v p (λ page. zero) exact))
          (ap (λ (u : Tree). frame_shown u v p) same ∙ zero)
          (λ n at own.
          let none = ap (λ (u : Tree). u.slots n.list.0 p) same in
          let there = subst (λ (m : Node). slots_of old m.list.0 p ≡ None) (some_same (sym leaf.visible.at ∙ at)) bare in
          absurd (cc))
          (λ w q page differs. ap (λ (u : Tree). frame_shown u w q) same) (λ l q row tag at frame. sym (ap (λ (u : Tree). u.slots l q) same) ∙ at)
          (λ l q some. inl (subst (λ (u : Tree). IsSome (u.slots l q)) same some)) (let all = ap (λ (rows : Rows Row). rows.spare) (kept zero) in omega arith)
    ]

-- ---- nothing changes

-- none of the pages was made zero
pub zeroed-none : (arena : Arena) (old new : Rows Row) (pool : Pool) (v first end : ℕ) → IsExact (tree_of arena old) all_in_sight (is_taken pool) →
    slots_of new ≡ slots_of old → new.spare ≡ old.spare → HasZeroed arena old new pool pool v first end
zeroed-none arena old new pool v first end exact slots spare =
    let same : tree_of arena new ≡ tree_of arena old = tree-with arena old new (slots_of old) slots in
    record {
      exact = subst (λ (u : Tree). IsExact u all_in_sight (is_taken pool)) (sym same) exact;
      others = λ w q page apart. ap (λ (u : Tree). frame_shown u w q) same;
      part = λ w q t page shows. sym (ap (λ (u : Tree). frame_shown u w q) same) ∙ shows;
      gives = λ t. inl refl;
      stood = λ l q row t at frame. record { row = row; at = ap (λ (s : Slots). s l q) (sym slots) ∙ at; frame = refl };
      links = refl;
      frames = refl;
      places = λ node at l q some. inl (subst (λ (s : Slots). IsSome (s l q)) slots some);
      spare = λ node at a n low high below. let shown = ap (λ (u : Tree). shown_from u v a n) same in omega arith;
    }

-- a page that shows no frame shows none alone
pub gives-none : (t : Tree) (v p : ℕ) (pool : Pool) → frame_shown t v p ≡ None → GivesSole t v p pool pool
gives-none t v p pool zero = record {
  given = λ tag sole. let shows = sole.shows in absurd (cc);
  kept = λ shared. refl;
  gives = λ tag. inl refl;
  links = refl;
  frames = refl;
}
