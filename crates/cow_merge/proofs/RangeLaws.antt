-- A range of pages of one visible node is left out of sight: frames are given back, and its own rows go, one page after another.
-- How its pages are cut off from the rows of the nodes above is in PassingLaws.
use Rattle.cow_merge.proofs.Words.{◌≡◌, ◌≢◌, ℕ, ◌<◌, ◌≤◌, Bool, true, false, Option, None, Some, inl, inr, IsSome, IsSomeAnd, refl, sym, ap}
use Rattle.cow_merge.proofs.Words.{subst, ◌∙◌, arith, ◌&&◌, not, is_some, cases_Bool, cases_eq, cases_lt, eq-eqb, ne_eqb, Rows, with_pair}
use Rattle.cow_merge.proofs.Words.{IsNext, none_is, without_key, Tag, without_key-same, without_key-other, Row, Slot, slots_of, row_count, Pool}
use Rattle.cow_merge.proofs.Words.{taken_frames, links_of, is_taken, Node, Side, Arena, nodes_of, IsVisible, Slots, Tree, frame_in}
use Rattle.cow_merge.proofs.Words.{frame_shown, IsForest, Climbs, Reaches, Arrives, IsPartOf, Cut, tree_of, IsExact, IsOnlyOf, all_in_sight}
use Rattle.cow_merge.proofs.Words.{leaving_out, without_frame, cut_slots, frame_left, HasCut, AreLinked, GivesBack, HasGiven, Accounts}
use Rattle.cow_merge.proofs.Words.{Moves, HasCutOff, IsDropping, IsLeftBare}
use Rattle.cow_arena.proofs.AlikeLaws.{with_pair-other}
use Rattle.cow_arena.proofs.ReachLaws.{reach-one, reach-more, reach-each}
use Rattle.cow_split.proofs.RowLaws.{left_out-in_sight, left_out-other, only-more, only-none, exact-in_use_alike, exact-own_gone, own-shows}
use Rattle.cow_split.proofs.RowLaws.{frame-in_use}
use Rattle.cow_split.proofs.CutLaws.{exact-cut, cut-last, cut-shows, page-over}
use Rattle.cow_split.proofs.PartLaws.{part-same, part-with_pair, part-then, part-none, part-cut}

-- a way stays where rows go
module _ (t : Tree) (slots : Slots) (part : IsPartOf t.slots slots) where
  climbs-part : (k p h q : ℕ) → Climbs t k p h q → Climbs (record t { slots = slots }) k p h q
  climbs-part k p h q c = record {
    node = c.node;
    at = c.at;
    free = part-none t.slots slots part c.node.list.0 p c.free;
    inside = c.inside;
    parent = c.parent;
    page = c.page;
  }

  pub reach-part : (k p : ℕ) (side : Side) (h q : ℕ) → Reaches t k p side h q → Reaches (record t { slots = slots }) k p side h q
  reach-part k p side h q = reach-each t side h q (λ j r. Reaches (record t { slots = slots }) j r side h q)
      (λ j r c from. reach-one (record t { slots = slots }) j r side h q (climbs-part j r h q c) from)
      (λ j r i x c way further. reach-more (record t { slots = slots }) j r i x side h q (climbs-part j r i x c) further)
      k p

  pub arrives-part : (k p : ℕ) (side : Option Side) (h q : ℕ) → Arrives t k p side h q → Arrives (record t { slots = slots }) k p side h q
  arrives-part k p None h q way = way
  arrives-part k p (Some side) h q way = reach-part k p side h q way

-- the rows of a list stay where a row of another list changes
pub list-beside : (old new : Slots) (l q : ℕ) (row : Option Slot) → new ≡ with_pair old l q row → (m : ℕ) → m ≢ l → new m ≡ old m
list-beside old new l q row e m apart = λ i p. (ap (λ (x : Slots). x m p) e ∙ with_pair-other old l q row m p (λ list _. apart list)) i

-- ---- frames that are given back

pub gives-then : (before between after : Pool) → GivesBack before between → GivesBack between after → GivesBack before after
gives-then before between after first second = record {
  frames = second.frames ∙ first.frames;
  kept = λ t. elim (second.kept t) [
    | inl same ↦ elim (first.kept t) [ inl was ↦ inl (same ∙ was) | inr none ↦ inr (same ∙ none) ]
    | inr none ↦ inr none
  ];
}

pub gives-same : (pool : Pool) → GivesBack pool pool
gives-same pool = record { frames = refl; kept = λ t. inl refl }

-- rows that are left keep the places that their frames tell
pub linked-part : (old new : Rows Row) (before after : Pool) → IsPartOf (slots_of old) (slots_of new) → links_of after ≡ links_of before →
    AreLinked old before → AreLinked new after
linked-part old new before after part links was = record {
  linked = λ l q row tag at frame.
      let had = part.had l q row at in
      ap (λ f. f tag) links ∙ was.linked l q had.row tag had.at (sym had.frame ∙ frame);
}

-- ---- the accounts

pub accounts-same : (rows : Rows Row) (pool : Pool) → Accounts rows rows pool pool
accounts-same rows pool = record { gives = gives-same pool; linked = λ ok. ok; spare = omega arith; count = omega arith }

pub accounts-then : {old mid new : Rows Row} {before between after : Pool} → Accounts old mid before between → Accounts mid new between after →
    Accounts old new before after
accounts-then {old} {mid} {new} {before} {between} {after} first second = record {
  gives = gives-then before between after first.gives second.gives;
  linked = λ ok. second.linked (first.linked ok);
  spare = omega (arith, first.spare, second.spare);
  count = omega (arith, first.count, second.count);
}

-- rows are gone, and perhaps a frame
pub accounts-part : (old new : Rows Row) (before after : Pool) (frame : Option ℕ) → IsPartOf (slots_of old) (slots_of new) → HasGiven before after frame →
    old.spare ≤ new.spare → row_count new ≤ row_count old → Accounts old new before after
accounts-part old new before after frame part given spare count =
    record { gives = given.gives; linked = linked-part old new before after part given.links; spare = spare; count = count }

-- ---- the tree moves on

-- what is said of the rows may be another thing
pub moves-as : {arena : Arena} {old new : Rows Row} {before after : Pool} {v first : ℕ} {Keeps Other : Slots → Slots → Type 0} →
    Moves arena old new before after v first Keeps → Other (slots_of old) (slots_of new) → Moves arena old new before after v first Other
moves-as {arena} {old} {new} {before} {after} {v} {first} {Keeps} {Other} one keeps = record { accounts = one.accounts; shows = one.shows; keeps = keeps }

pub moves-then : {arena : Arena} {old mid new : Rows Row} {before between after : Pool} {v first : ℕ} {Keeps : Slots → Slots → Type 0} →
    (Keeps (slots_of old) (slots_of mid) → Keeps (slots_of mid) (slots_of new) → Keeps (slots_of old) (slots_of new)) →
    Moves arena old mid before between v first Keeps → Moves arena mid new between after v first Keeps → Moves arena old new before after v first Keeps
moves-then {arena} {old} {mid} {new} {before} {between} {after} {v} {first} {Keeps} keeps one two = record {
  accounts = accounts-then one.accounts two.accounts;
  shows = λ w q page sight. two.shows w q (page-over (tree_of arena old) (slots_of mid) w q page) sight ∙ one.shows w q page sight;
  keeps = keeps one.keeps two.keeps;
}

pub moves-same : {arena : Arena} {rows : Rows Row} {pool : Pool} {v first : ℕ} {Keeps : Slots → Slots → Type 0} → Keeps (slots_of rows) (slots_of rows) →
    Moves arena rows rows pool pool v first Keeps
moves-same {arena} {rows} {pool} {v} {first} {Keeps} keeps = record { accounts = accounts-same rows pool; shows = λ w q page sight. refl; keeps = keeps }

pub lost-same : {arena : Arena} {rows : Rows Row} {pool : Pool} {v first : ℕ} → Moves arena rows rows pool pool v first IsPartOf
lost-same {arena} {rows} {pool} {v} {first} = moves-same (part-same (slots_of rows))

pub lost-then : {arena : Arena} {old mid new : Rows Row} {before between after : Pool} {v first : ℕ} → Moves arena old mid before between v first IsPartOf →
    Moves arena mid new between after v first IsPartOf → Moves arena old new before after v first IsPartOf
lost-then {arena} {old} {mid} {new} {before} {between} {after} {v} {first} = moves-then (part-then (slots_of old) (slots_of mid) (slots_of new))

pub given-none : (pool : Pool) → HasGiven pool pool None
unfolding without_frame
given-none pool = record { taken = λ t. kept t; links = refl; gives = gives-same pool }
  where
    kept : (t : ℕ) → is_taken pool t ≡ without_frame (is_taken pool) None t
    kept t = refl

without-one : (pool : Pool) (tag t : ℕ) → is_some (without_key (taken_frames pool) tag t) ≡ without_frame (is_taken pool) (Some tag) t
unfolding without_frame
without-one pool tag t = elim (cases_eq t tag) [
  | inl same ↦
      ap is_some (ap (without_key (taken_frames pool) tag) same ∙ without_key-same (taken_frames pool) tag)
      ∙ sym (ap (λ b. not b && is_taken pool t) (eq-eqb t tag same))
  | inr apart ↦
      ap is_some (without_key-other (taken_frames pool) tag t apart) ∙ sym (ap (λ b. not b && is_taken pool t) (ne_eqb t tag apart))
]

pub given-one : (before after : Pool) (tag : ℕ) → after.frames ≡ before.frames → links_of after ≡ links_of before →
    taken_frames after ≡ without_key (taken_frames before) tag → HasGiven before after (Some tag)
given-one before after tag frames links taken = record {
  taken = λ t. ap (λ f. is_some (f t)) taken ∙ without-one before tag t;
  links = links;
  gives = record {
    frames = frames;
    kept = λ t. elim (cases_eq t tag) [
      | inl same ↦ inr (ap (λ f. f t) taken ∙ (ap (without_key (taken_frames before) tag) same ∙ without_key-same (taken_frames before) tag))
      | inr apart ↦ inl (ap (λ f. f t) taken ∙ without_key-other (taken_frames before) tag t apart)
    ];
  };
}

-- no frame is given back but that of a last viewer
pub given-kept : (pool : Pool) (answer : Cut) → ((tag : Tag) → answer ≡ Cut.LastViewer tag → ⊥) → HasGiven pool pool (frame_left answer)
given-kept pool (Cut.LastViewer tag) other = absurd (other tag refl)
given-kept pool Cut.StillSeen other = given-none pool
given-kept pool Cut.NothingThere other = given-none pool

-- ---- one page

module _ (arena : Arena) (old new : Rows Row) (v p : ℕ) (node : Node) (visible : IsVisible (nodes_of arena) v node) where
  -- the frame that is to be given back is taken
  pub cut-taken : (pool : Pool) (out : ℕ → ℕ → Bool) (answer : Cut) (tag : Tag) → IsExact (tree_of arena old) out (is_taken pool) →
      IsOnlyOf out v → slots_of old node.list.0 p ≡ None → HasCut arena old new v p answer → answer ≡ Cut.LastViewer tag →
      IsSome (taken_frames pool tag.0)
  cut-taken pool out answer tag exact only none has is =
      let last = cut-last (tree_of arena old) out (is_taken pool) exact v p only node visible none tag in
      let shown = last.0 (sym has.answers ∙ is) in
      frame-in_use (tree_of arena old) out (is_taken pool) exact v p tag.0 shown.0

  pub cut-left_out : (before after : Pool) (answer : Cut) → IsForest (nodes_of arena) arena.lists → slots_of old node.list.0 p ≡ None →
      HasCut arena old new v p answer → HasGiven before after (frame_left answer) → {Spared : Type 0} (out : ℕ → ℕ → Bool) →
      IsExact (tree_of arena old) out (is_taken before) → IsOnlyOf out v → HasCutOff arena old new before after v p Spared out
  cut-left_out before after answer forest none has given {Spared} out exact only = record {
    now = leaving_out out v p;
    leaves = inl refl;
    exact =
        exact-in_use_alike (tree_of arena new) (leaving_out out v p) (without_frame (is_taken before) (frame_left answer)) (is_taken after)
        (λ t. sym (given.taken t))
        (subst
        (λ s. IsExact (record (tree_of arena old) { slots = s }) (leaving_out out v p) (without_frame (is_taken before) (frame_left answer)))
        (sym has.slots)
        (subst
        (λ a. IsExact (record (tree_of arena old) { slots = cut_slots (tree_of arena old) v p }) (leaving_out out v p) (without_frame (is_taken before) (frame_left a)))
        (sym has.answers)
        (exact-cut (tree_of arena old) out (is_taken before) exact v p only node visible none)));
    shows = λ w q page in_sight.
        ap (λ s. frame_shown (record (tree_of arena old) { slots = s }) w q) has.slots
        ∙ cut-shows (tree_of arena old) out (is_taken before) exact v p only node visible none w q page in_sight;
    part = part;
    accounts = accounts-part old new before after (frame_left answer) part given has.spare has.count;
  }
    where
      part : IsPartOf (slots_of old) (slots_of new)
      part = part-cut arena old new v p answer forest node visible none has

  drop-left_out : (before after : Pool) (row : Slot) → IsForest (nodes_of arena) arena.lists → slots_of old node.list.0 p ≡ Some row →
      slots_of new ≡ with_pair (slots_of old) node.list.0 p None → HasGiven before after (frame_in row) → old.spare ≤ new.spare →
      row_count new ≤ row_count old → {Spared : Type 0} (out : ℕ → ℕ → Bool) → IsExact (tree_of arena old) out (is_taken before) →
      HasCutOff arena old new before after v p Spared out
  drop-left_out before after row forest at slots given spare count {Spared} out exact = record {
    now = leaving_out out v p;
    leaves = inl refl;
    exact =
        exact-in_use_alike (tree_of arena new) (leaving_out out v p) (without_frame (is_taken before) (frame_in row)) (is_taken after)
        (λ t. sym (given.taken t))
        (subst
        (λ s. IsExact (record (tree_of arena old) { slots = s }) (leaving_out out v p) (without_frame (is_taken before) (frame_in row)))
        (sym slots)
        (exact-own_gone (tree_of arena old) v p node visible out (is_taken before) row exact at));
    shows = λ w q page in_sight.
        ap (λ s. frame_shown (record (tree_of arena old) { slots = s }) w q) slots
        ∙ own-shows (tree_of arena old) v p node visible forest None w q page (left_out-in_sight out v p w q in_sight).0;
    part = part;
    accounts = accounts-part old new before after (frame_in row) part given spare count;
  }
    where
      part : IsPartOf (slots_of old) (slots_of new)
      part = subst (λ s. IsPartOf (slots_of old) s) (sym slots) (part-with_pair (slots_of old) node.list.0 p None (λ row e. absurd (cc)))

-- ---- pages, one after another

-- nothing changes, and the page is spared
pub cut-spared : {arena : Arena} {rows : Rows Row} {pool : Pool} {v p : ℕ} {Spared : Type 0} {out : ℕ → ℕ → Bool} → IsExact (tree_of arena rows) out (is_taken pool) →
    Spared → HasCutOff arena rows rows pool pool v p Spared out
cut-spared {arena} {rows} {pool} {v} {p} {Spared} {out} exact spared = record {
  now = out;
  leaves = inr (refl, spared);
  exact = exact;
  shows = λ w q page sight. refl;
  part = part-same (slots_of rows);
  accounts = accounts-same rows pool;
}

-- one page was cut off, or none
module _ {arena : Arena} {old new : Rows Row} {before after : Pool} {v p : ℕ} {Spared : Type 0} {out : ℕ → ℕ → Bool}
    (step : HasCutOff arena old new before after v p Spared out) where
  -- a page that is in sight was so
  pub cut-was : (w q : ℕ) → step.now w q ≡ false → out w q ≡ false
  cut-was w q sight = elim step.leaves [
    | inl more ↦ (left_out-in_sight out v p w q (ap (λ f. f w q) (sym more) ∙ sight)).1
    | inr same ↦ ap (λ f. f w q) (sym same.0) ∙ sight
  ]

  -- and if it is this one, it is spared
  pub cut-here : (q : ℕ) → step.now v q ≡ false → q ≡ p → Spared
  cut-here q sight here = elim step.leaves [
    | inl more ↦ absurd ((left_out-in_sight out v p v q (ap (λ f. f v q) (sym more) ∙ sight)).0 (refl, here))
    | inr same ↦ same.1
  ]

  module _ {first : ℕ} (from : first ≤ p) (only : IsOnlyOf out v) (within : (q : ℕ) → out v q ≡ true → first ≤ q) where
    pub cut-only : IsOnlyOf step.now v
    cut-only = elim step.leaves [
      | inl more ↦ subst (λ f. IsOnlyOf f v) (sym more) (only-more out v p only)
      | inr same ↦ subst (λ f. IsOnlyOf f v) (sym same.0) only
    ]

    pub cut-within : (q : ℕ) → step.now v q ≡ true → first ≤ q
    cut-within q gone = elim step.leaves [
      | inl more ↦ elim (cases_eq q p) [
        | inl here ↦ omega arith
        | inr apart ↦ within q (sym (left_out-other out v p v q (λ both. apart both.1)) ∙ (ap (λ f. f v q) (sym more) ∙ gone))
      ]
      | inr same ↦ within q (ap (λ f. f v q) (sym same.0) ∙ gone)
    ]

    pub cut-lost : Moves arena old new before after v first IsPartOf
    cut-lost = record { accounts = step.accounts; shows = λ w q page before. step.shows w q page (sight w q before); keeps = step.part }
      where
        sight : (w q : ℕ) → (w ≡ v → q < first) → step.now w q ≡ false
        sight w q before = elim (cases_Bool (step.now w q)) [
          | inl gone ↦
              let same = cut-only w q gone in
              absurd (omega (arith, cut-within q (sym (ap (λ k. step.now k q) same) ∙ gone), before same))
          | inr seen ↦ seen
        ]

-- the same of a node without rows from there on
abbrev pub bare-cut : {arena : Arena} {old new : Rows Row} {before after : Pool} {v first p : ℕ} {Spared : Type 0} (was : IsLeftBare arena old before v first) →
    HasCutOff arena old new before after v p Spared was.has.out → first ≤ p → IsLeftBare arena new after v first
bare-cut {arena} {old} {new} {before} {after} {v} {first} {p} {Spared} was step from = record {
  has = record { out = step.now; exact = step.exact; only = cut-only step from was.has.only was.within; node = was.has.node; visible = was.has.visible };
  within = cut-within step from was.has.only was.within;
  bare = λ q start. part-none (slots_of old) (slots_of new) step.part was.has.node.list.0 q (was.bare q start);
}

-- ---- the own rows

-- what a caller says of the node
pub visible-of : (arena : Arena) {v : ℕ} {node : Node} → IsSomeAnd (nodes_of arena v) (λ (node : Node). IsSome node.koid) →
    nodes_of arena v ≡ Some node → IsVisible (nodes_of arena) v node
visible-of arena {v} {node} some at =
    record { at = at; koid = subst (λ (o : Option Node). IsSomeAnd o (λ (node : Node). IsSome node.koid)) at some }

pub dropping-start : (arena : Arena) (rows : Rows Row) (pool : Pool) (v : ℕ) (node : Node) (first : ℕ) →
    IsExact (tree_of arena rows) all_in_sight (is_taken pool) → IsVisible (nodes_of arena) v node → IsDropping arena rows pool v node first first
dropping-start arena rows pool v node first exact visible = record {
  out = all_in_sight;
  exact = exact;
  only = only-none v;
  within = λ q e. absurd (cc);
  visible = visible;
  bare = λ p from to. absurd (omega arith);
}

-- the own row of one page more goes
module _ {arena : Arena} {old : Rows Row} {before : Pool} {v : ℕ} {node : Node} {first end : ℕ} (page : ℕ) {row : Slot}
    (was : IsDropping arena old before v node first end) (at : slots_of old node.list.0 page ≡ Some row) where
  pub dropping-taken : (tag : ℕ) → frame_in row ≡ Some tag → IsSome (taken_frames before tag)
  dropping-taken tag frame = was.exact.used node.list.0 page row tag at frame

  module _ (new : Rows Row) {after : Pool} (from : first ≤ end) (next : IsNext (slots_of old node.list.0) end (Some page))
      (slots : slots_of new ≡ with_pair (slots_of old) node.list.0 page None) (given : HasGiven before after (frame_in row))
      (spare : old.spare ≤ new.spare) (count : row_count new ≤ row_count old) where
    step : HasCutOff arena old new before after v page ⊥ was.out
    step = drop-left_out arena old new v page node was.visible before after row was.exact.forest at slots given spare count was.out was.exact

    past : first ≤ page
    past = let least = next.least page refl in omega (arith, least.0)

    pub dropping-more : IsDropping arena new after v node first page
    dropping-more = record {
      out = step.now;
      exact = step.exact;
      only = cut-only step past was.only was.within;
      within = cut-within step past was.only was.within;
      visible = was.visible;
      bare = λ p start to. ap is_some (part-none (slots_of old) (slots_of new) step.part node.list.0 p (elim (cases_lt p end) [
        | inl before ↦ none_is (slots_of old node.list.0 p) (was.bare p start before)
        | inr past ↦ (next.least page refl).2 p past to
      ]));
    }

    pub dropping-lost : Moves arena old new before after v first IsPartOf
    dropping-lost = cut-lost step past was.only was.within

pub dropping-end : {arena : Arena} {rows : Rows Row} {pool : Pool} {v : ℕ} {node : Node} {first end : ℕ} →
    IsDropping arena rows pool v node first end → first ≤ end → IsNext (slots_of rows node.list.0) end None → IsLeftBare arena rows pool v first
dropping-end {arena} {rows} {pool} {v} {node} {first} {end} was from next = record {
  has = record { out = was.out; exact = was.exact; only = was.only; node = node; visible = was.visible };
  within = was.within;
  bare = λ p start. elim (cases_lt p end) [
    | inl before ↦ none_is (slots_of rows node.list.0 p) (was.bare p start before)
    | inr past ↦ next.none refl p past
  ];
}
