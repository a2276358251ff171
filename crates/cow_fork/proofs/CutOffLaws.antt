-- What a cut leaves of the tree and of the frames, where a page had no row of its own.
use Rattle.cow_fork.proofs.Words.{◌≡◌, ◌⊎◌, ◌↔◌, ℕ, Bool, true, Option, None, Some, IsSome, refl, sym, ap, ◌∙◌, subst, inl, inr, is_some}
use Rattle.cow_fork.proofs.Words.{IsSomeAnd, Tag, Rows, Row, slots_of, Pool, Node, Arena, nodes_of, Slots, Tree, walk, frame_shown, Cut}
use Rattle.cow_fork.proofs.Words.{Holder, tree_of, holder_of, frame_held, ShowsSame, IsNotPage, IsExact, all_in_sight, leaving_out}
use Rattle.cow_fork.proofs.Words.{without_frame, HasCut, cut_slots, frame_left, IsSole, HasSole, HasFree, LeavesFrame}
use Rattle.cow_split.proofs.RowLaws.{only-none, frame-in_use}
use Rattle.cow_split.proofs.HolderLaws.{cut-exactly, cut-found_nothing, cut-last_viewer}
use Rattle.cow_split.proofs.CutLaws.{cut-own, cut-others}
use Rattle.cow_fork.proofs.LeafLaws.{IsLeaf, tree-with, leaf-row}
use Rattle.cow_fork.proofs.HolderLaws.{held-shown}

-- A page without a row of its own was cut off from the row that it saw.
module _ {arena : Arena} {old mid : Rows Row} {v p : ℕ} {node : Node} {answer : Cut} (leaf : IsLeaf arena old v p node)
    (none : slots_of old node.list.0 p ≡ None) (is : HasCut arena old mid v p answer) where
  pub cut-free : slots_of mid node.list.0 p ≡ None
  cut-free = ap (λ (s : Slots). s node.list.0 p) is.slots
      ∙ (cut-own (tree_of arena old) leaf.forest v p node leaf.visible none v p node leaf.visible ∙ none)

  pub cut-bare : (n : Node) → nodes_of arena v ≡ Some n → slots_of mid n.list.0 p ≡ None
  cut-bare = leaf-row leaf mid None cut-free

  cut-leaf : IsSomeAnd (nodes_of arena v) (λ n. IsSome n.koid × (slots_of old n.list.0 p ≡ None))
  cut-leaf = subst (λ (o : Option Node). IsSomeAnd o (λ n. IsSome n.koid × (slots_of old n.list.0 p ≡ None))) (sym leaf.visible.at)
      (leaf.visible.koid, none)

  -- the tree is exact, with the page out of sight
  pub cut-exact : (in_use : ℕ → Bool) → IsExact (tree_of arena old) all_in_sight in_use →
      IsExact (tree_of arena mid) (leaving_out all_in_sight v p) (without_frame in_use (frame_left answer))
  cut-exact in_use exact = cut-exactly arena old mid v p answer leaf.forest cut-leaf is all_in_sight in_use exact (only-none v)

  cut-none : (answer ≡ Cut.NothingThere) ↔ (frame_shown (tree_of arena old) v p ≡ None)
  cut-none = cut-found_nothing arena old mid v p answer leaf.forest cut-leaf is

  cut-sole : (in_use : ℕ → Bool) → IsExact (tree_of arena old) all_in_sight in_use → (tag : Tag) →
      (answer ≡ Cut.LastViewer tag) ↔ IsSole (tree_of arena old) v p tag.0
  cut-sole in_use exact tag =
      let ways = cut-last_viewer arena old mid v p answer leaf.forest cut-leaf is all_in_sight in_use exact (only-none v) tag in
      (λ e. let both = ways.0 e in record { shows = both.0; last = both.1 }, λ sole. ways.1 (sole.shows, sole.last))

  pub cut-other : (in_use : ℕ → Bool) → IsExact (tree_of arena old) all_in_sight in_use →
      ShowsSame (tree_of arena old) (tree_of arena mid) (IsNotPage v p)
  cut-other in_use exact =
      let t = tree_of arena old in
      subst (λ (u : Tree). ShowsSame t u (IsNotPage v p)) (sym (tree-with arena old mid (cut_slots t v p) is.slots))
      (cut-others t all_in_sight in_use exact v p (only-none v) node leaf.visible none)

-- What the answer says of a page that was cut off from the row which held it, where these frames were in use.
pub record IsCutOff (t : Tree) (v p : ℕ) (in_use : ℕ → Bool) (found : Holder) (answer : Cut) : Type 0 where
  pub held : frame_held found ≡ frame_shown t v p
  pub used : (tag : ℕ) → frame_shown t v p ≡ Some tag → in_use tag ≡ true
  pub nothing : (answer ≡ Cut.NothingThere) ↔ (frame_shown t v p ≡ None)
  pub last : (tag : Tag) → (answer ≡ Cut.LastViewer tag) ↔ IsSole t v p tag.0

pub cut_off : {arena : Arena} {old mid : Rows Row} {v p : ℕ} {node : Node} {answer : Cut} (leaf : IsLeaf arena old v p node)
    (none : slots_of old node.list.0 p ≡ None) (is : HasCut arena old mid v p answer) (in_use : ℕ → Bool) (found : Holder) →
    IsExact (tree_of arena old) all_in_sight in_use → found ≡ holder_of (walk (tree_of arena old) v p) →
    IsCutOff (tree_of arena old) v p in_use found answer
cut_off {arena} {old} {mid} {v} {p} {node} {answer} leaf none is in_use found exact held =
    record {
      held = held-shown (tree_of arena old) v p found held;
      used = frame-in_use (tree_of arena old) all_in_sight in_use exact v p;
      nothing = cut-none leaf none is;
      last = cut-sole leaf none is in_use exact;
    }

-- an answer leaves a frame or none
pub leaves_cases : (answer : Cut) → LeavesFrame answer ⊎ ((LeavesFrame answer → ⊥) × (frame_left answer ≡ None))
leaves_cases (Cut.LastViewer tag) = inl (record { tag = tag; last = refl })
leaves_cases Cut.StillSeen = inr (λ leaves. let last = leaves.last in absurd (cc), refl)
leaves_cases Cut.NothingThere = inr (λ leaves. let last = leaves.last in absurd (cc), refl)

module _ {t : Tree} {v p : ℕ} {in_use : ℕ → Bool} {found : Holder} {answer : Cut} (off : IsCutOff t v p in_use found answer) where
  -- what is left is what the page showed alone
  sole-leaves : (tag : ℕ) → IsSole t v p tag → LeavesFrame answer
  sole-leaves tag sole = let it : Tag = record { 0 = tag } in record { tag = it; last = (off.last it).1 sole }

  pub leaves-sole : (leaves : LeavesFrame answer) → IsSole t v p leaves.tag.0
  leaves-sole leaves = (off.last leaves.tag).0 leaves.last

  -- the frame for the page can be had: a free one, or the one that is left
  pub free-cut : (pool : Pool) → HasFree pool ⊎ HasSole t v p → HasFree pool ⊎ LeavesFrame answer
  free-cut pool free = elim free [ inl some ↦ inl some | inr sole ↦ inr (sole-leaves sole.tag sole.sole) ]

  pub held-used : (tag : ℕ) → frame_held found ≡ Some tag → in_use tag ≡ true
  held-used tag e = off.used tag (sym off.held ∙ e)

  pub held-seen : answer ≡ Cut.StillSeen → IsSome (frame_held found)
  held-seen seen = with_frame_held (frame_held found) refl
    where
      with_frame_held : (o : Option ℕ) → frame_held found ≡ o → IsSome (frame_held found)
      with_frame_held None e = let nothing = off.nothing.1 (sym off.held ∙ e) in absurd (cc)
      with_frame_held (Some tag) e = ap is_some e

  pub held-nothing : answer ≡ Cut.NothingThere → frame_held found ≡ None
  held-nothing nothing = off.held ∙ off.nothing.0 nothing
