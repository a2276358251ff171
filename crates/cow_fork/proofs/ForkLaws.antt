-- What a fork makes of the clone tree and of the pool.
use Rattle.cow_fork.proofs.Words.{◌≡◌, ◌≢◌, ◌⊎◌, ℕ, ◌+◌, Bool, false, Option, None, Some, refl, sym, ap, ◌∙◌, subst, inl, inr, arith}
use Rattle.cow_fork.proofs.Words.{some_same, Tag, Rows, with_pair, Row, Slot, slots_of, Pool, Takes, taken_frames, is_taken, links_of, Node}
use Rattle.cow_fork.proofs.Words.{Arena, Slots, Tree, frame_shown, frame_in, Cut, Holder, tree_of, with_row, frame_held, IsExact}
use Rattle.cow_fork.proofs.Words.{all_in_sight, with_frame, without_frame, HasCut, frame_left, bytes_shown, IsSole, HasSole, HasFree}
use Rattle.cow_fork.proofs.Words.{LeavesFrame}
use Rattle.vm_base.specs.Pages.{zeros}
use Rattle.cow_split.proofs.RowLaws.{without_frame-none, exact-in_use_alike, exact-own_comes, exact-own_filled}
use Rattle.cow_split.proofs.PartLaws.{part-cut, bare-part, bare-then, stood-with_pair}
use Rattle.cow_fork.specs.Forking.{HasOwned}
use Rattle.cow_fork.proofs.PoolLaws.{with_frame-back, without_frame-same, taken-with, taken-unused}
use Rattle.cow_fork.proofs.LeafLaws.{IsLeaf, others-on, leaf-on, put-tree, put-row, put-others, put-rows}
use Rattle.cow_fork.proofs.CutOffLaws.{IsCutOff, cut-free, cut-exact, cut-other, leaves_cases, leaves-sole}
use Rattle.cow_fork.proofs.HolderLaws.{own-shown}

-- where a page gets a row of this frame, the row of each other frame stood where it stands
pub stood-put : (slots now : Slots) (l p : ℕ) (tag : Tag) → now ≡ with_pair slots l p (Some (Slot.Frame tag false false)) →
    (m q : ℕ) (row : Slot) (t : ℕ) → now m q ≡ Some row → frame_in row ≡ Some t → t ≢ tag.0 → slots m q ≡ Some row
stood-put slots now l p tag put m q row t at frame apart =
    stood-with_pair slots l p (Slot.Frame tag false false) m q row t (ap (λ (s : Slots). s m q) (sym put) ∙ at) frame
    (λ same. apart (sym (some_same same)))

-- ---- over an own zero row

-- a page that shows nothing is not shown alone
none-sole : (t : Tree) (v p : ℕ) → frame_shown t v p ≡ None → (tag : ℕ) → IsSole t v p tag → ⊥
none-sole t v p none tag sole = let shown = sole.shows in absurd (cc)

module _ {arena : Arena} {old : Rows Row} {v p : ℕ} {node : Node} (leaf : IsLeaf arena old v p node)
    (own : slots_of old node.list.0 p ≡ Some Slot.Zero) where
  pub free-own : (pool : Pool) → HasFree pool ⊎ HasSole (tree_of arena old) v p → HasFree pool
  free-own pool free = elim free [
    | inl some ↦ some
    | inr sole ↦ absurd (none-sole (tree_of arena old) v p (own-shown leaf Slot.Zero own) sole.tag sole.sole)
  ]

  pub forked-own : (new : Rows Row) (before after : Pool) (tag : Tag) → IsExact (tree_of arena old) all_in_sight (is_taken before) →
      slots_of new ≡ with_pair (slots_of old) node.list.0 p (Some (Slot.Frame tag false false)) → new.spare ≡ old.spare →
      Takes before after tag.0 zeros → after.frames ≡ before.frames →
      HasOwned arena old new before after v p tag.0
  forked-own new before after tag exact put spare takes frames =
      let t = tree_of arena old in
      let row : Option Slot = Some (Slot.Frame tag false false) in
      let zero = own-shown leaf Slot.Zero own in
      record {
        exact = subst (λ (u : Tree). IsExact u all_in_sight (is_taken after)) (sym (put-tree leaf new row put))
            (exact-in_use_alike (with_row t node.list.0 p row) all_in_sight (with_frame (is_taken before) (Some tag.0)) (is_taken after)
            (taken-with before after tag.0 zeros takes)
            (exact-own_filled t v p node leaf.visible all_in_sight (is_taken before) tag exact own (taken-unused before after tag.0 zeros takes)));
        shows = own-shown (leaf-on leaf new) (Slot.Frame tag false false) (put-row leaf new row put node leaf.visible.at);
        others = put-others leaf new row put;
        stays = λ other sole. absurd (none-sole t v p zero other sole);
        taken = λ shared. subst (λ shown. Takes before after tag.0 (bytes_shown before shown)) (sym zero) takes;
        rows = put-rows leaf new row put;
        frames = frames;
        spare = omega (arith, spare);
      }

-- ---- after a cut

-- After a cut this frame is at hand for the page: the one that is left, or one that was taken with the bytes of the page.
pub record HasTaken (before after : Pool) (found : Holder) (answer : Cut) (tag : Tag) : Type 0 where
  pub last : (left : Tag) → answer ≡ Cut.LastViewer left → (tag ≡ left) × (after ≡ before)
  pub taken : (LeavesFrame answer → ⊥) → Takes before after tag.0 (bytes_shown before (frame_held found))
  pub links : links_of after ≡ links_of before
  pub frames : after.frames ≡ before.frames

module _ {t : Tree} {v p : ℕ} {before after : Pool} {found : Holder} {answer : Cut} {tag : Tag}
    (off : IsCutOff t v p (is_taken before) found answer) (has : HasTaken before after found answer tag) where
  -- it stands in no row then
  taken-free : without_frame (is_taken before) (frame_left answer) tag.0 ≡ false
  taken-free = elim (leaves_cases answer) [
    | inl leaves ↦
        subst (λ (a : Cut). without_frame (is_taken before) (frame_left a) tag.0 ≡ false) (sym leaves.last)
        (subst (λ (left : Tag). without_frame (is_taken before) (Some left.0) tag.0 ≡ false) (has.last leaves.tag leaves.last).0
        (without_frame-same (is_taken before) tag.0))
    | inr stays ↦
        subst (λ frame. without_frame (is_taken before) frame tag.0 ≡ false) (sym stays.1)
        (ap (λ (used : ℕ → Bool). used tag.0) (without_frame-none (is_taken before)) ∙ taken-unused before after tag.0 _ (has.taken stays.0))
  ]

  -- and those in use with it are those that are taken
  taken-used : (n : ℕ) → with_frame (without_frame (is_taken before) (frame_left answer)) (Some tag.0) n ≡ is_taken after n
  taken-used n = elim (leaves_cases answer) [
    | inl leaves ↦
        let it = leaves.last in
        let moved = has.last leaves.tag it in
        rw (it, moved.0, moved.1) (with_frame-back (is_taken before) leaves.tag.0 (off.used leaves.tag.0 (leaves-sole off leaves).shows) n)
    | inr stays ↦
        rw stays.1 (ap (λ (used : ℕ → Bool). with_frame used (Some tag.0) n) (without_frame-none (is_taken before))
        ∙ taken-with before after tag.0 _ (has.taken stays.0) n)
  ]

  -- a frame that v alone showed moves
  frame-moved : (sole : ℕ) → IsSole t v p sole → (tag.0 ≡ sole) × (taken_frames after ≡ taken_frames before)
  frame-moved sole is =
      let left : Tag = record { 0 = sole } in
      let moved = has.last left ((off.last left).1 is) in
      (ap (λ (x : Tag). x.0) moved.0, ap taken_frames moved.1)

  -- another is copied
  frame-copied : ((sole : ℕ) → IsSole t v p sole → ⊥) → Takes before after tag.0 (bytes_shown before (frame_shown t v p))
  frame-copied shared =
      subst (λ shown. Takes before after tag.0 (bytes_shown before shown)) off.held
      (has.taken (λ leaves. shared leaves.tag.0 (leaves-sole off leaves)))

-- After the cut the page gets a row of its own, with this frame.
pub forked-cut : {arena : Arena} {old mid : Rows Row} {v p : ℕ} {node : Node} {answer : Cut} (leaf : IsLeaf arena old v p node)
    (none : slots_of old node.list.0 p ≡ None) (is : HasCut arena old mid v p answer) (new : Rows Row) (before after : Pool)
    (found : Holder) (tag : Tag) → IsExact (tree_of arena old) all_in_sight (is_taken before) →
    IsCutOff (tree_of arena old) v p (is_taken before) found answer → HasTaken before after found answer tag →
    slots_of new ≡ with_pair (slots_of mid) node.list.0 p (Some (Slot.Frame tag false false)) → new.spare + 1 ≡ mid.spare →
    HasOwned arena old new before after v p tag.0
forked-cut {arena} {old} {mid} {v} {p} {node} {answer} leaf none is new before after found tag exact off has put spare =
    let u = tree_of arena mid in
    let row : Option Slot = Some (Slot.Frame tag false false) in
    let left = without_frame (is_taken before) (frame_left answer) in
    let came = exact-own_comes u v p node leaf.visible all_in_sight left (Slot.Frame tag false false)
    (cut-exact leaf none is (is_taken before) exact) (cut-free leaf none is) leaf.below (refl, refl)
    (λ n e. subst (λ n. left n ≡ false) (some_same e) (taken-free off has)) in
    record {
      exact = subst (λ (w : Tree). IsExact w all_in_sight (is_taken after)) (sym (put-tree (leaf-on leaf mid) new row put))
          (exact-in_use_alike (with_row u node.list.0 p row) all_in_sight (with_frame left (Some tag.0)) (is_taken after)
          (taken-used off has) came);
      shows = own-shown (leaf-on leaf new) (Slot.Frame tag false false) (put-row (leaf-on leaf mid) new row put node leaf.visible.at);
      others = others-on (tree_of arena old) u (tree_of arena new) v p refl (cut-other leaf none is (is_taken before) exact)
          (put-others (leaf-on leaf mid) new row put);
      stays = frame-moved off has;
      taken = frame-copied off has;
      rows = λ n at. bare-then (slots_of old) (slots_of mid) (slots_of new) n.list.0
          (bare-part (slots_of old) (slots_of mid) n.list.0 (part-cut arena old mid v p answer leaf.forest node leaf.visible none is))
          (put-rows (leaf-on leaf mid) new row put n at);
      frames = has.frames;
      spare = let kept = is.spare in omega (arith, spare, kept);
    }
