-- The rows that a slab and a link show are those of the tree that stands there.
use Rattle.std.proofs.Common.{◌≡◌, ℕ, zero, suc, ◌+◌, ◌-◌, ◌*◌, ◌<◌, ◌≤◌, ◌^◌, true, false, [], length, Option, None, Some, is_some, IsSome, IsNone, slice_index_or, count_by, refl, sym, ap, ◌∙◌, subst, arith}
use Rattle.slab.specs.Slab.{Slab, slab_len}
use Rattle.balanced_tree.specs.declared.changes.Change.{Change}
use Rattle.balanced_tree.specs.Row.{Functions, AreLawful, plain}
use Rattle.balanced_tree.specs.Rows.{row_at, row_from, row_to, with_row, without_rank, AreAllBeside, IsRising}
use Rattle.balanced_tree.specs.inside.Tree.{SearchTree, Leaf, Node, place_of, height, child_of, rows_of, has_rank, row_in, found, inserted, removed, moved, AreBeside}
use Rattle.balanced_tree.specs.inside.Standing.{root_after, Spells, IsStanding, HasInserted, HasRemoved, HasMoved, height_at, rows_down, rows_in, IsTree}
use Rattle.balanced_tree.proofs.Spelling.{link_of-child_of, child_at-place_of}
use Rattle.balanced_tree.proofs.Nodes.{height_at-standing}
use Rattle.balanced_tree.proofs.Hiding.{rooted-link}
use Rattle.balanced_tree.proofs.TreeLaws.{IsGrown, IsShrunk, grown-inserted, shrunk-removed, place-moved, height-moved, balanced-moved, length-moved}
use Rattle.balanced_tree.proofs.RowLaws.{option_or-none, rises-rows, rows-inserted, rows-removed, rows-moved, beside-rows, found-row_from, found-row_to, row_in-row_at, length-inserted, length-removed}
use Rattle.balanced_tree.proofs.Costs.{height-short, look_cost, change_cost}

module _ {R : Type 0} (f : Functions R) (laws : AreLawful f) where
  rows_down-tree : (n : ℕ) (s : Slab R) (t : SearchTree R) → Spells f s t → height t ≤ n → rows_down f n s (place_of t) ≡ rows_of f t
  unfolding rows_down
  rows_down-tree zero s Leaf h short = refl
  rows_down-tree (suc n) s Leaf h short = refl
  rows_down-tree zero s (Node l p x r) h short = absurd (omega arith)
  rows_down-tree (suc n) s (Node l p x r) h short =
      let on_l = rows_down-tree n s l h.1 (omega arith) in
      let on_r = rows_down-tree n s r h.2 (omega arith) in
      let row = f.linked x (child_of f l) (child_of f r) in
      let left_is : f.left row ≡ place_of l = laws.left_set x _ _ ∙ link_of-child_of f l in
      let right_is : f.right row ≡ place_of r = laws.right_set x _ _ ∙ link_of-child_of f r in
      let plain_is : plain f row ≡ plain f x = laws.forgets x _ _ None None in
      rw (child_at-place_of f s (Node l p x r) h, left_is, right_is, plain_is, on_l, on_r) refl

  pub rows_in-standing : {s : Slab R} {root : Option ℕ} {t : SearchTree R} {low high : ℕ} → IsStanding f s root t low high → (rows_in f s root).rows ≡ rows_of f t
  rows_in-standing {s} {root} {t} h =
      let tall = height_at-standing f laws h in
      ap (λ q. rows_down f (height_at f s root) s q) (sym h.is_at) ∙ rows_down-tree (height_at f s root) s t h.spelled (omega arith)

  pub rows-empty : (s : Slab R) → rows_down f 0 s None ≡ []
  unfolding rows_down
  rows-empty s = refl

  pub IsTree-empty : (s : Slab R) → s.slots ≡ [] → s.capacity ≡ 0 → IsTree f s None
  IsTree-empty s none no_room =
      let len : slab_len s ≡ 0 = ap (λ u. count_by is_some u) none in
      record {
        tree = Leaf;
        standing = record { spelled = tt; is_at = refl; ordered = omega arith; short = omega arith; balanced = tt };
        balanced = tt;
        count = len;
        holds = omega arith;
        fits = omega arith;
      }

  -- more room in the slab changes nothing of the tree
  Spells-slots : (s s1 : Slab R) (t : SearchTree R) → s1.slots ≡ s.slots → Spells f s t → Spells f s1 t
  Spells-slots s s1 Leaf same h = tt
  Spells-slots s s1 (Node l p x r) same h = (ap (λ u. slice_index_or u p None) same ∙ h.0, Spells-slots s s1 l same h.1, Spells-slots s s1 r same h.2)

  roomy_standing : {s s1 : Slab R} {root : Option ℕ} → s1.slots ≡ s.slots → (h : IsTree f s root) → IsStanding f s1 root h.tree 0 (2 ^ 128)
  roomy_standing {s} {s1} same h =
      record { spelled = Spells-slots s s1 h.tree same h.standing.spelled; is_at = h.standing.is_at; ordered = h.standing.ordered; short = h.standing.short; balanced = h.balanced }

  pub IsTree-roomy : {s s1 : Slab R} {root : Option ℕ} → s1.slots ≡ s.slots → slab_len s1 ≤ s1.capacity → s1.capacity < 2 ^ 64 → IsTree f s root → IsTree f s1 root
  IsTree-roomy {s} {s1} same holds fits h =
      record { tree = h.tree; standing = roomy_standing same h; balanced = h.balanced; count = ap (λ u. count_by is_some u) same ∙ h.count; holds = holds; fits = fits }

  pub rows-roomy : (s s1 : Slab R) (root : Option ℕ) → s1.slots ≡ s.slots → IsTree f s root → (rows_in f s1 root).rows ≡ (rows_in f s root).rows
  rows-roomy s s1 root same h = rows_in-standing (roomy_standing same h) ∙ sym (rows_in-standing h.standing)

  pub rising-rows : {s : Slab R} {root : Option ℕ} → IsTree f s root → IsRising f (rows_in f s root).rows
  rising-rows {s} {root} h = subst (IsRising f) (sym (rows_in-standing h.standing)) (rises-rows f laws 0 (2 ^ 128) h.tree h.standing.ordered)

  pub length-rows : {s : Slab R} {root : Option ℕ} → IsTree f s root → slab_len s ≡ length (rows_in f s root).rows
  length-rows h = h.count ∙ ap length (sym (rows_in-standing h.standing))

  pub row_from-IsTree : {s : Slab R} {root : Option ℕ} (n : ℕ) → (h : IsTree f s root) → found f false n None h.tree ≡ row_from f n (rows_in f s root).rows
  row_from-IsTree n h =
      found-row_from f laws n None 0 (2 ^ 128) h.tree h.standing.ordered ∙ option_or-none _ ∙ ap (row_from f n) (sym (rows_in-standing h.standing))

  pub row_to-IsTree : {s : Slab R} {root : Option ℕ} (n : ℕ) → (h : IsTree f s root) → found f true n None h.tree ≡ row_to f n (rows_in f s root).rows
  row_to-IsTree n h =
      found-row_to f laws n None 0 (2 ^ 128) h.tree h.standing.ordered ∙ option_or-none _ ∙ ap (row_to f n) (sym (rows_in-standing h.standing))

  pub row_in-IsTree : {s : Slab R} {root : Option ℕ} (n : ℕ) → (h : IsTree f s root) → row_in f n h.tree ≡ row_at f n (rows_in f s root).rows
  row_in-IsTree n h = row_in-row_at f laws n 0 (2 ^ 128) h.tree h.standing.ordered ∙ ap (row_at f n) (sym (rows_in-standing h.standing))

  pub has_rank-IsTree : {s : Slab R} {root : Option ℕ} (n : ℕ) → (h : IsTree f s root) → has_rank f n h.tree ≡ is_some (row_at f n (rows_in f s root).rows)
  has_rank-IsTree n h = ap is_some (row_in-IsTree n h)

  pub look_cost-IsTree : {s : Slab R} {root : Option ℕ} (each before after : ℕ) → (h : IsTree f s root) → after ≤ before + each * height h.tree → 2 ^ (after - before) ≤ (length (rows_in f s root).rows + 1) ^ (2 * each)
  look_cost-IsTree each before after h steps = subst (λ u. 2 ^ (after - before) ≤ (length u + 1) ^ (2 * each)) (sym (rows_in-standing h.standing)) (look_cost f h.tree each before after h.balanced steps)

  pub change_cost-IsTree : {s : Slab R} {root : Option ℕ} (before after : ℕ) → (h : IsTree f s root) → after ≤ before + 14 * height h.tree + 1 → 2 ^ (after - before) ≤ (length (rows_in f s root).rows + 2) ^ 32
  change_cost-IsTree before after h steps = subst (λ u. 2 ^ (after - before) ≤ (length u + 2) ^ 32) (sym (rows_in-standing h.standing)) (change_cost f h.tree before after h.balanced steps)

  -- the height of a tree in a slab that fits the machine
  height-IsTree : {s : Slab R} {root : Option ℕ} → (h : IsTree f s root) → height h.tree < 2 ^ 31 - 1
  height-IsTree h = height-short f h.tree h.balanced (omega (arith, h.count, h.holds, h.fits))

  module _ {s s1 : Slab R} {root link : Option ℕ} (w : R) {c : Change} {before after : ℕ} (h : IsTree f s root) (made : HasInserted f s s1 w h.tree 0 (2 ^ 128) c before after) (link_is : link ≡ root_after c root) where
    grown : IsGrown f h.tree (inserted f s.vacant_key w h.tree)
    grown = grown-inserted f laws s.vacant_key w h.tree h.balanced (omega (arith, height-IsTree h))

    inserted_standing : IsStanding f s1 link (inserted f s.vacant_key w h.tree) 0 (2 ^ 128)
    inserted_standing =
        record {
          spelled = made.becomes.spelled;
          is_at = rooted-link f h.tree made.rooted h.standing.is_at ∙ sym link_is;
          ordered = made.becomes.ordered;
          short = omega (arith, grown.at_most, height-IsTree h);
          balanced = grown.good;
        }

    pub IsTree-inserted : s1.capacity ≡ s.capacity → slab_len s1 ≤ s.capacity → IsTree f s1 link
    IsTree-inserted same holds =
        record {
          tree = inserted f s.vacant_key w h.tree;
          standing = inserted_standing;
          balanced = grown.good;
          count = omega (arith, made.len, h.count, length-inserted f laws s.vacant_key w h.tree);
          holds = omega arith;
          fits = omega (arith, h.fits);
        }

    pub rows-IsTree_inserted : (rows_in f s1 link).rows ≡ with_row f (plain f w) (rows_in f s root).rows
    rows-IsTree_inserted =
        rows_in-standing inserted_standing ∙ rows-inserted f laws s.vacant_key w 0 (2 ^ 128) h.tree h.standing.ordered ∙ ap (with_row f (plain f w)) (sym (rows_in-standing h.standing))

  module _ {s s1 : Slab R} {root link : Option ℕ} (n : ℕ) {y : Option R} {c : Change} {before after : ℕ} (h : IsTree f s root) (made : HasRemoved f s s1 n h.tree 0 (2 ^ 128) y c before after) (link_is : link ≡ root_after c root) where
    shrunk : IsShrunk f h.tree (removed f n h.tree)
    shrunk = shrunk-removed f laws n h.tree h.balanced (omega (arith, height-IsTree h))

    removed_standing : IsStanding f s1 link (removed f n h.tree) 0 (2 ^ 128)
    removed_standing =
        record {
          spelled = made.becomes.spelled;
          is_at = rooted-link f h.tree made.rooted h.standing.is_at ∙ sym link_is;
          ordered = made.becomes.ordered;
          short = omega (arith, shrunk.at_most, height-IsTree h);
          balanced = shrunk.good;
        }

    pub IsTree-removed : s1.capacity ≡ s.capacity → IsTree f s1 link
    IsTree-removed same =
        record {
          tree = removed f n h.tree;
          standing = removed_standing;
          balanced = shrunk.good;
          count = omega (arith, made.len, h.count, length-removed f laws n h.tree);
          holds = omega (arith, made.len, h.holds);
          fits = omega (arith, h.fits);
        }

    pub rows-IsTree_removed : (rows_in f s1 link).rows ≡ without_rank f n (rows_in f s root).rows
    rows-IsTree_removed =
        rows_in-standing removed_standing ∙ rows-removed f laws n 0 (2 ^ 128) h.tree h.standing.ordered ∙ ap (without_rank f n) (sym (rows_in-standing h.standing))

    pub row_at-removed : row_at f n (rows_in f s root).rows ≡ y
    row_at-removed = sym (made.row ∙ row_in-IsTree n h)

    pub there-removed : has_rank f n h.tree ≡ is_some y
    there-removed = has_rank-IsTree n h ∙ ap is_some row_at-removed

  module _ {s s1 : Slab R} {root : Option ℕ} (n : ℕ) (w : R) {c : Change} {before after : ℕ} (h : IsTree f s root) (made : HasMoved f s s1 n w h.tree 0 (2 ^ 128) c before after) where
    moved_standing : IsStanding f s1 root (moved f n w h.tree) 0 (2 ^ 128)
    moved_standing =
        record {
          spelled = made.becomes.spelled;
          is_at = place-moved f n w h.tree ∙ h.standing.is_at;
          ordered = made.becomes.ordered;
          short = omega (arith, height-moved f n w h.tree, h.standing.short);
          balanced = balanced-moved f n w h.tree h.balanced;
        }

    pub IsTree-moved : s1.capacity ≡ s.capacity → IsTree f s1 root
    IsTree-moved same =
        record {
          tree = moved f n w h.tree;
          standing = moved_standing;
          balanced = balanced-moved f n w h.tree h.balanced;
          count = omega (arith, made.len, h.count, length-moved f n w h.tree);
          holds = omega (arith, made.len, h.holds);
          fits = omega (arith, h.fits);
        }

    pub rows-IsTree_moved : AreBeside f n (f.rank w) h.tree → f.rank w < 2 ^ 128 → has_rank f n h.tree ≡ true
        → (rows_in f s1 root).rows ≡ with_row f (plain f w) (without_rank f n (rows_in f s root).rows)
    rows-IsTree_moved beside below there =
        rows_in-standing moved_standing ∙ rows-moved f laws n w 0 (2 ^ 128) h.tree h.standing.ordered beside (omega arith) below there
        ∙ ap (λ u. with_row f (plain f w) (without_rank f n u)) (sym (rows_in-standing h.standing))

  -- no row of the tree has a rank between, as none of those that are seen has
  pub beside-IsTree : {s : Slab R} {root : Option ℕ} (n m : ℕ) → (h : IsTree f s root) → AreAllBeside f n m (rows_in f s root).rows → AreBeside f n m h.tree
  beside-IsTree n m h all = beside-rows f laws n m h.tree (subst (AreAllBeside f n m) (rows_in-standing h.standing) all)

  pub not_there : {s : Slab R} {root : Option ℕ} (n : ℕ) → (h : IsTree f s root) → IsNone (row_at f n (rows_in f s root).rows) → has_rank f n h.tree ≡ false
  not_there n h none = has_rank-IsTree n h ∙ is_some-none _ none where
    is_some-none : {A : Type 0} (o : Option A) → IsNone o → is_some o ≡ false
    is_some-none None q = refl
    is_some-none (Some x) q = cc

  pub there : {s : Slab R} {root : Option ℕ} (n : ℕ) → (h : IsTree f s root) → IsSome (row_at f n (rows_in f s root).rows) → has_rank f n h.tree ≡ true
  there n h some = has_rank-IsTree n h ∙ some
