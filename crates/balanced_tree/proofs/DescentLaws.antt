-- The way down to a row.
use Rattle.std.proofs.Common.{◌≡◌, ℕ, ◌+◌, ◌<◌, ◌≤◌, Option, None, Some, refl, sym, ap, ◌∙◌, arith}
use Rattle.slab.specs.Slab.{Slab, get, ContainsKey}
use Rattle.balanced_tree.specs.Row.{Functions, AreLawful}
use Rattle.balanced_tree.specs.inside.Tree.{SearchTree, Leaf, height}
use Rattle.balanced_tree.specs.inside.Standing.{IsStanding, Stands, height_at}
use Rattle.balanced_tree.proofs.Spelling.{ContainsKey-place_of}
use Rattle.balanced_tree.proofs.Nodes.{IsNode, node_of, standing-at, height_at-standing, height-left, height-right, falls-left, lower-left, lower-right, leaf-standing}

module _ {R : Type 0} (f : Functions R) where
  -- The way down from a tree has come to this link: the part there answers `here` as the whole tree answers. The steps so
  -- far and those that the part takes are no more than those of the tree.
  pub record Leads (s : Slab R) (tree : SearchTree R) (at : Option ℕ) (before now : ℕ) (here : SearchTree R → Option R) (all : Option R) : Type 0 where
    pub part : SearchTree R
    pub low : ℕ
    pub high : ℕ
    pub standing : IsStanding f s at part low high
    pub finds : here part ≡ all
    pub steps : now + height part ≤ before + height tree

  -- so for each tree that stands under the link where the way began
  pub record Descends (s : Slab R) (start at : Option ℕ) (before now : ℕ) (here all : SearchTree R → Option R) : Type 0 where
    pub leads : (tree : SearchTree R) (low high : ℕ) → IsStanding f s start tree low high → Leads s tree at before now here (all tree)

  pub descends-start : {s : Slab R} {before : ℕ} {start : Option ℕ} {all : SearchTree R → Option R} → Descends s start start before before all all
  descends-start = record {
    leads = λ tree low high h. record { part = tree; low = low; high = high; standing = h; finds = refl; steps = omega arith };
  }

  module _ {s : Slab R} {before now : ℕ} {start at : Option ℕ} {here_is all : SearchTree R → Option R} (h : Descends s start at before now here_is all) where
    -- there is no part
    pub descends-end : {last : Option R} → at ≡ None → here_is Leaf ≡ last → (tree : SearchTree R) (low high : ℕ) → IsStanding f s start tree low high → last ≡ all tree
    descends-end none is tree low high stands =
        let l = h.leads tree low high stands in
        sym is ∙ ap here_is (sym (leaf-standing f l.part none l.standing)) ∙ l.finds

    pub descends-steps : (tree : SearchTree R) (low high : ℕ) → IsStanding f s start tree low high → now ≤ before + height tree
    descends-steps tree low high stands = omega (arith, (h.leads tree low high stands).steps)

    pub descends-place : {p : ℕ} → Stands f s start → at ≡ Some p → ContainsKey s p
    descends-place {p} stands is =
        let l = h.leads stands.tree stands.low stands.high stands.standing in
        ContainsKey-place_of f s l.part p l.standing.spelled (l.standing.is_at ∙ is)

    module _ {p : ℕ} {row : R} (laws : AreLawful f) (is : at ≡ Some p) (at_row : get s p ≡ Some row) where
      -- one step to the left, to the right, or to the end
      pub descends-left : {link : Option ℕ} {after : ℕ} {next : SearchTree R → Option R}
          → ((t : SearchTree R) (low high : ℕ) (n : IsNode f s p row t low high) → here_is t ≡ next n.left) → link ≡ f.left row → after ≡ now + 1
          → Descends s start link before after next all
      descends-left {link} {after} {next} same left step = record {
        leads = λ tree low high stands.
            let l = h.leads tree low high stands in
            let node = node_of f laws l.standing is at_row in
            record {
              part = node.left;
              low = l.low;
              high = f.rank node.row;
              standing = standing-at f (sym left) node.left_standing;
              finds = sym (same l.part l.low l.high node) ∙ l.finds;
              steps = omega (arith, l.steps, height-left f node);
            };
      }

      pub descends-right : {link : Option ℕ} {after : ℕ} {next : SearchTree R → Option R}
          → ((t : SearchTree R) (low high : ℕ) (n : IsNode f s p row t low high) → here_is t ≡ next n.right) → link ≡ f.right row → after ≡ now + 1
          → Descends s start link before after next all
      descends-right {link} {after} {next} same right step = record {
        leads = λ tree low high stands.
            let l = h.leads tree low high stands in
            let node = node_of f laws l.standing is at_row in
            record {
              part = node.right;
              low = f.rank node.row + 1;
              high = l.high;
              standing = standing-at f (sym right) node.right_standing;
              finds = sym (same l.part l.low l.high node) ∙ l.finds;
              steps = omega (arith, l.steps, height-right f node);
            };
      }

      pub descends-here : {after : ℕ} {next : SearchTree R → Option R}
          → ((t : SearchTree R) (low high : ℕ) (n : IsNode f s p row t low high) → here_is t ≡ next Leaf) → after ≡ now + 1
          → Descends s start None before after next all
      descends-here {after} {next} same step = record {
        leads = λ tree low high stands.
            let l = h.leads tree low high stands in
            let node = node_of f laws l.standing is at_row in
            record {
              part = Leaf;
              low = 0;
              high = 0;
              standing = record { spelled = tt; is_at = refl; ordered = omega arith; short = omega arith; balanced = tt };
              finds = sym (same l.part l.low l.high node) ∙ l.finds;
              steps = omega (arith, l.steps, height-left f node);
            };
      }

      -- or the way ends with this answer
      pub descends-found : {last : Option R} {after : ℕ} → ((t : SearchTree R) (low high : ℕ) (n : IsNode f s p row t low high) → here_is t ≡ last) → after ≡ now + 1
          → Descends s start None before after (λ t. last) all
      descends-found {last} same step = descends-here {next = λ t. last} same step

      -- each step goes down
      pub lower-descends-left : {link : Option ℕ} → Stands f s start → link ≡ f.left row → height_at f s link < height_at f s at
      lower-descends-left stands left =
          lower-left f laws (h.leads stands.tree stands.low stands.high stands.standing).standing is at_row left

      pub lower-descends-right : {link : Option ℕ} → Stands f s start → link ≡ f.right row → height_at f s link < height_at f s at
      lower-descends-right stands right =
          lower-right f laws (h.leads stands.tree stands.low stands.high stands.standing).standing is at_row right

      pub lower-descends-here : Stands f s start → 0 < height_at f s at
      lower-descends-here stands =
          let l = h.leads stands.tree stands.low stands.high stands.standing in
          let node = node_of f laws l.standing is at_row in
          omega (arith, falls-left f node laws, height_at-standing f laws l.standing)
