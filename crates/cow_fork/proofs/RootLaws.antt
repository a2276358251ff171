-- A tree without nodes is exact, and one to which a root comes stays so.
use Rattle.cow_fork.proofs.Words.{◌≡◌, ◌≢◌, ℕ, ◌+◌, Bool, false, None, Some, inl, inr, refl, sym, ap, ◌∙◌, arith, with_key, Koid}
use Rattle.cow_fork.proofs.Words.{with_key-same, with_key-other, with_key-cases, Node, Side, Tree, walk, frame_found, frame_shown, IsForest}
use Rattle.cow_fork.proofs.Words.{root_node, IsPage, IsSeenFrom, IsExact}
use Rattle.cow_arena.proofs.WalkLaws.{walk-past}
use Rattle.cow_arena.proofs.MovedLaws.{walk-stays}
use Rattle.cow_arena.proofs.WindowWalkLaws.{put-listed, node-added}
use Rattle.cow_arena.proofs.PairWalkLaws.{rows-fresh}
use Rattle.cow_split.proofs.ExactLaws.{denies-alike, seen-moved}

-- without nodes, rows and frames in use
pub exact-empty : (t : Tree) (out : ℕ → ℕ → Bool) (in_use : ℕ → Bool) → IsForest t.nodes t.lists → ((k : ℕ) → t.nodes k ≡ None) →
    ((l p : ℕ) → t.slots l p ≡ None) → ((tag : ℕ) → in_use tag ≡ false) → IsExact t out in_use
exact-empty t out in_use forest none bare free = record {
  forest = forest;
  listed = record { listed = λ l p row e. absurd (let no = bare l p in cc) };
  below = λ v p node row visible e. absurd (let no = bare node.list.0 p in cc);
  plain = λ v p node tag left right visible e. absurd (let no = bare node.list.0 p in cc);
  stands = λ tag e. absurd (let no = free tag in cc);
  used = λ l q row tag e frame. absurd (let no = bare l q in cc);
  once = λ l q m r tag row other e f one two. absurd (let no = bare l q in cc);
  bits = λ h q node tag left right at hidden e. absurd (let no = none h in cc);
}

module _ (t : Tree) (out : ℕ → ℕ → Bool) (in_use : ℕ → Bool) (exact : IsExact t out in_use) (k : ℕ) (koid : Koid) (count : ℕ) (free : t.nodes k ≡ None)
    (g : IsForest (with_key t.nodes k (root_node koid t.lists count)) (t.lists + 1)) where
  abbrev pub rooted : Tree
  rooted = record t { nodes = with_key t.nodes k (root_node koid t.lists count); lists = t.lists + 1 }

  root_at : rooted.nodes k ≡ Some (root_node koid t.lists count)
  root_at = with_key-same t.nodes k (root_node koid t.lists count)

  apart : (j : ℕ) (node : Node) → t.nodes j ≡ Some node → j ≢ k
  apart j node at same = let none = ap t.nodes same ∙ free in absurd (cc)

  stays : (j : ℕ) (node : Node) → t.nodes j ≡ Some node → rooted.nodes j ≡ Some node
  stays j node at = with_key-other t.nodes k (root_node koid t.lists count) j (apart j node at) ∙ at

  bare : (p : ℕ) → t.slots t.lists p ≡ None
  bare p = rows-fresh t exact.forest exact.listed t.lists p (omega arith)

  -- a walk that was there stays
  walk_same : (j p : ℕ) (node : Node) → t.nodes j ≡ Some node → walk rooted j p ≡ walk t j p
  walk_same j p node at = walk-stays t rooted.nodes (t.lists + 1) k exact.forest g (node-added t.nodes k (root_node koid t.lists count) free) j p node at (apart j node at)

  walk_root : (p : ℕ) → walk rooted k p ≡ None
  walk_root p = walk-past rooted g k p (root_node koid t.lists count) root_at (bare p) (omega arith)

  -- the new node shows nothing, and the others what they showed
  pub rooted-zero : (p : ℕ) → frame_shown rooted k p ≡ None
  rooted-zero p = ap frame_found (walk_root p)

  pub rooted-shows : (w q : ℕ) → IsPage t w q → frame_shown rooted w q ≡ frame_shown t w q
  rooted-shows w q page = ap frame_found (walk_same w q page.node page.visible.at)

  page_forth : (v p : ℕ) (page : IsPage t v p) → IsPage rooted v p
  page_forth v p page = record {
    node = page.node;
    visible = record { at = stays v page.node page.visible.at; koid = page.visible.koid };
    below = page.below;
  }

  seen_forth : (side : Side) (h q : ℕ) → IsSeenFrom t out side h q → IsSeenFrom rooted out side h q
  seen_forth side h q = seen-moved t rooted out out side h q (λ v p sees in_sight. record {
    page = page_forth v p sees.page;
    same = walk_same v p sees.page.node sees.page.visible.at;
    in_sight = in_sight;
  })

  seen_back : (side : Side) (h q : ℕ) → IsSeenFrom rooted out side h q → IsSeenFrom t out side h q
  seen_back side h q = seen-moved rooted t out out side h q (λ v p sees in_sight.
      elim (with_key-cases t.nodes k (root_node koid t.lists count) v sees.page.node sees.page.visible.at) [
        | inl here ↦ absurd (let none = walk_root p in let found = sym (ap (λ i. walk rooted i p) here.0) ∙ sees.found in cc)
        | inr there ↦ record {
          page = record { node = sees.page.node; visible = record { at = there.1; koid = sees.page.visible.koid }; below = sees.page.below };
          same = sym (walk_same v p sees.page.node there.1);
          in_sight = in_sight;
        }
      ])

  pub exact-rooted : IsExact rooted out in_use
  exact-rooted = record {
    forest = g;
    listed = put-listed t rooted.nodes rooted.lists k (root_node koid t.lists count) refl (λ node at. absurd (apart k node at refl)) exact.listed;
    below = λ v p node row visible e. elim (with_key-cases t.nodes k (root_node koid t.lists count) v node visible.at) [
      | inl here ↦ absurd (let none = bare p in let found = ap (λ (n : Node). t.slots n.list.0 p) here.1 ∙ e in cc)
      | inr there ↦ exact.below v p node row (record { at = there.1; koid = visible.koid }) e
    ];
    plain = λ v p node tag left right visible e. elim (with_key-cases t.nodes k (root_node koid t.lists count) v node visible.at) [
      | inl here ↦ absurd (let none = bare p in let found = ap (λ (n : Node). t.slots n.list.0 p) here.1 ∙ e in cc)
      | inr there ↦ exact.plain v p node tag left right (record { at = there.1; koid = visible.koid }) e
    ];
    stands = λ tag e. let it = exact.stands tag e in record { l = it.l; q = it.q; row = it.row; at = it.at; frame = it.frame };
    used = exact.used;
    once = exact.once;
    bits = λ h q node tag left right at hidden e. elim (with_key-cases t.nodes k (root_node koid t.lists count) h node at) [
      | inl here ↦ absurd (let shown = ap (λ (n : Node). n.koid) here.1 in cc)
      | inr there ↦
          let was = exact.bits h q node tag left right there.1 hidden e in
          record {
            left_bit = denies-alike left _ _ (seen_forth Side.Left h q, seen_back Side.Left h q) was.left_bit;
            right_bit = denies-alike right _ _ (seen_forth Side.Right h q, seen_back Side.Right h q) was.right_bit;
            is_seen = was.is_seen;
          }
    ];
  }
