-- A change of the nodes of a clone tree under the same rows, and what it keeps of the tree's exactness.
use Rattle.cow_split.proofs.Words.{◌≡◌, ◌↔◌, ℕ, ◌<◌, Bool, Some, sym, ap, subst, ◌∙◌, arith, IsSome, Slot, Node, Side, Nodes, IsVisible}
use Rattle.cow_split.proofs.Words.{Tree, IsForest, HasListedRows, IsPage, IsSeenFrom, StaysVisible, CameFrom, IsExact}
use Rattle.page_list.specs.declared.row.ListId.{ListId}
use Rattle.cow_split.proofs.ExactLaws.{bits-alike}

pub came-visible : (old new : Nodes) (j : ℕ) (now : Node) (c : CameFrom old j now) → IsVisible new j now → IsVisible old j c.node
came-visible old new j now c visible = record { at = c.at; koid = subst IsSome c.koid visible.koid }

pub came-row : (t : Tree) (j p : ℕ) (now : Node) (c : CameFrom t.nodes j now) → t.slots c.node.list.0 p ≡ t.slots now.list.0 p
came-row t j p now c = ap (λ (l : ListId). t.slots l.0 p) (sym c.list)

-- a page of a visible node is one as long as the node stays visible
pub stays-page : (t u : Tree) (j p : ℕ) (page : IsPage t j p) → StaysVisible t.nodes u.nodes j page.node → IsPage u j p
stays-page t u j p page stays = record {
  node = stays.after;
  visible = record { at = stays.at; koid = subst IsSome (sym stays.koid) page.visible.koid };
  below = let count = stays.count in let below = page.below in omega arith;
}

-- Each node was there with its koid and its list, the rows of visible ones fit their counts, and each row is seen from each
-- side exactly where it was. Then the tree stays exact.
pub exact-moved : (t : Tree) (nodes : Nodes) (out out_now : ℕ → ℕ → Bool) (in_use : ℕ → Bool) → IsExact t out in_use →
    IsForest nodes t.lists → HasListedRows (record t { nodes = nodes }) →
    ((j : ℕ) (now : Node) → nodes j ≡ Some now → CameFrom t.nodes j now) →
    ((v p : ℕ) (now : Node) (row : Slot) → IsVisible nodes v now → t.slots now.list.0 p ≡ Some row → p < now.count) →
    ((side : Side) (h q : ℕ) → IsSeenFrom t out side h q ↔ IsSeenFrom (record t { nodes = nodes }) out_now side h q) →
    IsExact (record t { nodes = nodes }) out_now in_use
exact-moved t nodes out out_now in_use exact forest listed came below alike = record {
  forest = forest;
  listed = listed;
  below = λ v p now row visible e. below v p now row visible e;
  plain = λ v p now tag left right visible e.
      let c = came v now visible.at in
      exact.plain v p c.node tag left right (came-visible t.nodes nodes v now c visible) (came-row t v p now c ∙ e);
  stands = λ tag e.
      let it = exact.stands tag e in
      record { l = it.l; q = it.q; row = it.row; at = it.at; frame = it.frame };
  used = exact.used;
  once = exact.once;
  bits = λ h q now tag left right at hidden e.
      let c = came h now at in
      bits-alike (λ s. alike s h q) (exact.bits h q c.node tag left right c.at (sym c.koid ∙ hidden) (came-row t h q now c ∙ e));
}
