-- A VMO's node goes, whose pages are all out of sight: alone, or with its parent, whose rows were lifted into the sibling.
use Rattle.cow_merge.proofs.Words.{◌≡◌, ◌≢◌, ◌⊎◌, ℕ, ◌<◌, Bool, Option, None, Some, inl, inr, IsSome, IsSomeAnd, refl, sym, ap, subst}
use Rattle.cow_merge.proofs.Words.{◌∙◌, arith, is_none, is_some, option_map, cases_eq, Rows, without_key, some_same, some_is}
use Rattle.cow_merge.proofs.Words.{without_key-same, Row, slots_of, Pool, is_taken, Node, NodeId, Arena, Nodes, nodes_of, IsVisible}
use Rattle.cow_merge.proofs.Words.{AreFamily, link_to, other_side, side_of, sibling_in, Slots, Tree, tree_with, frame_shown, IsForest}
use Rattle.cow_merge.proofs.Words.{IsChild, IsPartOf, KeepsBelow, spliced, spliced_over, exchanged, renamed_node, renamed_nodes, renamed, IsExchange, tree_of}
use Rattle.cow_merge.proofs.Words.{IsPage, ShowsSame, IsExact, IsOnlyOf, all_in_sight, leaving_range, IsAllOut, IsLeftOut, Moves, Accounts}
use Rattle.cow_merge.proofs.Words.{IsNotFrom, IsFamilyOf, IsHandingOver, WasThere, HasListOfParent, WasUnder, KeepsPages, HasGone, StaysVisible}
use Rattle.cow_arena.proofs.WalkLaws.{link_same}
use Rattle.cow_arena.proofs.ReachLaws.{child-there}
use Rattle.cow_arena.proofs.SpliceForestLaws.{spliced_by}
use Rattle.cow_arena.proofs.RenamedLaws.{renamed-at, renamed-was, renamed-each, frame-renamed}
use Rattle.cow_arena.proofs.RenamedOverLaws.{over-exchange, over-renamed_at, over-lists, nodes-over, tree-over}
use Rattle.cow_arena.proofs.RisesSplicedLaws.{rises-renamed}
use Rattle.cow_split.proofs.RenamedExactLaws.{page-renamed, exact-renamed}
use Rattle.cow_merge.proofs.CountLaws.{outside-other}
use Rattle.cow_merge.proofs.SpliceLaws.{IsWithout, without-page, without-showed, without-stays, without-no_more, family-apart, spliced-kept}
use Rattle.cow_merge.proofs.SpliceLaws.{spliced-gone, spliced-parent_gone, spliced-without, exact-spliced, removed_root-without}
use Rattle.cow_merge.proofs.SpliceLaws.{exact-removed_root}
use Rattle.cow_merge.proofs.KeptWaysLaws.{KeepsRises, keeps-removed, keeps-spliced}
use Rattle.cow_merge.proofs.PassingLaws.{inside-range}
use Rattle.cow_merge.proofs.ShrinkLaws.{tree-now}
use Rattle.cow_merge.proofs.LiftedLaws.{lifted-exact}
use Rattle.cow_merge.proofs.ParentLaws.{parents-removed, parents-spliced, parents-over}
use Rattle.cow_split.proofs.CutLaws.{page-over}

-- ---- all pages are out of sight

out-only : (v : ℕ) (node : Node) → IsOnlyOf (leaving_range all_in_sight v 0 node.count) v
out-only v node w q hidden = elim (cases_eq w v) [
  | inl same ↦ same
  | inr apart ↦ let seen = outside-other v 0 node.count w q apart in absurd (cc)
]

out-all : (arena : Arena) (slots : Slots) (v : ℕ) (node : Node) → IsVisible (nodes_of arena) v node →
    IsAllOut (tree_with (nodes_of arena) arena.lists slots) (leaving_range all_in_sight v 0 node.count) v
out-all arena slots v node visible q page =
    inside-range all_in_sight v 0 node.count q (omega arith) (subst (λ (n : Node). q < n.count) (some_same (sym page.visible.at ∙ visible.at)) page.below)

-- ---- the node goes

-- The visible node v is gone from the tree, and its parent. The tree is exact, and each page that is left shows what it showed.
record IsGoneFrom (old new : Tree) (in_use : ℕ → Bool) (v : ℕ) : Type 0 where
  exact : IsExact new all_in_sight in_use
  shows : (w q : ℕ) → IsPage new w q → frame_shown new w q ≡ frame_shown old w q
  gone : HasGone old new v

gone-by : (arena : Arena) (rows : Rows Row) (slots : Slots) (nodes : Nodes) (in_use : ℕ → Bool) (v : ℕ) →
    IsWithout (tree_with (nodes_of arena) arena.lists slots) (tree_with nodes arena.lists slots) v → nodes v ≡ None →
    ((h : ℕ) → IsChild (nodes_of arena) h v → nodes h ≡ None) → ((s : ℕ) → sibling_in (nodes_of arena) v ≡ link_to s → IsSome (nodes s)) →
    ((k h : ℕ) (now : Node) → nodes k ≡ Some now → now.parent ≡ link_to h → WasUnder (nodes_of arena) k h now) →
    KeepsRises (tree_of arena rows) (tree_with nodes arena.lists slots) v → IsExact (tree_with nodes arena.lists slots) all_in_sight in_use →
    ((w q : ℕ) → IsPage (tree_with (nodes_of arena) arena.lists slots) w q → w ≢ v →
    frame_shown (tree_with (nodes_of arena) arena.lists slots) w q ≡ frame_shown (tree_of arena rows) w q) →
    IsGoneFrom (tree_of arena rows) (tree_with nodes arena.lists slots) in_use v
gone-by arena rows slots nodes in_use v without gone parent_gone beside parents ways exact shows =
    let t : Tree = tree_with (nodes_of arena) arena.lists slots in
    let u : Tree = tree_with nodes arena.lists slots in
    record {
      exact = exact;
      shows = λ w q page.
          let was = without-page t u v without w q page in
          without-showed t u v without w q page ∙ shows w q was.1 was.0;
      gone = record {
        gone = gone;
        stays = without-stays t u v without;
        no_more = without-no_more t u v without;
        came = λ k node at.
            let was = without.came k node at in
            let one : was.3.now ≡ node = some_same (sym was.3.at ∙ at) in
            record { node = was.0; at = was.1; koid = sym (ap (λ (n : Node). n.koid) one) ∙ was.3.koid };
        own_lists = λ k was now at there.
            let it = without.came k now there in
            inl (ap (λ (n : Node). n.list) (some_same (sym there ∙ it.3.at)) ∙ (it.3.list ∙ ap (λ (n : Node). n.list) (some_same (sym it.1 ∙ at))));
        parent_gone = parent_gone;
        beside = beside;
        parents = parents;
        kept = ways.kept;
        seen = ways.seen;
        rises = ways.rises;
      };
    }

-- it is so under other list numbers
gone-renamed : (name : ℕ → ℕ) (old new : Tree) (in_use : ℕ → Bool) (v : ℕ) → IsExchange name new.lists →
    ((k : ℕ) (was now : Node) → old.nodes k ≡ Some was → renamed_nodes name new.nodes k ≡ Some now → (now.list ≡ was.list) ⊎ HasListOfParent old.nodes v k now) →
    ((k h : ℕ) (now : Node) → renamed_nodes name new.nodes k ≡ Some now → now.parent ≡ link_to h → WasUnder old.nodes k h now) →
    IsGoneFrom old new in_use v → IsGoneFrom old (renamed name new) in_use v
gone-renamed name old new in_use v exchange own_lists parents it = record {
  exact = exact-renamed name new exchange all_in_sight in_use it.exact;
  shows = λ w q page.
      frame-renamed name exchange.twice new it.exact.forest w q ∙ it.shows w q (page-renamed name new w q page);
  gone = record {
    gone = ap (option_map (renamed_node name)) was.gone;
    stays = λ w node apart shown.
        let it = was.stays w node apart shown in
        record { after = renamed_node name it.after; at = renamed-at name new.nodes w it.after it.at; koid = it.koid; count = it.count };
    no_more = λ w node shown. renamed-each name new.nodes
        (λ w node. IsSome node.koid → StaysVisible (renamed name new).nodes old.nodes w node)
        (λ w node at koid. let it = was.no_more w node (record { at = at; koid = koid }) in record { after = it.after; at = it.at; koid = it.koid; count = it.count })
        w node shown.at shown.koid;
    came = renamed-each name new.nodes (λ k node. WasThere old.nodes k node)
        (λ k node at. let it = was.came k node at in record { node = it.node; at = it.at; koid = it.koid });
    own_lists = own_lists;
    parent_gone = λ h child. ap (option_map (renamed_node name)) (was.parent_gone h child);
    beside = λ s is. some-renamed s (was.beside s is);
    parents = parents;
    kept = λ k node at apart childless. some-renamed k (was.kept k node at apart childless);
    seen = λ k node now at there.
        let it = renamed-was name new.nodes k now there in
        omega (arith, ap (λ (n : Node). n.seen) it.2, was.seen k node it.0 at it.1);
    rises = λ k p side h q some there rises.
        rises-renamed name exchange.twice new k p side h q (was.rises k p side h q (some-was k some) (some-was h there) rises);
  };
}
  where
    was : HasGone old new v
    was = it.gone

    some-renamed : (k : ℕ) → IsSome (new.nodes k) → IsSome (renamed_nodes name new.nodes k)
    some-renamed k some = let it = some_is (new.nodes k) some in ap is_some (renamed-at name new.nodes k it.0 it.1)

    some-was : (k : ℕ) → IsSome (renamed_nodes name new.nodes k) → IsSome (new.nodes k)
    some-was k some =
        let it = some_is (renamed_nodes name new.nodes k) some in
        ap is_some (renamed-was name new.nodes k it.0 it.1).1

-- what the arena and the rows are then
closed-by : (arena new : Arena) (rows late : Rows Row) (before after : Pool) (v : ℕ) (u : Tree) → tree_of new late ≡ u →
    IsGoneFrom (tree_of arena rows) u (is_taken after) v → new.lists ≡ arena.lists → Accounts rows late before after →
    KeepsPages arena new rows late before after × HasGone (tree_of arena rows) (tree_of new late) v
closed-by arena new rows late before after v u is was lists accounts =
    let it = subst (λ (x : Tree). IsGoneFrom (tree_of arena rows) x (is_taken after) v) (sym is) was in
    (record { exact = it.exact; lists = lists; shows = it.shows; accounts = accounts }, it.gone)

-- the node has no parent
pub closed-root : (arena new : Arena) (rows late : Rows Row) (before after : Pool) (v : ℕ) (node : Node) → IsVisible (nodes_of arena) v node →
    node.parent ≡ None → IsLeftOut arena late after v node 0 → Moves arena rows late before after v 0 IsPartOf → nodes_of new ≡ without_key (nodes_of arena) v → new.lists ≡ arena.lists →
    IsForest (nodes_of new) new.lists → KeepsPages arena new rows late before after × HasGone (tree_of arena rows) (tree_of new late) v
closed-root arena new rows late before after v node visible root left moves is lists forest =
    let t : Tree = tree_of arena late in
    let f = left.exact.forest in
    let g : IsForest (without_key (nodes_of arena) v) arena.lists =
    subst (λ l. IsForest (without_key (nodes_of arena) v) l) lists (subst (λ n. IsForest n new.lists) is forest) in
    let without = removed_root-without t f v node visible g in
    closed-by arena new rows late before after v (record t { nodes = without_key (nodes_of arena) v }) (tree-now arena new late (without_key (nodes_of arena) v) is lists)
    (gone-by arena rows (slots_of late) (without_key (nodes_of arena) v) (is_taken after) v without
    (without_key-same (nodes_of arena) v)
    (λ h child. let up : node.parent ≡ link_to h = ap (λ (n : Node). n.parent) (some_same (sym visible.at ∙ child.at)) ∙ child.parent in absurd (cc))
    (λ s is. absurd (let none = rw (visible.at, root) at is in cc))
    (parents-removed (nodes_of arena) (without_key (nodes_of arena) v) v refl)
    (keeps-removed (tree_of arena rows) f (slots_of late) v node visible moves.keeps g)
    (exact-removed_root t f v node visible g (leaving_range all_in_sight v 0 node.count) (is_taken after)
    (λ p. left.bare p (omega arith)) left.exact (out-only v node) (out-all arena (slots_of late) v node visible))
    (λ w q page apart. moves.shows w q (page-over t (slots_of rows) w q page) (λ same. absurd (apart same)))) lists moves.accounts

-- The node and its parent go: all its pages are out of sight in the tree with these slots, in which neither has rows.
module _ (arena : Arena) (rows : Rows Row) (slots : Slots) (in_use : ℕ → Bool) (v h s : ℕ) (node parent sibling : Node)
    (visible : IsVisible (nodes_of arena) v node) (family : AreFamily (nodes_of arena) v h s node parent sibling)
    (exact : IsExact (tree_with (nodes_of arena) arena.lists slots) (leaving_range all_in_sight v 0 node.count) in_use)
    (bare : (p : ℕ) → slots node.list.0 p ≡ None) (empty : (p : ℕ) → slots parent.list.0 p ≡ None)
    (shows : ShowsSame (tree_of arena rows) (tree_with (nodes_of arena) arena.lists slots) (IsNotFrom v 0))
    (keeps : KeepsBelow (slots_of rows) slots parent sibling) where
  abbrev t : Tree
  t = tree_with (nodes_of arena) arena.lists slots

  abbrev after : Nodes
  after = spliced (nodes_of arena) v h s parent sibling

  spliced-forest : IsForest after arena.lists
  spliced-forest = record {
    rank = exact.forest.rank;
    by = spliced_by (nodes_of arena) arena.lists exact.forest.rank exact.forest.by v h s node parent sibling family visible.koid;
  }

  spliced-whole : IsWithout t (record t { nodes = after }) v
  spliced-whole = spliced-without t exact.forest v h s node parent sibling family visible empty spliced-forest

  gone-spliced : IsGoneFrom (tree_of arena rows) (tree_with after arena.lists slots) in_use v
  gone-spliced = gone-by arena rows slots after in_use v spliced-whole
      (spliced-gone (nodes_of arena) arena.lists exact.forest v h s node parent sibling family)
      (λ above child.
      let up : node.parent ≡ link_to above = ap (λ (n : Node). n.parent) (some_same (sym visible.at ∙ child.at)) ∙ child.parent in
      ap after (link_same (sym up ∙ family.parent_is)) ∙ spliced-parent_gone (nodes_of arena) arena.lists exact.forest v h s node parent sibling family)
      (λ j is.
      let same : j ≡ s = link_same (sym is ∙ family.sibling_is) in
      let apart = family-apart (nodes_of arena) arena.lists exact.forest v h s node parent sibling family in
      ap is_some (ap after same ∙ (spliced-kept (nodes_of arena) arena.lists exact.forest v h s node parent sibling family s sibling family.sibling_at
      (λ e. apart.0 (sym e)) (λ e. apart.1 (sym e))).at))
      (parents-spliced (nodes_of arena) arena.lists exact.forest v h s node parent sibling family after refl)
      (keeps-spliced (tree_of arena rows) exact.forest v h s node parent sibling family visible slots keeps empty spliced-forest)
      (exact-spliced t exact.forest v h s node parent sibling family visible empty spliced-forest (leaving_range all_in_sight v 0 node.count) in_use bare exact
      (out-only v node) (out-all arena slots v node visible))
      (λ w q page apart. shows w q (page-over t (slots_of rows) w q page) (λ same. absurd (apart same)))

-- the sibling keeps its list
pub closed-spliced : (arena new : Arena) (rows late : Rows Row) (before after : Pool) (v h s : ℕ) (node parent sibling : Node)
    (visible : IsVisible (nodes_of arena) v node) (family : AreFamily (nodes_of arena) v h s node parent sibling)
    (left : IsLeftOut arena late after v node 0) → Moves arena rows late before after v 0 (λ a b. KeepsBelow a b parent sibling) → ((p : ℕ) → slots_of late parent.list.0 p ≡ None) →
    nodes_of new ≡ spliced (nodes_of arena) v h s parent sibling → new.lists ≡ arena.lists →
    KeepsPages arena new rows late before after × HasGone (tree_of arena rows) (tree_of new late) v
closed-spliced arena new rows late before after v h s node parent sibling visible family left moves empty is lists =
    let bare : (p : ℕ) → slots_of late node.list.0 p ≡ None = λ p. left.bare p (omega arith) in
    closed-by arena new rows late before after v (record (tree_of arena late) { nodes = spliced (nodes_of arena) v h s parent sibling })
    (tree-now arena new late (spliced (nodes_of arena) v h s parent sibling) is lists)
    (gone-spliced arena rows (slots_of late) (is_taken after) v h s node parent sibling visible family left.exact bare empty moves.shows moves.keeps) lists moves.accounts

-- the sibling has the list of the parent
pub closed-over : (arena new : Arena) (rows late : Rows Row) (before after : Pool) (v h s : ℕ) (it : IsHandingOver arena rows late before after v h s None) →
    nodes_of new ≡ spliced_over (nodes_of arena) v h s it.of.parent it.of.sibling → new.lists ≡ arena.lists →
    KeepsPages arena new rows late before after × HasGone (tree_of arena rows) (tree_of new late) v
closed-over arena new rows late before after v h s it is lists =
    let f = it.lifted.exact.forest in
    let name = exchanged it.of.parent.list.0 it.of.sibling.list.0 in
    closed-by arena new rows late before after v
    (renamed name (tree_with (spliced (nodes_of arena) v h s it.of.parent it.of.sibling) arena.lists it.slots))
    (tree-now arena new late (spliced_over (nodes_of arena) v h s it.of.parent it.of.sibling) is lists
    ∙ tree-over (nodes_of arena) arena.lists f.rank f.by v h s it.of.node it.of.parent it.of.sibling it.of.family it.slots (slots_of late) (λ l p. it.passed l p tt))
    (gone-renamed name (tree_of arena rows) (tree_with (spliced (nodes_of arena) v h s it.of.parent it.of.sibling) arena.lists it.slots) (is_taken after) v
    (over-exchange (nodes_of arena) arena.lists f.rank f.by v h s it.of.node it.of.parent it.of.sibling it.of.family)
    (λ k was now at there. elim (over-lists (nodes_of arena) arena.lists f.rank f.by v h s it.of.node it.of.parent it.of.sibling it.of.family k was now at
    (over-renamed_at (nodes_of arena) arena.lists f.rank f.by v h s it.of.node it.of.parent it.of.sibling it.of.family k ∙ there)) [
      | inl same ↦ inl same
      | inr own ↦ inr (record {
        h = h;
        child = record { node = it.of.node; at = it.of.family.at; parent = it.of.family.parent_is };
        parent = it.of.parent;
        parent_at = it.of.family.parent_at;
        beside = it.of.family.sibling_is ∙ ap link_to (sym own.0);
        list = own.1;
      })
    ])
    (parents-over (nodes_of arena) arena.lists f v h s it.of.node it.of.parent it.of.sibling it.of.family _
    (sym (nodes-over (nodes_of arena) arena.lists f.rank f.by v h s it.of.node it.of.parent it.of.sibling it.of.family)))
    (gone-spliced arena rows it.slots (is_taken after) v h s it.of.node it.of.parent it.of.sibling it.of.visible it.of.family
    (lifted-exact arena it.slots after v h s it.of it.lifted (λ p. it.empty p tt)) it.lifted.bare (λ p. it.empty p tt) it.shows it.below)) lists it.accounts

-- ---- what the code asks on the way

-- a node without a sibling has no parent
pub root-of : (node : Node) (sibling : Option NodeId) → is_none sibling ≡ is_none node.parent → sibling ≡ None → node.parent ≡ None
root-of node sibling same none = go node.parent refl
  where
    go : (up : Option NodeId) → node.parent ≡ up → up ≡ None
    go None e = refl
    go (Some parent) e = let here = ap is_none none in let there = ap is_none e in absurd (cc)

-- the parent of the node, as it was found
pub child-ready : (arena : Arena) (v : ℕ) (node : Node) (hidden : NodeId) → IsVisible (nodes_of arena) v node → node.parent ≡ Some hidden →
    IsSomeAnd (nodes_of arena v) (λ (node : Node). IsSome node.koid × (node.parent ≡ Some hidden))
child-ready arena v node hidden visible up =
    subst (λ o. IsSomeAnd o (λ (node : Node). IsSome node.koid × (node.parent ≡ Some hidden))) (sym visible.at) (visible.koid, up)

pub root-ready : (arena : Arena) (v : ℕ) (node : Node) → IsVisible (nodes_of arena) v node → node.parent ≡ None →
    IsSomeAnd (nodes_of arena v) (λ (node : Node). IsSome node.koid × (node.parent ≡ None))
root-ready arena v node visible root =
    subst (λ o. IsSomeAnd o (λ (node : Node). IsSome node.koid × (node.parent ≡ None))) (sym visible.at) (visible.koid, root)

-- the node has a family, where it has a parent
pub family-of : (arena : Arena) (f : IsForest (nodes_of arena) arena.lists) {v : ℕ} {node : Node} → IsVisible (nodes_of arena) v node →
    {hidden child : NodeId} → node.parent ≡ Some hidden → Some child ≡ sibling_in (nodes_of arena) v → IsFamilyOf arena v hidden.0 child.0
family-of arena f {v} {node} visible {hidden} {child} parent_is sibling_is =
    let below = f.by.below hidden.0 v node visible.at parent_is in
    let side = rw (visible.at, parent_is, below.at) at sibling_is in
    let there = child-there (nodes_of arena) arena.lists f hidden.0 child.0 below.above (other_side (side_of below.above v)) below.at (sym side) in
    record {
      node = node;
      parent = below.above;
      sibling = there.node;
      family = record { at = visible.at; parent_is = parent_is; parent_at = below.at; sibling_is = sym sibling_is; sibling_at = there.at };
      visible = visible;
    }
