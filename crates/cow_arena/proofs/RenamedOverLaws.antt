-- A leaf goes with its parent, and its sibling has the parent's list: the tree is the one in which the sibling has its own, with
-- the two list numbers exchanged.
use Rattle.cow_arena.proofs.Words.{◌≡◌, ◌≢◌, ◌⊎◌, ℕ, Option, None, Some, inl, inr, refl, sym, ap, subst, ◌∙◌, IsSome, IsSomeAnd, option_map}
use Rattle.cow_arena.proofs.Words.{cases_eq, with_key, without_key, some_same, with_key-here, with_key-same, with_key-other, with_key-cases}
use Rattle.cow_arena.proofs.Words.{without_key-some, without_key-other, ListId, Slot, Node, NodeId, Arena, Nodes, nodes_of, IsVisible}
use Rattle.cow_arena.proofs.Words.{AreFamily, sibling_in, other_side, side_of, Tree, Slots, tree_with, walk, IsForest, IsForestBy, IsListed}
use Rattle.cow_arena.proofs.Words.{HasListedRows, relinked, lifted, spliced, spliced_over, exchanged, renamed_node, renamed_nodes, renamed}
use Rattle.cow_arena.proofs.Words.{IsExchange, AreExchanged}
use Rattle.cow_arena.proofs.ReachLaws.{child-there}
use Rattle.cow_arena.proofs.RelinkLaws.{relinked-stays, relinked-was}
use Rattle.cow_arena.proofs.SpliceWalkLaws.{rowless}
use Rattle.cow_arena.proofs.ViewLaws.{spliced-keeps}
use Rattle.cow_arena.proofs.RenamedLaws.{exchanged-second, exchanged-other, exchange-of, forest-renamed_by, walk-renamed}

module _ (nodes : Nodes) (lists : ℕ) (rank : ℕ → ℕ) (f : IsForestBy nodes lists rank) (k h s : ℕ) (node parent sibling : Node)
    (family : AreFamily nodes k h s node parent sibling) where
  -- the numbers of the lists of the parent and of the sibling are exchanged
  abbrev pub over_name : ℕ → ℕ
  over_name = exchanged parent.list.0 sibling.list.0

  pub over-exchange : IsExchange over_name lists
  over-exchange =
      exchange-of parent.list.0 sibling.list.0 lists (f.given h parent family.parent_at) (f.given s sibling family.sibling_at)

  -- the other nodes that are left
  abbrev others : Nodes
  others = without_key (without_key (relinked nodes parent.parent h s) h) k

  -- none of them has one of the two lists
  list-stays : (n : ℕ) (a : Node) → n ≢ s → others n ≡ Some a → over_name a.list.0 ≡ a.list.0
  list-stays n a n_s at =
      let below = without_key-some (without_key (relinked nodes parent.parent h s) h) k n a at in
      let beside = without_key-some (relinked nodes parent.parent h s) h n a below.1 in
      let was = relinked-was nodes parent.parent h s n a beside.1 in
      let list = ap (λ (l : ListId). l.0) (sym was.2.list) in
      exchanged-other parent.list.0 sibling.list.0 a.list.0
      (λ same. beside.0 (f.own n h was.0 parent was.1 family.parent_at (list ∙ same)))
      (λ same. n_s (f.own n s was.0 sibling was.1 family.sibling_at (list ∙ same)))

  pub over-renamed_at : (n : ℕ) → spliced_over nodes k h s parent sibling n ≡ renamed_nodes over_name (spliced nodes k h s parent sibling) n
  unfolding spliced spliced_over
  over-renamed_at n = elim (cases_eq n s) [
    | inl same ↦
        ap (with_key others s (record (lifted parent sibling) { list = parent.list })) same
        ∙ (with_key-same others s (record (lifted parent sibling) { list = parent.list })
        ∙ (ap (λ (l : ℕ). Some (record (lifted parent sibling) { list = record { 0 = l } })) (sym (exchanged-second parent.list.0 sibling.list.0))
        ∙ sym (ap (renamed_nodes over_name (with_key others s (lifted parent sibling))) same
        ∙ ap (option_map (renamed_node over_name)) (with_key-same others s (lifted parent sibling)))))
    | inr apart ↦
        with_key-other others s (record (lifted parent sibling) { list = parent.list }) n apart
        ∙ (stays apart (others n) refl
        ∙ sym (ap (option_map (renamed_node over_name)) (with_key-other others s (lifted parent sibling) n apart)))
  ]
    where
      stays : n ≢ s → (o : Option Node) → others n ≡ o → others n ≡ option_map (renamed_node over_name) (others n)
      stays apart None at = at ∙ sym (ap (option_map (renamed_node over_name)) at)
      stays apart (Some a) at =
          at
          ∙ (ap (λ (l : ℕ). Some (record a { list = record { 0 = l } })) (sym (list-stays n a apart at))
          ∙ sym (ap (option_map (renamed_node over_name)) at))

  pub nodes-over : spliced_over nodes k h s parent sibling ≡ renamed_nodes over_name (spliced nodes k h s parent sibling)
  nodes-over = λ i n. over-renamed_at n i

  pub forest-over : IsForest (spliced nodes k h s parent sibling) lists → IsForest (spliced_over nodes k h s parent sibling) lists
  forest-over now =
      subst (λ (n : Nodes). IsForest n lists) (sym nodes-over)
      (record { rank = now.rank; by = forest-renamed_by over_name lists over-exchange (spliced nodes k h s parent sibling) now.rank now.by })

  -- the sibling was put in the parent's place, and got the list then
  pub over-written : with_key (spliced nodes k h s parent sibling) s (record (lifted parent sibling) { list = parent.list })
      ≡ spliced_over nodes k h s parent sibling
  unfolding spliced spliced_over
  over-written = λ i n. each n i
    where
      each : (n : ℕ) → with_key (with_key others s (lifted parent sibling)) s (record (lifted parent sibling) { list = parent.list }) n
          ≡ with_key others s (record (lifted parent sibling) { list = parent.list }) n
      each n = elim (cases_eq n s) [
        | inl same ↦
            with_key-here (with_key others s (lifted parent sibling)) s (record (lifted parent sibling) { list = parent.list }) n same
            ∙ sym (with_key-here others s (record (lifted parent sibling) { list = parent.list }) n same)
        | inr apart ↦
            with_key-other (with_key others s (lifted parent sibling)) s (record (lifted parent sibling) { list = parent.list }) n apart
            ∙ (with_key-other others s (lifted parent sibling) n apart
            ∙ sym (with_key-other others s (record (lifted parent sibling) { list = parent.list }) n apart))
      ]

  -- the tree with rows that are exchanged too
  pub tree-over : (slots over : Slots) → AreExchanged slots over parent.list.0 sibling.list.0 →
      tree_with (spliced_over nodes k h s parent sibling) lists over ≡ renamed over_name (tree_with (spliced nodes k h s parent sibling) lists slots)
  tree-over slots over rows = λ i. tree_with (nodes-over i) lists (λ l p. rows l p i)

  -- each node has its list, but the sibling has that of the parent
  pub over-lists : (n : ℕ) (was now : Node) → nodes n ≡ Some was → spliced_over nodes k h s parent sibling n ≡ Some now →
      (now.list ≡ was.list) ⊎ ((n ≡ s) × (now.list ≡ parent.list))
  unfolding spliced_over
  over-lists n was now at there = elim (with_key-cases others s (record (lifted parent sibling) { list = parent.list }) n now there) [
    | inl here ↦ inr (here.0, ap (λ (x : Node). x.list) (sym here.1))
    | inr other ↦
        let below = without_key-some (without_key (relinked nodes parent.parent h s) h) k n now other.1 in
        let beside = without_key-some (relinked nodes parent.parent h s) h n now below.1 in
        let it = relinked-was nodes parent.parent h s n now beside.1 in
        inl (it.2.list ∙ ap (λ (x : Node). x.list) (some_same (sym it.1 ∙ at)))
  ]

  -- Rows still stand in lists of nodes alone, where the lists that go have none.
  pub over-listed : (slots : Slots) → ((p : ℕ) → slots node.list.0 p ≡ None) → ((p : ℕ) → slots sibling.list.0 p ≡ None) →
      HasListedRows (tree_with nodes lists slots) → HasListedRows (tree_with (spliced_over nodes k h s parent sibling) lists slots)
  unfolding spliced_over
  over-listed slots bare left rows = record { listed = λ l p slot e. here l p slot e (rows.listed l p slot e) }
    where
      here : (l p : ℕ) (slot : Slot) → slots l p ≡ Some slot → IsListed nodes l → IsListed (spliced_over nodes k h s parent sibling) l
      here l p slot e of = elim (cases_eq of.k k) [
        | inl same ↦ absurd (rowless nodes slots k of.k l p of.node node slot same of.at family.at bare of.named e)
        | inr j_k ↦ elim (cases_eq of.k s) [
          | inl same ↦ absurd (rowless nodes slots s of.k l p of.node sibling slot same of.at family.sibling_at left of.named e)
          | inr j_s ↦ elim (cases_eq of.k h) [
            | inl same ↦
                let one : parent ≡ of.node = some_same (sym family.parent_at ∙ (sym (ap nodes same) ∙ of.at)) in
                record {
                  k = s;
                  node = record (lifted parent sibling) { list = parent.list };
                  at = with_key-same others s (record (lifted parent sibling) { list = parent.list });
                  named = ap (λ (n : Node). n.list.0) one ∙ of.named;
                }
            | inr j_h ↦
                let b = relinked-stays nodes parent.parent h s of.k of.node of.at in
                record {
                  k = of.k;
                  node = b.0;
                  at = with_key-other others s (record (lifted parent sibling) { list = parent.list }) of.k j_s
                      ∙ (without_key-other (without_key (relinked nodes parent.parent h s) h) k of.k j_k
                      ∙ (without_key-other (relinked nodes parent.parent h s) h of.k j_h ∙ b.1));
                  named = ap (λ (l : ListId). l.0) b.2.list ∙ of.named;
                }
          ]
        ]
      ]

-- ---- what the call finds and does

-- the family of a node, as it was found
pub family-found : (nodes : Nodes) (lists : ℕ) (f : IsForest nodes lists) (k : ℕ) (hidden sibling : NodeId) (node parent : Node) → nodes k ≡ Some node →
    node.parent ≡ Some hidden → nodes hidden.0 ≡ Some parent → Some sibling ≡ sibling_in nodes k →
    (other : Node) × AreFamily nodes k hidden.0 sibling.0 node parent other
family-found nodes lists f k hidden sibling node parent at up above beside =
    let child = rw (at, up, above) at beside in
    let there = child-there nodes lists f hidden.0 sibling.0 parent (other_side (side_of parent k)) above (sym child) in
    (there.node, record { at = at; parent_is = up; parent_at = above; sibling_is = sym beside; sibling_at = there.at })

-- The sibling was put in the parent's place, and then it got the parent's list.
module _ (old mid : Arena) (f : IsForest (nodes_of old) old.lists) (k h s : ℕ) (node parent sibling : Node)
    (family : AreFamily (nodes_of old) k h s node parent sibling) (is : nodes_of mid ≡ spliced (nodes_of old) k h s parent sibling) where
  pub sibling-there : nodes_of mid s ≡ Some (lifted parent sibling)
  unfolding spliced
  sibling-there = ap (λ (n : Nodes). n s) is ∙ with_key-same _ s (lifted parent sibling)

  pub nodes-written : (was : Node) → nodes_of mid s ≡ Some was →
      with_key (nodes_of mid) s (record was { list = parent.list }) ≡ spliced_over (nodes_of old) k h s parent sibling
  nodes-written was at =
      let one : was ≡ lifted parent sibling = some_same (sym at ∙ sibling-there) in
      (λ i. with_key (is i) s (record (one i) { list = parent.list }))
      ∙ over-written (nodes_of old) old.lists f.rank f.by k h s node parent sibling family

  pub forest-written : mid.lists ≡ old.lists → IsForest (nodes_of mid) mid.lists → (was : Node) → nodes_of mid s ≡ Some was →
      IsForest (with_key (nodes_of mid) s (record was { list = parent.list })) mid.lists
  forest-written lists g was at =
      subst (λ l. IsForest (with_key (nodes_of mid) s (record was { list = parent.list })) l) (sym lists)
      (subst (λ (n : Nodes). IsForest n old.lists) (sym (nodes-written was at))
      (forest-over (nodes_of old) old.lists f.rank f.by k h s node parent sibling family
      (subst (λ l. IsForest (spliced (nodes_of old) k h s parent sibling) l) lists (subst (λ (n : Nodes). IsForest n mid.lists) is g))))

-- ---- what the call promises

module _ (old : Arena) (new : Nodes) (lists : ℕ) (f : IsForest (nodes_of old) old.lists) (same : lists ≡ old.lists)
    (k h s : ℕ) (leaf parent sibling : Node) (shown : IsSomeAnd (nodes_of old k) (λ node. IsSome node.koid × IsSome node.parent))
    (family : AreFamily (nodes_of old) k h s leaf parent sibling) (nodes : new ≡ spliced_over (nodes_of old) k h s parent sibling) where
  visible : IsVisible (nodes_of old) k leaf
  visible = record { at = family.at; koid = (rw (family.at) at shown).0 }

  over_now : (slots : Slots) → tree_with (spliced_over (nodes_of old) k h s parent sibling) old.lists slots ≡ tree_with new lists slots
  over_now slots = λ i. tree_with (sym nodes i) (sym same i) slots

  pub keeps-walks_over : IsForest (spliced (nodes_of old) k h s parent sibling) old.lists → (slots over : Slots) →
      AreExchanged slots over parent.list.0 sibling.list.0 → ((p : ℕ) → slots parent.list.0 p ≡ None) →
      (j p : ℕ) → j ≢ k → j ≢ h → walk (tree_with new lists over) j p ≡ walk (tree_with (nodes_of old) old.lists slots) j p
  keeps-walks_over g slots over rows empty j p j_k j_h =
      let t : Tree = tree_with (nodes_of old) old.lists slots in
      let u : Tree = tree_with (spliced (nodes_of old) k h s parent sibling) old.lists slots in
      let name = over-exchange (nodes_of old) old.lists f.rank f.by k h s leaf parent sibling family in
      ap (λ (x : Tree). walk x j p)
      (sym (over_now over) ∙ tree-over (nodes_of old) old.lists f.rank f.by k h s leaf parent sibling family slots over rows)
      ∙ (walk-renamed (exchanged parent.list.0 sibling.list.0) name.twice u g j p
      ∙ spliced-keeps t f k h s leaf parent sibling family visible empty g j p j_k j_h)

  pub keeps-listed_over : (slots : Slots) → ((p : ℕ) → slots leaf.list.0 p ≡ None) → ((p : ℕ) → slots sibling.list.0 p ≡ None) →
      HasListedRows (tree_with (nodes_of old) old.lists slots) → HasListedRows (tree_with new lists slots)
  keeps-listed_over slots bare left rows =
      subst HasListedRows (over_now slots) (over-listed (nodes_of old) old.lists f.rank f.by k h s leaf parent sibling family slots bare left rows)
