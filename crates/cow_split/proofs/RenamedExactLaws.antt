-- A tree under other list numbers is as exact as it was.
use Rattle.cow_split.proofs.Words.{◌≡◌, ◌↔◌, ℕ, ◌<◌, Bool, false, None, Some, IsSome, sym, ap, subst, ◌∙◌, Slot, Node, Side, Tree}
use Rattle.cow_split.proofs.Words.{renamed_node, renamed, IsExchange, IsPage, IsSeenFrom, AreSplitBits, IsExact}
use Rattle.cow_arena.proofs.RenamedLaws.{renamed-at, renamed-was, renamed-each, forest-renamed_by, row-renamed, walk-renamed}
use Rattle.cow_split.proofs.ExactLaws.{bits-alike, seen-moved}

-- a page of a VMO is one
pub renamed-page : (name : ℕ → ℕ) (t : Tree) (v p : ℕ) → IsPage t v p → IsPage (renamed name t) v p
renamed-page name t v p page = record {
  node = renamed_node name page.node;
  visible = record { at = renamed-at name t.nodes v page.node page.visible.at; koid = page.visible.koid };
  below = page.below;
}

-- and was one
pub page-renamed : (name : ℕ → ℕ) (t : Tree) (v p : ℕ) → IsPage (renamed name t) v p → IsPage t v p
page-renamed name t v p page =
    let was = renamed-was name t.nodes v page.node page.visible.at in
    record {
      node = was.0;
      visible = record { at = was.1; koid = subst IsSome (sym (ap (λ (n : Node). n.koid) was.2)) page.visible.koid };
      below = subst (λ (n : Node). p < n.count) (sym was.2) page.below;
    }

module _ (name : ℕ → ℕ) (t : Tree) (exchange : IsExchange name t.lists) (out : ℕ → ℕ → Bool) (in_use : ℕ → Bool) (exact : IsExact t out in_use) where
  abbrev now : Tree
  now = renamed name t

  seen-renamed : (s : Side) (h q : ℕ) → IsSeenFrom t out s h q ↔ IsSeenFrom now out s h q
  seen-renamed s h q = (
    seen-moved t now out out s h q (λ v p sees in_sight. record {
      page = renamed-page name t v p sees.page;
      same = walk-renamed name exchange.twice t exact.forest v p;
      in_sight = in_sight;
    }),
    seen-moved now t out out s h q (λ v p sees in_sight. record {
      page = page-renamed name t v p sees.page;
      same = sym (walk-renamed name exchange.twice t exact.forest v p);
      in_sight = in_sight;
    }),
  )

  pub exact-renamed : IsExact (renamed name t) out in_use
  exact-renamed = record {
    forest = record { rank = exact.forest.rank; by = forest-renamed_by name t.lists exchange t.nodes exact.forest.rank exact.forest.by };
    listed = record {
      listed = λ l p row at.
          let it = exact.listed.listed (name l) p row at in
          record {
            k = it.k;
            node = renamed_node name it.node;
            at = renamed-at name t.nodes it.k it.node it.at;
            named = ap name it.named ∙ exchange.twice l;
          };
    };
    below = λ v p node row visible. renamed-each name t.nodes (λ v node. IsSome node.koid → now.slots node.list.0 p ≡ Some row → p < node.count)
        (λ v node at koid has.
        exact.below v p node row (record { at = at; koid = koid }) (sym (row-renamed name exchange.twice t exact.forest node p) ∙ has))
        v node visible.at visible.koid;
    plain = λ v p node tag left right visible. renamed-each name t.nodes
        (λ v node. IsSome node.koid → now.slots node.list.0 p ≡ Some (Slot.Frame tag left right) → (left ≡ false) × (right ≡ false))
        (λ v node at koid has.
        exact.plain v p node tag left right (record { at = at; koid = koid }) (sym (row-renamed name exchange.twice t exact.forest node p) ∙ has))
        v node visible.at visible.koid;
    stands = λ tag used.
        let it = exact.stands tag used in
        record { l = name it.l; q = it.q; row = it.row; at = ap (λ l. t.slots l it.q) (exchange.twice it.l) ∙ it.at; frame = it.frame };
    used = λ l. exact.used (name l);
    once = λ l q m r tag row other one two frame again.
        let both = exact.once (name l) q (name m) r tag row other one two frame again in
        (sym (exchange.twice l) ∙ (ap name both.0 ∙ exchange.twice m), both.1);
    bits = λ h q node tag left right. renamed-each name t.nodes
        (λ h node. node.koid ≡ None → now.slots node.list.0 q ≡ Some (Slot.Frame tag left right) → AreSplitBits now out h q left right)
        (λ h node at hidden has. bits-alike (λ s. seen-renamed s h q)
        (exact.bits h q node tag left right at hidden (sym (row-renamed name exchange.twice t exact.forest node q) ∙ has)))
        h node;
  }
