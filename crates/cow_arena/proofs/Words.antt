-- What the proofs of this crate cite of the libraries below and of the definitions of the tree.
pub use Rattle.std.proofs.Common.{[], ◌&&◌, ◌+◌, ◌-◌, ◌<◌, ◌==◌, ap, arith, Bool, cond, false, inl, inr, min, None, Option, refl, rules}
pub use Rattle.std.proofs.Common.{Some, subst, suc, sym, true, zero, ℕ, ◌∙◌, ◌≡◌, ◌≢◌, ◌≤◌, ◌⊎◌}
pub use Rattle.std.proofs.lemmas.Bool.{cases_eq, cases_lt, cond-false, cond-true, false_from_ne_true, le-ltb, lt-ltb}
pub use Rattle.std.specs.Option.{option_map, option_or}
pub use Rattle.std.specs.Prelude.{IfSome, is_none, is_some, IsSome, IsSomeAnd, nat_lt, ◌↔◌}
pub use Rattle.vm_base.proofs.EntryLaws.{any_entry-count, any_entry_found, entry_count-change, entry_count-empty, entry_count-same}
pub use Rattle.vm_base.proofs.EntryLaws.{entry_count-with_key, entry_count-without_key, entry_count_hit, entry_count_le, none_is}
pub use Rattle.vm_base.proofs.EntryLaws.{passes-some, passes_found, some_is, some_same, with_key-cases, with_key-here, with_key-other}
pub use Rattle.vm_base.proofs.EntryLaws.{with_key-same, without_key-other, without_key-same, without_key-some}
pub use Rattle.vm_base.proofs.SearchLaws.{bit-false, bit-true, bit_same, count_below_gap, eqb_apart, eqb_is, eqb_same}
pub use Rattle.vm_base.specs.Entries.{with_key, without_key}
unfoldable pub use Rattle.vm_base.specs.Entries.{entry_count, passes}
pub use Rattle.vm_base.specs.declared.names.Koid.{Koid}
pub use Rattle.slab.specs.Slab.{ContainsKey, get, Slab, Updates, with_value}
unfoldable pub use Rattle.balanced_tree.specs.Pairs.{with_pair}
pub use Rattle.page_list.specs.declared.row.ListId.{ListId}
pub use Rattle.page_list.specs.declared.row.Slot.{Slot}
pub use Rattle.cow_arena.specs.Changes.{below_hidden, hidden_over, lifted, moved_link, root_node, snapshot_node, window_first}
unfoldable pub use Rattle.cow_arena.specs.Changes.{paired, relinked, spliced, spliced_over}
pub use Rattle.cow_arena.specs.Counts.{HasFewerHidden}
unfoldable pub use Rattle.cow_arena.specs.Counts.{hidden_count, visible_count}
pub use Rattle.cow_arena.specs.Forest.{HasAsChild, HasListedRows, HasPair, IsChild, IsForest, IsForestBy, IsListed}
pub use Rattle.cow_arena.specs.Nodes.{AreFamily, Arena, child_on, IsVisible, leads_to, link_to, node_above, Nodes, nodes_of, other_side}
pub use Rattle.cow_arena.specs.Nodes.{sibling_in, side_in, side_of}
pub use Rattle.cow_arena.specs.Renamed.{AreExchanged, IsExchange, renamed, renamed_node, renamed_nodes}
unfoldable pub use Rattle.cow_arena.specs.Renamed.{exchanged}
pub use Rattle.cow_arena.specs.Walk.{Found, frame_found, frame_in, frame_shown, from_side, Slots, Tree, tree_with, walk}
unfoldable pub use Rattle.cow_arena.specs.Walk.{walk_over}
pub use Rattle.cow_arena.specs.Ways.{absent_node, Arrives, Begins, Climbs, Ends, HasRow, IsPageAbove, KeepsBare, KeepsBelow, on_upwards}
pub use Rattle.cow_arena.specs.Ways.{own_row, past_window, Reaches, ReachesIn, Rises, SameElsewhere, SameFrames, Sight, sight_of}
pub use Rattle.cow_arena.specs.declared.node.Node.{Node}
pub use Rattle.cow_arena.specs.declared.node.NodeId.{NodeId}
pub use Rattle.cow_arena.specs.declared.node.Side.{Side}
pub use Rattle.cow_arena.specs.inside.Fields.{arena_of, IsArena}
unfoldable pub use Rattle.cow_arena.specs.inside.Fields.{root_count}
