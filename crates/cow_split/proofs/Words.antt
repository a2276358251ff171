-- What the proofs of this crate cite of the libraries below and of the definitions of the tree.
pub use Rattle.std.proofs.Common.{[], ◌&&◌, ◌*◌, ◌+◌, ◌++◌, ◌-◌, ◌<◌, ◌==◌, ◌^◌, ap, append_assoc, arith, Bool, false, if◌then◌else◌, inl}
pub use Rattle.std.proofs.Common.{inr, is_some, IsSome, IsSomeAnd, length, List, None, Option, refl, Some, subst, suc, sym, true, zero}
pub use Rattle.std.proofs.Common.{◌||◌, ℕ, ◌↔◌, ◌∙◌, ◌∷◌, ◌≡◌, ◌≢◌, ◌≤◌, ◌⊎◌}
pub use Rattle.std.proofs.Math.Nat.{pow-suc, pow-zero}
pub use Rattle.std.proofs.lemmas.Bool.{and_from, and_left, and_parts, and_right, both_ways, cases_Bool, cases_eq, cases_lt, eq-eqb}
pub use Rattle.std.proofs.lemmas.Bool.{eqb-true, false_from_ne_true, le-leb, lt-ltb, ltb-true, ne_eqb, not-true, not_from_false, or_cases}
pub use Rattle.std.proofs.lemmas.Bool.{or_left, or_parts, or_right}
pub use Rattle.std.proofs.lemmas.Bool.Decides.{nat_tests}
pub use Rattle.std.proofs.lemmas.List.{append-nil, length-append}
pub use Rattle.std.proofs.lemmas.List.Elements.{All-append, All-contains_itself, All-from_recursion, All-weaker, Contains-append_cases}
pub use Rattle.std.proofs.lemmas.List.Elements.{Contains-append_left, Contains-append_right, Contains-push, Contains-push_cases}
pub use Rattle.std.proofs.lemmas.List.Elements.{recursion_from_All}
pub use Rattle.std.proofs.lemmas.Map.Keys.{IsDistinct-cons, IsDistinct-head, IsDistinct-tail}
pub use Rattle.std.specs.List.{All, Contains}
unfoldable pub use Rattle.std.specs.List.{IsDistinct}
pub use Rattle.std.specs.Option.{option_map}
pub use Rattle.std.specs.Prelude.{cond, is_none, MatchOption, nat_lt, not}
pub use Rattle.vm_base.proofs.EntryLaws.{none_is, passes-some, some_is, some_same}
pub use Rattle.vm_base.proofs.SearchLaws.{count_below_less, count_below_one_more, eqb_apart, eqb_is, eqb_same}
unfoldable pub use Rattle.vm_base.specs.Entries.{entry_count, passes}
pub use Rattle.vm_base.specs.declared.names.Koid.{Koid}
pub use Rattle.vm_base.specs.declared.names.Tag.{Tag}
unfoldable pub use Rattle.balanced_tree.specs.Pairs.{with_pair}
pub use Rattle.balanced_tree.specs.Rows.{Rows}
pub use Rattle.page_list.specs.Lists.{row_count, slots_of}
pub use Rattle.page_list.specs.declared.row.Row.{Row}
pub use Rattle.page_list.specs.declared.row.Slot.{Slot}
pub use Rattle.cow_arena.specs.Forest.{HasListedRows, HasPair, IsForest, IsForestBy}
pub use Rattle.cow_arena.specs.Nodes.{Arena, child_on, IsVisible, leads_to, link_to, Nodes, nodes_of, other_side, parent_node_in}
pub use Rattle.cow_arena.specs.Nodes.{sibling_in, side_in, side_of}
pub use Rattle.cow_arena.specs.Renamed.{IsExchange, renamed, renamed_node}
pub use Rattle.cow_arena.specs.Walk.{Found, frame_found, frame_in, frame_shown, from_side, Slots, Tree, tree_with, walk}
pub use Rattle.cow_arena.specs.Ways.{absent_node, Arrives, Climbs, HadRow, HasRow, IsPageAbove, IsPartOf, KeepsBare, on_upwards, own_row}
pub use Rattle.cow_arena.specs.Ways.{past_window, Reaches, SameFrames}
pub use Rattle.cow_arena.specs.declared.node.Node.{Node}
pub use Rattle.cow_arena.specs.declared.node.NodeId.{NodeId}
pub use Rattle.cow_arena.specs.declared.node.Side.{Side}
pub use Rattle.cow_split.specs.Cost.{depth}
unfoldable pub use Rattle.cow_split.specs.Cost.{nodes_up}
pub use Rattle.cow_split.specs.Cutting.{answer_after, answer_from, answer_on, frame_left, HasCut, IsUnseenBy, leaves_frame, slots_after}
pub use Rattle.cow_split.specs.Cutting.{slots_from, split_on}
unfoldable pub use Rattle.cow_split.specs.Cutting.{cut_answer, cut_slots}
pub use Rattle.cow_split.specs.Exact.{all_in_sight, AreSplitBits, Denies, IsExact, IsOnlyOf, StandsInRow}
unfoldable pub use Rattle.cow_split.specs.Exact.{leaving_out, with_frame, without_frame}
pub use Rattle.cow_split.specs.Search.{ends, has_some, in_window, meets, reached_from, viewers_from}
unfoldable pub use Rattle.cow_split.specs.Search.{viewers_over}
pub use Rattle.cow_split.specs.Searching.{at_start, ComesTo, Finds, FindsFirst, FoundBelow, GoesOn, HasCounted, HasLeast, HasNoneLess}
pub use Rattle.cow_split.specs.Searching.{is_row_of, IsAhead, IsAmid, IsLeafOn, IsMet, IsOnward, IsPassed, IsThrough, OnWay, to_left}
pub use Rattle.cow_split.specs.Searching.{to_right, viewer_met, viewers_at, weight, weight_after, weight_ahead, weight_beside, weight_from}
unfoldable pub use Rattle.cow_split.specs.Searching.{sum_up}
pub use Rattle.cow_split.specs.Sight.{CameFrom, IsLastViewer, IsNotPage, IsPage, IsSeenBy, IsSeenFrom, Sees, ShowsSame, StaysVisible}
pub use Rattle.cow_split.specs.Trees.{holder_of, list_in, tree_of, with_row}
pub use Rattle.cow_split.specs.Viewers.{HasKoid, HasLesser, IsBelowAll, IsLeastKoid, lesser_of}
pub use Rattle.cow_split.specs.declared.answers.Cut.{Cut}
pub use Rattle.cow_split.specs.declared.viewers.Cursor.{Cursor}
pub use Rattle.cow_split.specs.inside.Existing.{hidden_at, IsOnwardBelow}
