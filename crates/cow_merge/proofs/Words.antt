-- What the proofs of this crate cite of the libraries below and of the definitions of the tree.
pub use Rattle.std.proofs.Common.{◌&&◌, ◌*◌, ◌+◌, ◌-◌, ◌<◌, ◌==◌, ◌^◌, ap, arith, Bool, false, if◌then◌else◌, inl, inr, IsSome, IsSomeAnd}
pub use Rattle.std.proofs.Common.{min, None, not, Option, refl, Some, subst, suc, sym, true, zero, ℕ, ◌↔◌, ◌∙◌, ◌≡◌, ◌≢◌, ◌≤◌, ◌⊎◌}
pub use Rattle.std.proofs.lemmas.Bool.{and_from, and_left, and_parts, and_right, both_ways, cases_Bool, cases_eq, cases_lt, cond-false}
pub use Rattle.std.proofs.lemmas.Bool.{cond-true, eq-eqb, eqb-true, false_from_ne_true, le-leb, leb-true, lt-leb, lt-ltb, ltb-true, ne_eqb}
pub use Rattle.std.proofs.lemmas.Bool.{or_left, or_parts, or_right}
pub use Rattle.std.specs.Option.{option_map}
pub use Rattle.std.specs.Prelude.{cond, IfNone, IfSome, is_none, is_some, nat_le, nat_lt, ◌||◌}
pub use Rattle.vm_base.proofs.EntryLaws.{first_key, none_is, some_is, some_same, with_key-cases, with_key-here, with_key-other}
pub use Rattle.vm_base.proofs.EntryLaws.{with_key-same, without_key-other, without_key-same, without_key-some}
pub use Rattle.vm_base.proofs.SearchLaws.{eqb_apart, eqb_is, eqb_same, first-below, first-past}
pub use Rattle.vm_base.specs.Entries.{with_key, without_key}
unfoldable pub use Rattle.vm_base.specs.Entries.{passes}
pub use Rattle.vm_base.specs.Search.{HasNone, IsFirst, IsFirstOrNone}
pub use Rattle.vm_base.specs.declared.names.Koid.{Koid}
pub use Rattle.vm_base.specs.declared.names.Tag.{Tag}
pub use Rattle.balanced_tree.specs.Pairs.{IsNext}
unfoldable pub use Rattle.balanced_tree.specs.Pairs.{with_pair}
pub use Rattle.balanced_tree.specs.Rows.{Rows}
pub use Rattle.page_list.specs.Lists.{has_row, row_count, slots_of}
pub use Rattle.page_list.specs.declared.row.ListId.{ListId}
pub use Rattle.page_list.specs.declared.row.Row.{Row}
pub use Rattle.page_list.specs.declared.row.Slot.{Slot}
pub use Rattle.frame_pool.specs.Pool.{is_taken, links_of, Pool, taken_frames}
pub use Rattle.frame_pool.specs.declared.frame_pool.Backlink.{Backlink}
pub use Rattle.cow_arena.specs.Changes.{lifted, relinked, window_first, with_window}
unfoldable pub use Rattle.cow_arena.specs.Changes.{spliced, spliced_over}
pub use Rattle.cow_arena.specs.Counts.{hidden_count, visible_count}
pub use Rattle.cow_arena.specs.Forest.{HasListedRows, HasPair, IsChild, IsForest}
pub use Rattle.cow_arena.specs.Nodes.{AreFamily, Arena, child_on, IsVisible, leads_to, link_to, node_above, Nodes, nodes_of, other_side}
pub use Rattle.cow_arena.specs.Nodes.{sibling_in, side_in, side_of}
pub use Rattle.cow_arena.specs.Renamed.{exchanged, IsExchange, renamed, renamed_node, renamed_nodes}
pub use Rattle.cow_arena.specs.Walk.{Found, frame_found, frame_in, frame_shown, from_side, Slots, Tree, tree_with, walk}
pub use Rattle.cow_arena.specs.Ways.{Arrives, Climbs, HasRow, IsPartOf, KeepsBelow, Reaches, SameElsewhere, SameFrames}
pub use Rattle.cow_arena.specs.declared.node.Node.{Node}
pub use Rattle.cow_arena.specs.declared.node.NodeId.{NodeId}
pub use Rattle.cow_arena.specs.declared.node.Side.{Side}
unfoldable pub use Rattle.cow_split.specs.Cost.{nodes_up}
pub use Rattle.cow_split.specs.Cutting.{answer_after, answer_from, answer_on, frame_left, HasCut, IsUnseenBy, slots_after, slots_from}
pub use Rattle.cow_split.specs.Cutting.{split_on}
unfoldable pub use Rattle.cow_split.specs.Cutting.{cut_answer, cut_slots}
pub use Rattle.cow_split.specs.Exact.{all_in_sight, AreSplitBits, Denies, IsExact, IsOnlyOf}
unfoldable pub use Rattle.cow_split.specs.Exact.{leaving_out, with_frame, without_frame}
pub use Rattle.cow_split.specs.Search.{reached_from, viewers_from}
pub use Rattle.cow_split.specs.Searching.{ComesTo}
pub use Rattle.cow_split.specs.Sight.{CameFrom, IsPage, IsSeenFrom, Sees, ShowsSame, StaysVisible}
pub use Rattle.cow_split.specs.Trees.{holder_of, tree_of, with_row}
pub use Rattle.cow_split.specs.declared.answers.Cut.{Cut}
pub use Rattle.cow_split.specs.declared.answers.Holder.{Holder}
pub use Rattle.cow_merge.specs.Merging.{HasGone, HasListOfParent, IsRaised, KeepsPages, narrowed_nodes, StaysUnder, WasThere, WasUnder}
pub use Rattle.cow_merge.specs.Merging.{with_count}
pub use Rattle.cow_merge.specs.Ranges.{Accounts, AreLinked, bare_of, bit_on, CameTo, ComesNotTo, GivesBack, HasCutOff, HasGiven, is_split}
pub use Rattle.cow_merge.specs.Ranges.{IsAllOut, IsDropping, IsExactFor, IsHeldBy, IsInSight, IsLeftBare, IsLeftOut, IsNextOutside}
pub use Rattle.cow_merge.specs.Ranges.{IsNotFrom, IsOnItsWayUp, IsOnlyWay, IsOutside, IsParent, IsPassing, IsSpared, IsSparing, Moves}
pub use Rattle.cow_merge.specs.Ranges.{no_pages}
unfoldable pub use Rattle.cow_merge.specs.Ranges.{leaving_range}
pub use Rattle.cow_merge.specs.declared.ranges.Pages.{Pages}
pub use Rattle.cow_merge.specs.declared.witness.Way.{Way}
pub use Rattle.cow_merge.specs.inside.HandingOver.{AreSeenFrom, frame_there, IsHandingOver}
pub use Rattle.cow_merge.specs.inside.Lifting.{AreLifted, is_row_of_frame, IsAside, IsBefore, IsFamilyOf, IsLifting, IsMoved, IsReachedBelow}
pub use Rattle.cow_merge.specs.inside.Lifting.{KeepsFamily, SeesRow, TellsSeen}
pub use Rattle.cow_merge.specs.inside.Sharing.{AreReached, AreShared, IsDown, IsReached}
pub use Rattle.cow_merge.specs.inside.Uncovering.{IsUncovering, without_bits}
pub use Rattle.cow_merge.specs.inside.Witness.{ComesBeside, IsBeside, IsEntered, IsOneMore, IsWayWithin, SeesRowOf, ShowsOnlyOf}
