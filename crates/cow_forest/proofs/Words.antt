-- What the proofs of this crate cite of the libraries below and of the definitions of the tree.
pub use Rattle.std.proofs.Common.{[], ◌%◌, ◌&&◌, ◌*◌, ◌+◌, ◌++◌, ◌-◌, ◌/◌, ◌<◌, ◌==◌, ◌^◌, ap, arith, Bool, cond, Err, false, get_or}
pub use Rattle.std.proofs.Common.{get_or-set_other, get_or-set_same, IfNone, IfSome, if◌then◌else◌, inl, inr, is_some, IsSome, IsSomeAnd}
pub use Rattle.std.proofs.Common.{length, List, min, None, not, Ok, OnErr, OnOk, Option, refl, replicate, Result, rules, set}
pub use Rattle.std.proofs.Common.{slice_index_or, slice_set, Some, subst, suc, sym, true, zero, ◌||◌, ℕ, ◌↔◌, ◌∙◌, ◌∷◌, ◌≡◌, ◌≢◌, ◌≤◌, ◌⊎◌}
pub use Rattle.std.proofs.lemmas.Bool.{and_from, and_left, and_parts, both_ways, cases_Bool, cases_eq, cases_lt, cond-false, cond-true}
pub use Rattle.std.proofs.lemmas.Bool.{eq-eqb, eqb-true, false_from_ne_true, le-leb, le-ltb, leb-true, lt-ltb, ne_eqb, not-true, or_cases}
pub use Rattle.std.proofs.lemmas.Bool.Decides.{nat_tests}
pub use Rattle.std.proofs.lemmas.Grind.{common_steps}
pub use Rattle.std.proofs.lemmas.List.{append-nil, length-append}
pub use Rattle.std.proofs.lemmas.List.Elements.{All-contains, All-from_recursion, Contains-append_cases, Contains-append_left}
pub use Rattle.std.proofs.lemmas.List.Elements.{Contains-append_right}
pub use Rattle.std.proofs.lemmas.Map.Keys.{IsDistinct-cons, IsDistinct-head, IsDistinct-tail}
pub use Rattle.std.specs.List.{All, AllByRecursion, cons_option, Contains, filter_map}
unfoldable pub use Rattle.std.specs.List.{IsDistinct}
pub use Rattle.std.specs.Option.{option_map, option_or}
pub use Rattle.std.specs.Prelude.{eqb, filter, IsOk, MatchOption, nat_le, nat_lt, unwrap_or}
pub use Rattle.vm_base.proofs.EntryLaws.{entry_count_hit, first_key, none_is, some_is, some_same, with_key-cases, with_key-here}
pub use Rattle.vm_base.proofs.EntryLaws.{with_key-other, with_key-same, without_key-other, without_key-same, without_key-some}
pub use Rattle.vm_base.proofs.SearchLaws.{any_below_at, any_below_found, bit-false, bit_le, bit-true, count_below_change}
pub use Rattle.vm_base.proofs.SearchLaws.{count_below_hit, count_below_le, count_below_less, count_below_none, count_below_one_more}
pub use Rattle.vm_base.proofs.SearchLaws.{count_below_same, eqb_apart, eqb_is, eqb_same, first-below, first-past}
unfoldable pub use Rattle.vm_base.specs.Entries.{with_key, without_key}
pub use Rattle.vm_base.specs.Search.{count_below, HasNone, IsFirst, IsFirstOrNone}
pub use Rattle.vm_base.specs.declared.names.Koid.{Koid}
pub use Rattle.vm_base.specs.declared.names.Tag.{Tag}
pub use Rattle.vm_model.proofs.ContentLaws.{bytes_of-none, bytes_of-some, count_from_page, page-hold_here, page-hold_other, same_content}
pub use Rattle.vm_model.proofs.ContentLaws.{same_page, sole-at, sole-zero, sole_from, views_at, views_found}
pub use Rattle.vm_model.proofs.CountLaws.{vmos_of-created, vmos_of-less, vmos_of-same}
pub use Rattle.vm_model.proofs.SharingLaws.{count-without_here, count-without_other, page-only_stays}
pub use Rattle.vm_model.proofs.ZeroingLaws.{cases_zeroed, page-zeroed_in, page-zeroed_out}
pub use Rattle.vm_model.specs.Contents.Content.{bytes_of, Content, is_held, is_sole_page, Page, shown, sole, views}
unfoldable pub use Rattle.vm_model.specs.Contents.Content.{created, hold, in_use, nothing, pages_of, seen_elsewhere, used, vmos_of}
pub use Rattle.vm_model.specs.Contents.Sharing.{IsLeastViewer, without}
unfoldable pub use Rattle.vm_model.specs.Contents.Sharing.{only, page_seen, snapshotted, viewers}
unfoldable pub use Rattle.vm_model.specs.Contents.Zeroing.{resized, zeroed}
pub use Rattle.slab.proofs.SlabLemmas.{Contains-cons_cases}
pub use Rattle.balanced_tree.proofs.PairLaws.{value-found, value-past, value-seen, values-none}
pub use Rattle.balanced_tree.specs.Pairs.{pair_rank}
unfoldable pub use Rattle.balanced_tree.specs.Pairs.{value_at}
pub use Rattle.balanced_tree.specs.Rows.{IsRising, RisesWithin, row_at, Rows}
pub use Rattle.page_list.proofs.SlotLaws.{row_pairs}
pub use Rattle.page_list.specs.Lists.{has_row, row_count, slots_of}
pub use Rattle.page_list.specs.Order.{row_functions, slot_of}
pub use Rattle.page_list.specs.declared.row.ListId.{ListId}
pub use Rattle.page_list.specs.declared.row.Row.{Row}
pub use Rattle.page_list.specs.declared.row.Slot.{Slot}
pub use Rattle.frame_pool.proofs.PoolLaws.{taken_count-is, takes_apart}
pub use Rattle.frame_pool.specs.Pool.{frame_bytes, is_taken, links_of, Pool, taken_count, taken_frames}
pub use Rattle.frame_pool.specs.declared.frame_pool.Backlink.{Backlink}
pub use Rattle.page_store.specs.Pages.{IsShown, IsShownOnce, look_at, Overwrites, ShowsTag, tag_held}
pub use Rattle.cow_arena.specs.Changes.{below_hidden, hidden_over, root_node, snapshot_node, window_first, with_window}
unfoldable pub use Rattle.cow_arena.specs.Changes.{paired}
pub use Rattle.cow_arena.specs.Counts.{HasFewerHidden, hidden_count}
unfoldable pub use Rattle.cow_arena.specs.Counts.{visible_count}
pub use Rattle.cow_arena.specs.Forest.{HasAsChild, IsChild, IsForest}
pub use Rattle.cow_arena.specs.Nodes.{AreFamily, Arena, IsVisible, link_to, Nodes, nodes_of, other_side, parent_node_in, sibling_in}
pub use Rattle.cow_arena.specs.Nodes.{side_in}
pub use Rattle.cow_arena.specs.Walk.{Found, frame_found, frame_in, frame_shown, shows_frame, Slots, Tree, tree_with, walk}
pub use Rattle.cow_arena.specs.Ways.{Arrives, Climbs, HadRow, IsPartOf, KeepsBare, Reaches, ReachesIn}
pub use Rattle.cow_arena.specs.declared.node.Node.{Node}
pub use Rattle.cow_arena.specs.declared.node.NodeId.{NodeId}
pub use Rattle.cow_arena.specs.declared.node.Pair.{Pair}
pub use Rattle.cow_arena.specs.declared.node.Side.{Side}
pub use Rattle.cow_split.specs.Cost.{depth}
unfoldable pub use Rattle.cow_split.specs.Cost.{nodes_up}
pub use Rattle.cow_split.specs.Cutting.{cut_answer, leaves_frame}
pub use Rattle.cow_split.specs.Exact.{all_in_sight, IsExact}
pub use Rattle.cow_split.specs.Search.{viewers_from}
pub use Rattle.cow_split.specs.Sight.{IsLastViewer, IsNotPage, IsPage, IsSeenFrom, Sees, ShowsSame, StaysVisible}
pub use Rattle.cow_split.specs.Trees.{frame_held, holder_of, tree_of}
pub use Rattle.cow_split.specs.Viewers.{HasKoid, HasLesser, IsBelowAll, IsLeastKoid, lesser_of}
pub use Rattle.cow_split.specs.declared.answers.Holder.{Holder}
pub use Rattle.cow_jump.specs.Jumps.{AreJumps, AreMovedUp, ArePairRetired, IsCurrentJump, IsJump, jump_in, serial_in}
pub use Rattle.cow_fork.specs.Forking.{HasOwned, HasOwnRow}
pub use Rattle.cow_fork.specs.Frames.{bytes_shown, HasFree, HasSole, IsSole}
pub use Rattle.cow_fork.specs.Sharing.{HasShared}
pub use Rattle.cow_fork.specs.Snapshots.{is_taken_in, split_row}
unfoldable pub use Rattle.cow_fork.specs.Snapshots.{split_slots}
pub use Rattle.cow_fork.specs.Sweeping.{HasSwept}
pub use Rattle.cow_fork.specs.Zeroing.{HasZeroed}
unfoldable pub use Rattle.cow_fork.specs.Zeroing.{shown_from}
pub use Rattle.cow_merge.specs.Merging.{HasGone, HasListOfParent, IsRaised, KeepsPages, WasUnder, with_count}
pub use Rattle.cow_merge.specs.Ranges.{AreLinked, GivesBack}
pub use Rattle.cow_forest.specs.Owning.{own_frame, tag_in, tag_there}
pub use Rattle.cow_forest.specs.Ranges.{HasNoFrame, IsReadyToZero, rows_over, rows_reached}
unfoldable pub use Rattle.cow_forest.specs.Ranges.{rows_in, rows_up}
pub use Rattle.cow_forest.specs.Store.{count_from, Forest, forest_content, frame_from, HasNode, IsNodeOf, IsStore, page_showing}
pub use Rattle.cow_forest.specs.Store.{page_with_frame, pages_in, tree}
pub use Rattle.cow_forest.specs.Tables.{AreMerged, HasOneOf, IsDisowned, NodeEntries, own_node, unless_own}
unfoldable pub use Rattle.cow_forest.specs.Tables.{displaced_in, node_in}
pub use Rattle.cow_forest.specs.declared.founders.FounderTable.{FounderTable}
pub use Rattle.cow_forest.specs.inside.Fields.{AreStore, forest_of}
pub use Rattle.cow_forest.specs.inside.Founders.{AreFounders, AreFoundersBy, eldest, founders_in, IsElderFor, IsUnder, koid_or}
pub use Rattle.cow_forest.specs.inside.Looking.{IsLook, look_in, nearer_page, ShowsFrameOrNone}
pub use Rattle.cow_forest.specs.inside.TableFields.{entries_of, IsPlacedByNumber}
pub use Rattle.cow_forest.specs.inside.Viewing.{AreViewers, HasFrameRow, HasLesserOf, IsLeastKoidOf, IsViewerCount, ShowsFrame}
