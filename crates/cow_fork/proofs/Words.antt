-- What the proofs of this crate cite of the libraries below and of the definitions of the tree.
pub use Rattle.std.proofs.Common.{◌+◌, ◌-◌, ◌<◌, ◌^◌, ap, arith, Bool, cond, false, inl, inr, is_some, IsSome, List, None, Option, refl, Some}
pub use Rattle.std.proofs.Common.{subst, sym, true, ℕ, ◌↔◌, ◌∙◌, ◌≡◌, ◌≢◌, ◌≤◌, ◌⊎◌}
pub use Rattle.std.proofs.lemmas.Bool.{and_from, and_parts, both_ways, cases_Bool, cases_eq, cases_lt, cond-false, cond-true, eq-eqb}
pub use Rattle.std.proofs.lemmas.Bool.{false_from_ne_true, le-leb, leb-true, lt-ltb, ltb-true, not-false, not-true}
pub use Rattle.std.specs.Option.{option_map}
pub use Rattle.std.specs.Prelude.{◌&&◌, ◌==◌, IsSomeAnd, nat_le, nat_lt, not, ◌||◌}
pub use Rattle.vm_base.proofs.EntryLaws.{first_key, none_is, some_is, some_same, with_key-cases, with_key-here, with_key-other}
pub use Rattle.vm_base.proofs.EntryLaws.{with_key-same, without_key-other, without_key-same}
pub use Rattle.vm_base.proofs.SearchLaws.{bit-false, bit-true, count_below_change, eqb_apart, eqb_same, first-below, first-past}
pub use Rattle.vm_base.specs.Entries.{with_key, without_key}
pub use Rattle.vm_base.specs.Search.{HasNone}
pub use Rattle.vm_base.specs.declared.names.Koid.{Koid}
pub use Rattle.vm_base.specs.declared.names.Tag.{Tag}
pub use Rattle.balanced_tree.specs.Pairs.{IsNext}
unfoldable pub use Rattle.balanced_tree.specs.Pairs.{with_pair}
pub use Rattle.balanced_tree.specs.Rows.{Rows}
pub use Rattle.page_list.specs.Lists.{has_row, row_count, slots_of}
pub use Rattle.page_list.specs.declared.row.Row.{Row}
pub use Rattle.page_list.specs.declared.row.Slot.{Slot}
pub use Rattle.frame_pool.specs.Pool.{is_taken, links_of, Pool, taken_frames, Takes}
pub use Rattle.cow_arena.specs.Changes.{below_hidden, hidden_over, root_node, snapshot_node}
unfoldable pub use Rattle.cow_arena.specs.Changes.{paired}
pub use Rattle.cow_arena.specs.Counts.{hidden_count, visible_count}
pub use Rattle.cow_arena.specs.Forest.{IsForest}
pub use Rattle.cow_arena.specs.Nodes.{Arena, IsVisible, Nodes, nodes_of}
pub use Rattle.cow_arena.specs.Walk.{Found, frame_found, frame_in, frame_shown, Slots, Tree, walk}
pub use Rattle.cow_arena.specs.Ways.{Arrives, IsPartOf, KeepsBare, Reaches, SameFrames}
pub use Rattle.cow_arena.specs.declared.node.Node.{Node}
pub use Rattle.cow_arena.specs.declared.node.Side.{Side}
pub use Rattle.cow_split.specs.Cutting.{cut_slots, frame_left, HasCut}
pub use Rattle.cow_split.specs.Exact.{all_in_sight, AreSplitBits, IsExact, leaving_out}
unfoldable pub use Rattle.cow_split.specs.Exact.{with_frame, without_frame}
pub use Rattle.cow_split.specs.Sight.{IsLastViewer, IsNotPage, IsPage, IsSeenFrom, Sees, ShowsSame, StaysVisible}
pub use Rattle.cow_split.specs.Trees.{frame_held, holder_of, tree_of, with_row}
pub use Rattle.cow_split.specs.declared.answers.Cut.{Cut}
pub use Rattle.cow_split.specs.declared.answers.Holder.{Holder}
pub use Rattle.cow_fork.specs.Frames.{bytes_shown, GivesSole, HasFree, HasSole, IsSole, LeavesFrame}
pub use Rattle.cow_fork.specs.Snapshots.{ArePlain, hidden_row, is_taken_in, split_row}
unfoldable pub use Rattle.cow_fork.specs.Snapshots.{hidden_slots, split_slots}
pub use Rattle.cow_fork.specs.Sweeping.{AreNeededIn, HasSwept, IsSwept}
pub use Rattle.cow_fork.specs.Zeroing.{HasZeroed, IsNeeded}
unfoldable pub use Rattle.cow_fork.specs.Zeroing.{shown_from}
