-- What the proofs of this crate cite of the libraries below and of the definitions of the tree.
pub use Rattle.std.proofs.Common.{◌%◌, ◌*◌, ◌+◌, ◌-◌, ◌/◌, ◌<◌, ◌^◌, ap, arith, inl, inr, IsSome, IsSomeAnd, None, Option, refl, Some}
pub use Rattle.std.proofs.Common.{subst, sym, w64, ℕ, ◌∙◌, ◌≡◌, ◌≢◌, ◌≤◌}
pub use Rattle.std.proofs.Math.Nat.{div-add-mod, mod-lt}
pub use Rattle.std.proofs.lemmas.Bool.{cases_eq, cases_lt}
pub use Rattle.std.proofs.lemmas.Nat.Bits.{bit_at_cat_high, bit_at_cat_low, bit_at_or}
pub use Rattle.std.specs.Int.{bit_at, rotate_right}
pub use Rattle.std.specs.Prelude.{[], ◌++◌, bit_or, IfSome, is_some, List, slice_index_or, suc, zero, ◌∷◌}
pub use Rattle.std.specs.Vec.{vec_len}
pub use Rattle.cow_arena.specs.Forest.{IsForest}
pub use Rattle.cow_arena.specs.Nodes.{IsVisible, Nodes, nodes_of, side_of}
pub use Rattle.cow_arena.specs.Walk.{Slots, Tree, walk}
pub use Rattle.cow_arena.specs.Ways.{Arrives, IsPartOf, KeepsBare, Reaches, Rises}
pub use Rattle.cow_arena.specs.declared.node.Node.{Node}
pub use Rattle.cow_split.specs.Cost.{depth, IsMostOfLookUp}
pub use Rattle.cow_split.specs.Trees.{holder_of, tree_of}
pub use Rattle.cow_jump.specs.Jumps.{AreJumps, ArePairRetired, IsCurrentJump, IsJump, jump_in, MayJump, serial_in}
pub use Rattle.cow_jump.specs.declared.jumps.Jump.{Jump}
pub use Rattle.cow_jump.specs.declared.jumps.JumpTable.{JumpTable}
pub use Rattle.cow_jump.specs.inside.Table.{IsGiven, IsNewJump, IsServedByJump}
