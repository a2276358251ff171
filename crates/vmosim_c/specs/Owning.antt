-- What a handle owns.
use Rattle.std.specs.Prelude.{Option, None, Some}
use base.Fml.{Fml, ftrue}
use denote.RattleType.{RattleType}
use denote.RawPtr.{Ptr}
use Rattle.std.specs.Box.Ownership.{box_owns}
use Rattle.std.specs.Global.{Global}
use Rattle.std.specs.contracts.impls.GlobalAllocator.TheImpl.{ghosts}

-- the allocator of the C library. There is one alone.
abbrev pub heap : Global
heap = record { memory = record { seal = tt } }

-- with a value, what a box of it owns: the value at its address, and the right to free its block. Without one, nothing.
abbrev pub handle_owns : (R : RattleType) → Ptr → Option R.Denot → Fml
handle_owns R p (Some x) = box_owns (ghosts.dealloc_token heap) R p x
handle_owns R p None = ftrue
