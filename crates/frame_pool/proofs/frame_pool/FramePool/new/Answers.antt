use Rattle.std.proofs.Common.{[], refl, arith}
use Rattle.frame_pool.proofs.ShownLaws.{none_shown}
use Rattle.frame_pool.proofs.PoolLaws.{all_free, IsPool-empty}
use Rattle.frame_pool.proofs.frame_pool.FramePool.new.Goals as goal

pub invariant_of-result : goal.invariant_of-result
invariant_of-result c = record {
  pool = rw (c.new.ensures.items, c.new-3.ensures.items, c.new-4.ensures.items, none_shown c.new-2.result.items) IsPool-empty;
  marked = omega arith;
  buffer_room = omega arith;
  blank_room = omega arith;
  idle_room = omega arith;
  linked = omega arith;
}

pub returns-clause-taken : goal.returns-clause-taken
returns-clause-taken c = rw (c.new.ensures.items, c.new-3.ensures.items, c.new-4.ensures.items, none_shown c.new-2.result.items)
    (all_free _ 0 [] IsPool-empty refl)
