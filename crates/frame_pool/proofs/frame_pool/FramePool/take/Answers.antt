use Rattle.std.proofs.Common.{refl, arith}
use Rattle.vm_base.specs.Pages.{zeros}
use Rattle.frame_pool.proofs.ShownLaws.{frames_shown-marked}
use Rattle.frame_pool.proofs.PoolLaws.{as_many_marks, as_many_shown, idle_below, popped, not_popped}
use Rattle.frame_pool.proofs.frame_pool.FramePool.take.Goals as goal

pub index_mut-requires : goal.index_mut-requires
index_mut-requires c = omega (
  arith,
  idle_below _ _ _ _ c.self.invariant.pool c.in-Some.ensures.items refl,
  as_many_shown c.self.inside c.self.invariant,
  c.self.invariant.marked,
)

pub invariant_of-self : goal.invariant_of-self
invariant_of-self c = record {
  pool = rw (not_popped _ _ c.in_default.ensures.items) c.self.invariant.pool;
  marked = c.self.invariant.marked;
  buffer_room = c.self.invariant.buffer_room;
  blank_room = c.self.invariant.blank_room;
  idle_room = omega (arith, c.self.invariant.idle_room, c.pop.ensures.capacity);
  linked = c.self.invariant.linked;
}

pub invariant_of-self-2 : goal.invariant_of-self-2
invariant_of-self-2 c = record {
  pool = rw (frames_shown-marked _ _ c.in-Some.idle.0 (as_many_marks c.self.inside c.self.invariant))
      (popped _ _ _ _ c.self.invariant.pool c.in-Some.ensures.items refl zeros).pool;
  marked = c.self.invariant.marked;
  buffer_room = c.self.invariant.buffer_room;
  blank_room = c.self.invariant.blank_room;
  idle_room = omega (arith, c.self.invariant.idle_room, c.pop.ensures.capacity);
  linked = c.self.invariant.linked;
}

pub returns-clause-some : goal.returns-clause-some
returns-clause-some c = rw (
  frames_shown-marked _ _ c.in-Some.idle.0 (as_many_marks c.self.inside c.self.invariant),
  ← c.self.view_is,
) (popped _ _ _ _ c.self.invariant.pool c.in-Some.ensures.items refl zeros).takes
