use Rattle.std.proofs.Common.{arith}
use Rattle.std.proofs.lemmas.List.{length-reverse}
use Rattle.frame_pool.proofs.PoolLaws.{reverse_push, idle_room, IsPool-returned, taken_frames-returned}
use Rattle.frame_pool.proofs.frame_pool.FramePool.give_back.Goals as goal

pub push_reserved-requires : goal.push_reserved-requires
push_reserved-requires c =
    let room = idle_room _ c.args.tag c.self.invariant.pool (rw (← c.self.view_is) at c.requires) in
    omega (arith, c.self.inside.idle.ok.0, c.self.invariant.idle_room, room, length-reverse c.self.inside.idle.items)

pub invariant_of-self : goal.invariant_of-self
invariant_of-self c = record {
  pool = rw (reverse_push _ _ _ c.push_reserved.ensures.items)
      (IsPool-returned _ c.args.tag c.self.invariant.pool (rw (← c.self.view_is) at c.requires));
  marked = c.self.invariant.marked;
  buffer_room = c.self.invariant.buffer_room;
  blank_room = c.self.invariant.blank_room;
  idle_room = omega (arith, c.self.invariant.idle_room, c.push_reserved.ensures.capacity);
  linked = c.self.invariant.linked;
}

pub returns-clause-taken : goal.returns-clause-taken
returns-clause-taken c = rw (reverse_push _ _ _ c.push_reserved.ensures.items, ← c.self.view_is)
    (taken_frames-returned _ c.args.tag c.self.invariant.pool (rw (← c.self.view_is) at c.requires))
