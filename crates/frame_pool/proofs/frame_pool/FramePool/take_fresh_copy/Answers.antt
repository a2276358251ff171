use Rattle.std.proofs.Common.{◌≡◌, [], ◌∷◌, ◌++◌, refl, arith}
use Rattle.vm_base.specs.Pages.{zeros}
use Rattle.frame_pool.specs.Pool.{frame_bytes}
use Rattle.frame_pool.specs.inside.PoolFields.{pool_of}
use Rattle.frame_pool.proofs.ShownLaws.{frames_shown-pushed}
use Rattle.frame_pool.proofs.PoolLaws.{HasTaken, as_many_marks, as_many_shown, few_frames, in_marks, in_range, reads_blank, reads_plain, pushed, all_taken}
use Rattle.frame_pool.proofs.frame_pool.FramePool.take_fresh_copy.Goals as goal

pub index-requires : goal.index-requires
index-requires c = in_marks c.self.inside c.args.from.0 c.self.invariant (rw (← c.self.view_is) at c.requires.taken)

pub returns-then-index-clause-some : goal.returns-then-index-clause-some
returns-then-index-clause-some c =
    let blank : frame_bytes c.args.self.now c.args.from.0 ≡ zeros = rw (← c.self.view_is)
    (reads_blank c.self.inside c.args.from.0 c.self.invariant (rw (← c.self.view_is) at c.requires.taken)
    c.index.result.now c.index.ensures c.if-index.true) in
    rw blank c.take_fresh.ensures.some

pub overflow_cast-next : goal.overflow_cast-next
overflow_cast-next c = omega (arith, c.len-next.ensures, few_frames c.self.inside c.self.invariant, c.self.invariant.pool.bound)

pub returns-then-next-self-clause-none : goal.returns-then-next-self-clause-none
returns-then-next-self-clause-none c = rw (← c.self.view_is) (
  all_taken (pool_of c.self.inside) c.self.invariant.pool (rw (← c.self.view_is) at c.requires.idle)
      (omega (arith, as_many_shown c.self.inside c.self.invariant, c.len-next.ensures, c.if-next-self.true)),
  refl,
)

pub index-bytes-requires : goal.index-bytes-requires
index-bytes-requires c = in_range c.self.inside c.args.from.0 c.self.invariant (rw (← c.self.view_is) at c.requires.taken)

pub push_reserved-requires : goal.push_reserved-requires
push_reserved-requires c = omega (
  arith,
  few_frames c.self.inside c.self.invariant,
  c.len-next.ensures,
  c.if-next-self.false,
  c.self.invariant.buffer_room,
)

pub push_reserved-requires-2 : goal.push_reserved-requires-2
push_reserved-requires-2 c = omega (
  arith,
  few_frames c.self.inside c.self.invariant,
  c.len-next.ensures,
  c.if-next-self.false,
  c.self.invariant.marked,
  c.self.invariant.blank_room,
)

-- the next frame of the buffer is taken
fresh : (c : goal.After-push_reserved-2) → HasTaken (pool_of c.self.inside) (record (pool_of c.self.inside) {
  buffer = (pool_of c.self.inside).buffer ++ c.index-bytes.result.now ∷ [];
}) c.len-next.result c.index-bytes.result.now
fresh c = pushed _ _ _ c.self.invariant.pool (omega (arith, c.len-next.ensures, as_many_shown c.self.inside c.self.invariant))
    c.if-next-self.false

pub invariant_of-self : goal.invariant_of-self
invariant_of-self c = record {
  pool = rw (
    c.push_reserved.ensures.items,
    c.push_reserved-2.ensures.items,
    frames_shown-pushed _ _ c.index-bytes.result.now (as_many_marks c.self.inside c.self.invariant),
  ) (fresh c).pool;
  marked = omega (arith, c.push_reserved.ensures.len, c.push_reserved-2.ensures.len, c.self.invariant.marked);
  buffer_room = omega (arith, c.self.invariant.buffer_room, c.push_reserved.ensures.capacity);
  blank_room = omega (arith, c.self.invariant.blank_room, c.push_reserved-2.ensures.capacity);
  idle_room = c.self.invariant.idle_room;
  linked = c.self.invariant.linked;
}

pub returns-clause-some : goal.returns-clause-some
returns-clause-some c = rw (
  c.push_reserved.ensures.items,
  c.push_reserved-2.ensures.items,
  frames_shown-pushed _ _ c.index-bytes.result.now (as_many_marks c.self.inside c.self.invariant),
  ← c.self.view_is,
  reads_plain c.self.inside c.args.from.0 c.self.invariant (rw (← c.self.view_is) at c.requires.taken)
      c.index-bytes.result.now c.index.result.now c.index.ensures c.if-index.false c.index-bytes.ensures,
) (fresh c).takes
