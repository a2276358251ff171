use Rattle.std.proofs.Common.{sym, arith}
use Rattle.std.proofs.lemmas.List.{length-reverse}
use Rattle.frame_pool.proofs.PoolLaws.{as_many_shown, few_frames, free_frames}
use Rattle.frame_pool.proofs.frame_pool.FramePool.free.Goals as goal

pub overflow_cast-result : goal.overflow_cast-result
overflow_cast-result c =
    omega (arith, c.len.ensures, few_frames c.self.inside c.self.invariant, c.self.invariant.pool.bound)

pub overflow_sub-result : goal.overflow_sub-result
overflow_sub-result c = omega (arith, c.len.ensures, few_frames c.self.inside c.self.invariant)

pub returns : goal.returns
returns c =
    let idle = sym (length-reverse c.self.inside.idle.items) in
    rw (c.len.ensures, c.len-2.ensures, ← as_many_shown c.self.inside c.self.invariant, c.self.inside.idle.ok.0, idle, ← c.self.view_is)
    (free_frames _ c.self.invariant.pool)
