use Rattle.frame_pool.proofs.PoolLaws.{taken_below}
use Rattle.frame_pool.proofs.frame_pool.FramePool.frames.Goals as goal

pub returns-clause-below : goal.returns-clause-below
returns-clause-below c = rw (← c.self.view_is) (λ t taken. taken_below _ t c.self.invariant.pool taken)
