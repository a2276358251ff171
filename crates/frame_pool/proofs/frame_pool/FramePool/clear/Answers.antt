use Rattle.frame_pool.proofs.PoolLaws.{in_marks, ArePool-marked, taken_frames-marked}
use Rattle.frame_pool.proofs.frame_pool.FramePool.clear.Goals as goal

pub index_mut-requires : goal.index_mut-requires
index_mut-requires c = in_marks c.self.inside c.args.tag.0 c.self.invariant (rw (← c.self.view_is) at c.requires)

pub invariant_of-self : goal.invariant_of-self
invariant_of-self c = ArePool-marked c.self.inside c.args.tag.0 c.self.invariant (rw (← c.self.view_is) at c.requires)

pub returns-clause-taken : goal.returns-clause-taken
returns-clause-taken c = rw (← c.self.view_is)
    (taken_frames-marked c.self.inside c.args.tag.0 c.self.invariant (rw (← c.self.view_is) at c.requires))
