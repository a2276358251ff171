use Rattle.frame_pool.proofs.PoolLaws.{in_range, in_marks, ArePool-unmarked, taken_frames-unmarked}
use Rattle.frame_pool.proofs.frame_pool.FramePool.write_blank.Goals as goal

pub index_mut-requires : goal.index_mut-requires
index_mut-requires c = in_range c.self.inside c.args.tag.0 c.self.invariant (rw (← c.self.view_is) at c.requires.taken)

pub index_mut-requires-2 : goal.index_mut-requires-2
index_mut-requires-2 c = in_marks c.self.inside c.args.tag.0 c.self.invariant (rw (← c.self.view_is) at c.requires.taken)

pub invariant_of-self : goal.invariant_of-self
invariant_of-self c = ArePool-unmarked c.self.inside c.args.tag.0 c.self.invariant (rw (← c.self.view_is) at c.requires.taken) _

pub returns-clause-taken : goal.returns-clause-taken
returns-clause-taken c = rw (c.overwrite_zeros.ensures, ← c.self.view_is)
    (taken_frames-unmarked c.self.inside c.args.tag.0 c.self.invariant (rw (← c.self.view_is) at c.requires.taken) _)
