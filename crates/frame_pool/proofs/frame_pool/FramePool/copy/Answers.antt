use Rattle.std.proofs.Common.{◌≡◌}
use Rattle.vm_base.specs.Pages.{zeros}
use Rattle.frame_pool.specs.Pool.{frame_bytes}
use Rattle.frame_pool.proofs.PoolLaws.{in_range, in_marks, reads_blank, reads_plain, ArePool-unmarked, taken_frames-unmarked}
use Rattle.frame_pool.proofs.frame_pool.FramePool.copy.Goals as goal

pub index-requires : goal.index-requires
index-requires c = in_marks c.self.inside c.args.from.0 c.self.invariant (rw (← c.self.view_is) at c.requires.from)

pub returns-then-index-clause-taken : goal.returns-then-index-clause-taken
returns-then-index-clause-taken c =
    let blank : frame_bytes c.args.self.now c.args.from.0 ≡ zeros = rw (← c.self.view_is)
    (reads_blank c.self.inside c.args.from.0 c.self.invariant (rw (← c.self.view_is) at c.requires.from)
    c.index.result.now c.index.ensures c.if-index.true) in
    rw blank c.clear.ensures.taken

pub index-bytes-requires : goal.index-bytes-requires
index-bytes-requires c = in_range c.self.inside c.args.from.0 c.self.invariant (rw (← c.self.view_is) at c.requires.from)

pub index_mut-requires : goal.index_mut-requires
index_mut-requires c = in_range c.self.inside c.args.to.0 c.self.invariant (rw (← c.self.view_is) at c.requires.to)

pub index_mut-requires-2 : goal.index_mut-requires-2
index_mut-requires-2 c = in_marks c.self.inside c.args.to.0 c.self.invariant (rw (← c.self.view_is) at c.requires.to)

pub invariant_of-self : goal.invariant_of-self
invariant_of-self c = ArePool-unmarked c.self.inside c.args.to.0 c.self.invariant (rw (← c.self.view_is) at c.requires.to) _

pub returns-clause-taken : goal.returns-clause-taken
returns-clause-taken c =
    rw (
      ← c.self.view_is,
      reads_plain c.self.inside c.args.from.0 c.self.invariant (rw (← c.self.view_is) at c.requires.from)
          c.index-bytes.result.now c.index.result.now c.index.ensures c.if-index.false c.index-bytes.ensures,
    )
    (taken_frames-unmarked c.self.inside c.args.to.0 c.self.invariant (rw (← c.self.view_is) at c.requires.to) _)
