use Rattle.std.proofs.Common.{◌≡◌}
use Rattle.vm_base.specs.Pages.{zeros}
use Rattle.frame_pool.specs.Pool.{frame_bytes}
use Rattle.frame_pool.proofs.PoolLaws.{in_range, in_marks, reads_blank, reads_plain, ArePool-plain, taken_frames-plain}
use Rattle.frame_pool.proofs.frame_pool.FramePool.write.Goals as goal

pub index-requires : goal.index-requires
index-requires c = in_marks c.self.inside c.args.tag.0 c.self.invariant (rw (← c.self.view_is) at c.requires.taken)

pub returns-then-index-clause-taken : goal.returns-then-index-clause-taken
returns-then-index-clause-taken c =
    let blank : frame_bytes c.args.self.now c.args.tag.0 ≡ zeros = rw (← c.self.view_is)
    (reads_blank c.self.inside c.args.tag.0 c.self.invariant (rw (← c.self.view_is) at c.requires.taken)
    c.index.result.now c.index.ensures c.if-index.true) in
    rw blank c.write_blank.ensures.taken

pub index_mut-requires : goal.index_mut-requires
index_mut-requires c = in_range c.self.inside c.args.tag.0 c.self.invariant (rw (← c.self.view_is) at c.requires.taken)

pub invariant_of-self : goal.invariant_of-self
invariant_of-self c = ArePool-plain c.self.inside c.args.tag.0 c.self.invariant (rw (← c.self.view_is) at c.requires.taken)
    _ c.index.result.now c.index.ensures c.if-index.false

pub returns-clause-taken : goal.returns-clause-taken
returns-clause-taken c =
    rw (
      c.overwrite.ensures,
      ← c.self.view_is,
      reads_plain c.self.inside c.args.tag.0 c.self.invariant (rw (← c.self.view_is) at c.requires.taken)
          c.index_mut.result.now c.index.result.now c.index.ensures c.if-index.false c.index_mut.ensures.value,
    )
    (taken_frames-plain c.self.inside c.args.tag.0 c.self.invariant (rw (← c.self.view_is) at c.requires.taken)
    _ c.index.result.now c.index.ensures c.if-index.false)
