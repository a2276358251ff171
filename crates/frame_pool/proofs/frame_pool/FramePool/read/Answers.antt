use Rattle.std.proofs.Common.{◌≡◌, ◌+◌, ◌-◌, ℕ, take, drop, length, sym, ap, ◌∙◌, arith}
use Rattle.vm_base.specs.Pages.{zeros}
use Rattle.frame_pool.specs.Pool.{frame_bytes}
use Rattle.frame_pool.proofs.ShownLaws.{part_of_zeros}
use Rattle.frame_pool.proofs.PoolLaws.{in_range, in_marks, reads_blank, reads_plain}
use Rattle.frame_pool.proofs.frame_pool.FramePool.read.Goals as goal

pub index-requires : goal.index-requires
index-requires c = in_marks c.self.inside c.args.tag.0 c.self.invariant (rw (← c.self.view_is) at c.requires.taken)

pub returns-then-index : goal.returns-then-index
returns-then-index c =
    let blank : frame_bytes c.args.self.now c.args.tag.0 ≡ zeros = rw (← c.self.view_is)
    (reads_blank c.self.inside c.args.tag.0 c.self.invariant (rw (← c.self.view_is) at c.requires.taken)
    c.index.result.now c.index.ensures c.if-index.true) in
    rw blank (c.clear_all.ensures ∙ sym (part_of_zeros c.args.at (length c.args.out.now) c.requires.range))

pub index-requires-2 : goal.index-requires-2
index-requires-2 c = in_range c.self.inside c.args.tag.0 c.self.invariant (rw (← c.self.view_is) at c.requires.taken)

pub returns : goal.returns
returns c =
    let n : c.args.at + length c.args.out.now - c.args.at ≡ length c.args.out.now = omega arith in
    rw (
      ← c.self.view_is,
      reads_plain c.self.inside c.args.tag.0 c.self.invariant (rw (← c.self.view_is) at c.requires.taken)
          c.index-2.result.now c.index.result.now c.index.ensures c.if-index.false c.index-2.ensures,
    )
    (c.copy_from_slice.ensures.after ∙ ap (λ (k : ℕ). take k (drop c.args.at c.index-2.result.now)) n)
