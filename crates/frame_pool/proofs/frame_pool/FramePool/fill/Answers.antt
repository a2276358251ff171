use Rattle.std.proofs.Common.{◌∙◌, arith}
use Rattle.std.proofs.lemmas.Bool.{cond-true}
use Rattle.frame_pool.specs.inside.PoolFields.{pool_of}
use Rattle.frame_pool.proofs.PoolLaws.{all_free, IsPool-filled}
use Rattle.frame_pool.proofs.frame_pool.FramePool.fill.Goals as goal

pub invariant_of-self-2 : goal.invariant_of-self-2
invariant_of-self-2 c =
    let had = c.self.invariant in
    let none = rw (← c.self.view_is) at c.requires.empty in
    record {
      pool = rw (c.reserve_exact.ensures.items, c.reserve_exact-2.ensures.items, c.reserve_exact-4.ensures.items)
          (IsPool-filled (pool_of c.self.inside) _ _ had.pool none c.requires.frames.1);
      marked = omega (arith, had.marked, c.reserve_exact.ensures.len, c.reserve_exact-2.ensures.len);
      buffer_room = omega (arith, c.in-Ok.ensures.ok);
      blank_room = omega (arith, c.in-Ok-reserve_exact.ensures.ok);
      idle_room = omega (arith, c.in-Ok-reserve_exact-3.ensures.ok);
      linked = c.resize.ensures.len ∙ cond-true _ _ _ (c.resize.ensures.succeeds
          (omega (arith, had.linked, none, c.reserve_exact-3.ensures.len, c.in-Ok-reserve_exact-2.ensures.ok)));
    }

pub returns-clause-taken : goal.returns-clause-taken
returns-clause-taken c = rw (c.reserve_exact.ensures.items, c.reserve_exact-2.ensures.items, c.reserve_exact-4.ensures.items)
    (all_free (pool_of c.self.inside) _ _ c.self.invariant.pool (rw (← c.self.view_is) at c.requires.empty))
