use Rattle.cow_forest.proofs.Words.{arith, forest_of}
use Rattle.cow_forest.proofs.ContentLaws.{used-taken}
use Rattle.cow_forest.proofs.FrameRowLaws.{frame-rows-taken}
use Rattle.cow_forest.proofs.forest.CowForest.frame_rows.Goals as goal

pub returns : goal.returns
returns c =
    let f = forest_of c.self.inside in
    let s = c.self.invariant.store in
    let used = used-taken f s in
    let rows = frame-rows-taken f s.exact c.rows-rising.ensures.rising (λ t taken. let less = c.frames.ensures.below t taken in omega (arith, less, c.frames.ensures.value)) in
    rw (← c.self.view_is) (record {
      used = omega (arith, used, c.free.ensures, c.frames.ensures.value);
      rows = omega (arith, rows, c.free.ensures, c.frames.ensures.value);
      exact = s.exact;
    })
