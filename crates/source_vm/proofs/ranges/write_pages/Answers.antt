use Rattle.std.proofs.Common.{length}
use Rattle.source_vm.proofs.WriteLaws.{LacksFrames-range}
use Rattle.source_vm.proofs.ranges.write_pages.Goals as goal

pub returns-in-Err-clause-err : goal.returns-in-Err-clause-err
returns-in-Err-clause-err g c =
    LacksFrames-range (g.P.PageStore.content c.args.store.now) c.args.v.0 c.args.offset (length c.args.bytes.now) c.in-Err.refusal c.in-Err.ensures.err
