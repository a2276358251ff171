use Rattle.std.proofs.lemmas.Bool.{leb-true}
use Rattle.std.proofs.Common.{◌*◌, arith}
use Rattle.vm_model.proofs.ContentLaws.{pages_of-at}
use Rattle.source_vm.proofs.StepLaws.{range_fits, range_past}
use Rattle.source_vm.proofs.accesses.is_in_range.Goals as goal

pub returns-then-len-bytes : goal.returns-then-len-bytes
returns-then-len-bytes g c =
    range_fits c.args.offset c.args.len c.count-bytes.result _ c.if-len-bytes.true
    (pages_of-at (g.P.PageStore.content c.args.store.now) c.args.v.0 c.count-bytes.result c.count-bytes.ensures)

pub returns-else-len-bytes : goal.returns-else-len-bytes
returns-else-len-bytes g c =
    range_past c.args.offset c.args.len c.count-bytes.result _ _
    (λ h. omega (arith, h, c.if-len-bytes.false)) (λ t. leb-true c.args.len (c.count-bytes.result * 4096) t)
    (pages_of-at (g.P.PageStore.content c.args.store.now) c.args.v.0 c.count-bytes.result c.count-bytes.ensures)
