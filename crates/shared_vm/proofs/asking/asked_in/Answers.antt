use Rattle.std.proofs.Common.{arith}
use Rattle.shared_vm.specs.inside.Asking.{bytes_asked, numbers_asked}
use Rattle.shared_vm.proofs.AskingLaws.{bytes_sum, numbers_sum, sum_more, sum_few}
use Rattle.shared_vm.proofs.asking.asked_in.Goals as goal

pub overflow_add-bytes : goal.overflow_add-bytes
overflow_add-bytes c =
    let few = sum_few bytes_asked c.args.tasks.now c.loop-index.index _ c.line.ensures in
    omega (arith, few, bytes_sum c.args.tasks.now, c.requires.few, c.loop-index.invariant.bytes, c.asked_by-asked.ensures.bytes)

pub overflow_add-numbers : goal.overflow_add-numbers
overflow_add-numbers c =
    let few = sum_few numbers_asked c.args.tasks.now c.loop-index.index _ c.line.ensures in
    omega (arith, few, numbers_sum c.args.tasks.now, c.requires.few, c.loop-index.invariant.numbers, c.asked_by-asked.ensures.numbers)

pub loop-index-preserved : goal.loop-index-preserved
loop-index-preserved c =
    let bytes = sum_more bytes_asked c.args.tasks.now c.loop-index.index _ c.line.ensures in
    let numbers = sum_more numbers_asked c.args.tasks.now c.loop-index.index _ c.line.ensures in
    record {
      bytes = omega (arith, bytes, c.loop-index.invariant.bytes, c.asked_by-asked.ensures.bytes);
      numbers = omega (arith, numbers, c.loop-index.invariant.numbers, c.asked_by-asked.ensures.numbers);
    }
