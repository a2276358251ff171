use Rattle.std.proofs.Common.{ap, arith}
use Rattle.shared_vm.specs.inside.Asking.{all_asked, bytes_asked, numbers_asked}
use Rattle.shared_vm.proofs.AskingLaws.{bytes_all, numbers_all}
use Rattle.shared_vm.proofs.scripts.Scripts.asked.Goals as goal

pub overflow_add-result : goal.overflow_add-result
overflow_add-result c =
    omega (arith, bytes_all c.args.self.now, ap (all_asked bytes_asked) c.self.view_is, c.requires.few, c.asked_in-a0.ensures.bytes, c.asked_in-a1.ensures.bytes)

pub overflow_add-result-2 : goal.overflow_add-result-2
overflow_add-result-2 c =
    omega (arith, bytes_all c.args.self.now, ap (all_asked bytes_asked) c.self.view_is, c.requires.few, c.asked_in-a0.ensures.bytes, c.asked_in-a1.ensures.bytes, c.asked_in-a2.ensures.bytes)

pub overflow_add-result-3 : goal.overflow_add-result-3
overflow_add-result-3 c =
    omega (arith, bytes_all c.args.self.now, ap (all_asked bytes_asked) c.self.view_is, c.requires.few, c.asked_in-a0.ensures.bytes, c.asked_in-a1.ensures.bytes, c.asked_in-a2.ensures.bytes, c.asked_in-a3.ensures.bytes)

pub overflow_add-result-4 : goal.overflow_add-result-4
overflow_add-result-4 c =
    omega (arith, numbers_all c.args.self.now, ap (all_asked numbers_asked) c.self.view_is, c.requires.few, c.asked_in-a0.ensures.numbers, c.asked_in-a1.ensures.numbers)

pub overflow_add-result-5 : goal.overflow_add-result-5
overflow_add-result-5 c =
    omega (arith, numbers_all c.args.self.now, ap (all_asked numbers_asked) c.self.view_is, c.requires.few, c.asked_in-a0.ensures.numbers, c.asked_in-a1.ensures.numbers, c.asked_in-a2.ensures.numbers)

pub overflow_add-result-6 : goal.overflow_add-result-6
overflow_add-result-6 c =
    omega (arith, numbers_all c.args.self.now, ap (all_asked numbers_asked) c.self.view_is, c.requires.few, c.asked_in-a0.ensures.numbers, c.asked_in-a1.ensures.numbers, c.asked_in-a2.ensures.numbers, c.asked_in-a3.ensures.numbers)
