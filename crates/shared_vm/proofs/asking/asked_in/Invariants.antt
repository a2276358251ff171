use Rattle.std.proofs.Common.{◌≡◌, take}
use Rattle.std.specs.List.{sum_by}
use Rattle.shared_vm.specs.inside.Asking.{bytes_asked, numbers_asked}
use Rattle.shared_vm.proofs.asking.asked_in.Given as goal

abbrev pub invariant-loop-index : goal.invariant-loop-index
invariant-loop-index l = record {
  bytes : l.bytes ≡ sum_by bytes_asked (take l.index l.tasks);
  numbers : l.numbers ≡ sum_by numbers_asked (take l.index l.tasks);
}
