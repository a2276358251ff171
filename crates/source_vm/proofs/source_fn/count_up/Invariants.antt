use Rattle.std.proofs.Common.{◌≡◌, ◌+◌, ◌%◌, map, take}
use Rattle.std.specs.List.{range_with_len}
use Rattle.source_vm.proofs.source_fn.count_up.Given as goal

abbrev pub invariant-loop-i : goal.invariant-loop-i
invariant-loop-i l = take l.i l.out ≡ map (λ i. (l.first + i) % 256) (range_with_len 0 l.i)
