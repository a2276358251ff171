use Rattle.std.proofs.Common.{[], ap, arith}
use Rattle.std.proofs.KnownBytes.{Consumes-nil}
use Rattle.shared_vm.proofs.GatherLaws.{lists_or_status-gathers}
use Rattle.shared_vm.proofs.reading.read_input.Goals as goal

pub returns-in_default-clause-read : goal.returns-in_default-clause-read
returns-in_default-clause-read g c = record { script = []; given = Consumes-nil _; short = omega arith }

pub returns-clause-read : goal.returns-clause-read
returns-clause-read g c =
    let read = c.read_lines-read in
    rw c.told.ensures (lists_or_status-gathers read.result _ _ _ _ _ (ap (λ r. r.limit) c.in-Ok.ensures) c.new-scripts.ensures read.ensures.reads)
