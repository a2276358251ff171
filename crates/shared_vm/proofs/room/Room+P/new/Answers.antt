use Rattle.std.proofs.Common.{arith}
use Rattle.shared_vm.proofs.AskingLaws.{bytes_all, numbers_all}
use Rattle.shared_vm.proofs.room.Room+P.new.Goals as goal

pub with_journal-requires-clause-bytes : goal.with_journal-requires-clause-bytes
with_journal-requires-clause-bytes g c = omega (arith, bytes_all c.args.scripts, c.requires.few)

pub with_journal-requires-clause-numbers : goal.with_journal-requires-clause-numbers
with_journal-requires-clause-numbers g c = omega (arith, numbers_all c.args.scripts, c.requires.few)
