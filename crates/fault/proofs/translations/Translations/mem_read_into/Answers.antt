use Rattle.std.proofs.Common.{arith}
use Rattle.std.proofs.lemmas.List.{length-take-le}
use Rattle.fault.proofs.translations.Translations.mem_read_into.Goals as goal

pub returns-in-Err-clause-outcome : goal.returns-in-Err-clause-outcome
returns-in-Err-clause-outcome g c =
    rw (length-take-le c.args.len c.args.room.now (omega (arith, c.requires.len, c.requires.room))) at c.in-Err.ensures.outcome
