use Rattle.std.proofs.Common.{is_some, sym, ap}
use Rattle.vmo_table.specs.Vmos.{vmos_in}
use Rattle.vmo_table.proofs.EntryLaws.{vmos_in-put}
use Rattle.vmo_table.proofs.vmos.write_back.Goals as goal

pub returns-in-Some : goal.returns-in-Some
returns-in-Some c =
    vmos_in-put _ _ c.args.koid.0 c.args.vmo ((c.get_mut.follows.holds c.args.vmo).3 (ap is_some (sym c.in-Some.ensures.value))).0

pub returns-in_default : goal.returns-in_default
unfolding vmos_in
returns-in_default c = absurd (let there = c.requires.1 in let none = c.in_default.ensures.value in cc)
