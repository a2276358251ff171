use Rattle.std.proofs.Common.{arith}
use Rattle.pin_table.proofs.PageLaws.{kept-put, adds-one}
use Rattle.pin_table.proofs.pages.pin_page.Goals as goal

pub returns-in-Some-clause-kept : goal.returns-in-Some-clause-kept
returns-in-Some-clause-kept c = kept-put _ _ c.args.koid.0 c.args.page _ c.replace.ensures.values (omega arith) c.requires.kept

pub returns-in-Some-clause-pin : goal.returns-in-Some-clause-pin
returns-in-Some-clause-pin c =
    adds-one _ _ c.args.koid.0 c.args.page _ c.replace.ensures.values _ c.in-Some.ensures (omega arith)

pub returns-in-None-clause-kept : goal.returns-in-None-clause-kept
returns-in-None-clause-kept c = kept-put _ _ c.args.koid.0 c.args.page _ c.insert.ensures.values (omega arith) c.requires.kept

pub returns-in-None-clause-pin : goal.returns-in-None-clause-pin
returns-in-None-clause-pin c =
    adds-one _ _ c.args.koid.0 c.args.page _ c.insert.ensures.values _ c.in-None.ensures (omega arith)
