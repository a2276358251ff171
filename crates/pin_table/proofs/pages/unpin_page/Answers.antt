use Rattle.std.proofs.Common.{sym, arith}
use Rattle.pin_table.proofs.PageLaws.{kept-put, adds-one-back}
use Rattle.pin_table.proofs.pages.unpin_page.Goals as goal

pub returns-in-Some-clause-kept : goal.returns-in-Some-clause-kept
returns-in-Some-clause-kept c = kept-put _ _ c.args.koid.0 c.args.page _ c.replace.ensures.values (omega arith) c.requires.kept

pub returns-in-Some-clause-pin : goal.returns-in-Some-clause-pin
returns-in-Some-clause-pin c =
    adds-one-back _ _ c.args.koid.0 c.args.page _ c.replace.ensures.values _ c.in-Some.ensures (omega arith)

pub returns-in-Some-2-clause-kept : goal.returns-in-Some-2-clause-kept
returns-in-Some-2-clause-kept c = kept-put _ _ c.args.koid.0 c.args.page _ c.remove.ensures.values tt c.requires.kept

pub returns-in-Some-2-clause-pin : goal.returns-in-Some-2-clause-pin
returns-in-Some-2-clause-pin c =
    let some = c.requires.kept.pinned c.args.koid.0 c.args.page c.in-Some.pins (sym c.in-Some.ensures) in
    adds-one-back _ _ c.args.koid.0 c.args.page _ c.remove.ensures.values _ c.in-Some.ensures (omega arith)
