use Rattle.std.proofs.Common.{sym, ◌∙◌}
use Rattle.mapping_set.proofs.BorderLaws.{IsBorder-past, IsBorder-before, cut-border, cut-kept}
use Rattle.mapping_set.proofs.RestLaws.{rest-whole, rest-cut}
use Rattle.mapping_set.proofs.ChangeLaws.{perms-none}
use Rattle.mapping_set.proofs.mapping_set.MappingSet.cut.Goals as goal

pub returns-in_default-clause-border : goal.returns-in_default-clause-border
returns-in_default-clause-border c = IsBorder-past _ c.args.root.0 c.args.page c.in_default.ensures

pub returns-then-page-piece-clause-border : goal.returns-then-page-piece-clause-border
returns-then-page-piece-clause-border c = IsBorder-before _ c.args.root.0 c.args.page c.in-Some.last c.in-Some.piece c.in-Some.ensures c.if-page-piece.true

pub returns-in_default-clause-rest : goal.returns-in_default-clause-rest
returns-in_default-clause-rest c last x next =
    rest-whole _ c.args.root.0 c.args.page last x next (IsBorder-past _ c.args.root.0 c.args.page c.in_default.ensures)

pub returns-then-page-piece-clause-rest : goal.returns-then-page-piece-clause-rest
returns-then-page-piece-clause-rest c last x next =
    rest-whole _ c.args.root.0 c.args.page last x next
    (IsBorder-before _ c.args.root.0 c.args.page c.in-Some.last c.in-Some.piece c.in-Some.ensures c.if-page-piece.true)

pub returns-clause-table : goal.returns-clause-table
returns-clause-table c = c.split.ensures.table ∙ sym (perms-none _ c.args.root.0 c.args.page _)

pub returns-clause-border : goal.returns-clause-border
returns-clause-border c =
    cut-border _ _ c.args.root.0 c.in-Some.last c.args.page c.in-Some.piece c.in-Some.ensures c.if-page-piece.false c.split.ensures.pieces

pub returns-clause-kept : goal.returns-clause-kept
returns-clause-kept c =
    cut-kept _ _ c.args.root.0 c.in-Some.last c.args.page c.in-Some.piece c.in-Some.ensures c.if-page-piece.false c.split.ensures.pieces

pub returns-clause-rest : goal.returns-clause-rest
returns-clause-rest c =
    rest-cut _ c.args.root.0 c.args.page c.in-Some.last c.in-Some.piece c.in-Some.ensures _ c.if-page-piece.false c.split.ensures.pieces
