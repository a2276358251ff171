use Rattle.std.proofs.Common.{◌-◌, Some, ap, ◌∙◌, arith}
use Rattle.balanced_tree.specs.Pairs.{with_pair}
use Rattle.mapping_set.proofs.PartLaws.{LosesPages, last-page, pages-end, absent-within, in-taken, keep-ends}
use Rattle.mapping_set.proofs.mapping_set.MappingSet.split.Goals as goal

pub from-requires-clause-page : goal.from-requires-clause-page
from-requires-clause-page c =
    let order = c.requires.order in
    let ends = last-page _ c.self.invariant _ c.self.view_is c.args.root.0 c.args.last c.args.piece c.requires.piece _ c.list_number-list.ensures.number c.len-apart.ensures.apart in
    (omega (arith, order.0, order.1), omega (arith, order.2))

pub from-requires-clause-pages : goal.from-requires-clause-pages
from-requires-clause-pages c = pages-end _ c.self.invariant _ c.self.view_is c.args.root.0 c.args.last c.args.piece c.requires.piece _ c.list_number-list.ensures.number c.len-apart.ensures.apart

pub insert-requires-clause-absent : goal.insert-requires-clause-absent
insert-requires-clause-absent c =
    let order = c.requires.order in
    absent-within _ c.self.invariant _ c.self.view_is c.args.root.0 c.args.last c.args.piece c.requires.piece _ c.list_number-list.ensures.number c.len-apart.ensures.apart
    _ _ c.replace.ensures.values (c.args.page - 1) (omega (arith, order.0)) (omega (arith, order.0, order.1, order.2))

pub split-requires-clause-extent : goal.split-requires-clause-extent
split-requires-clause-extent c = in-taken _ c.self.invariant _ c.self.view_is c.args.root.0 c.args.last c.args.piece c.requires.piece _ c.list_number-list.ensures.number c.len-apart.ensures.apart

made : (c : goal.After-split) → LosesPages c.args.self.now (record { pieces = c.insert.new.self; taken = c.split.new.self }) c.args.root.0 c.args.page c.args.end
made c =
    let order = c.requires.order in
    keep-ends _ c.self.invariant _ c.self.view_is c.args.root.0 c.args.last c.args.piece c.requires.piece _ c.list_number-list.ensures.number c.len-apart.ensures.apart
    c.args.page c.args.end order.0 order.1 order.2 c.until.result c.from.result c.until.ensures c.from.ensures _ (c.insert.ensures.values ∙ ap (λ m. with_pair m c.args.root.0 (c.args.page - 1) (Some c.until.result)) c.replace.ensures.values)
    c.split.ensures.extents

pub invariant_of-self : goal.invariant_of-self
invariant_of-self c = (made c).are

pub returns-clause-table : goal.returns-clause-table
returns-clause-table c = (made c).table

pub returns-clause-places : goal.returns-clause-places
returns-clause-places c = (made c).places
