use Rattle.std.proofs.Common.{arith}
use Rattle.mapping_set.proofs.PartLaws.{LosesPages, last-page, pages-end, in-taken, keep-tail}
use Rattle.mapping_set.proofs.mapping_set.MappingSet.keep_tail.Goals as goal

pub from-requires-clause-page : goal.from-requires-clause-page
from-requires-clause-page c =
    let page = c.requires.page in
    let ends = last-page _ c.self.invariant _ c.self.view_is c.args.root.0 c.args.last c.args.piece c.requires.piece _ c.list_number-list.ensures.number c.len-apart.ensures.apart in
    (omega (arith, page.0), omega (arith, page.1))

pub from-requires-clause-pages : goal.from-requires-clause-pages
from-requires-clause-pages c = pages-end _ c.self.invariant _ c.self.view_is c.args.root.0 c.args.last c.args.piece c.requires.piece _ c.list_number-list.ensures.number c.len-apart.ensures.apart

pub advance-requires-clause-extent : goal.advance-requires-clause-extent
advance-requires-clause-extent c = in-taken _ c.self.invariant _ c.self.view_is c.args.root.0 c.args.last c.args.piece c.requires.piece _ c.list_number-list.ensures.number c.len-apart.ensures.apart

made : (c : goal.After-advance) → LosesPages c.args.self.now (record { pieces = c.replace.new.self; taken = c.advance.new.self }) c.args.root.0 c.args.piece.first c.args.page
made c =
    let page = c.requires.page in
    keep-tail _ c.self.invariant _ c.self.view_is c.args.root.0 c.args.last c.args.piece c.requires.piece _ c.list_number-list.ensures.number c.len-apart.ensures.apart
    c.args.page page.0 page.1 c.from.result c.from.ensures _ c.replace.ensures.values c.advance.ensures.extents

pub invariant_of-self : goal.invariant_of-self
invariant_of-self c = (made c).are

pub returns-clause-table : goal.returns-clause-table
returns-clause-table c = (made c).table

pub returns-clause-places : goal.returns-clause-places
returns-clause-places c = (made c).places
