use Rattle.std.proofs.Common.{◌+◌, refl, arith}
use Rattle.mapping_set.proofs.PartLaws.{LosesPages, none-between, in-taken, keep-head}
use Rattle.mapping_set.proofs.mapping_set.MappingSet.keep_head.Goals as goal

pub replace_at-requires-clause-between : goal.replace_at-requires-clause-between
replace_at-requires-clause-between c =
    let page = c.requires.page in
    λ b apart low high. none-between _ c.self.invariant _ c.self.view_is c.args.root.0 c.args.last c.args.piece c.requires.piece _ c.list_number-list.ensures.number c.len-apart.ensures.apart b (omega (arith, low, page.0, page.1)) (omega (arith, high, apart, page.0, page.1))

pub shorten-requires-clause-head : goal.shorten-requires-clause-head
shorten-requires-clause-head c =
    let page = c.requires.page in
    let e = in-taken _ c.self.invariant _ c.self.view_is c.args.root.0 c.args.last c.args.piece c.requires.piece _ c.list_number-list.ensures.number c.len-apart.ensures.apart in
    record { extent = e.extent; is = e.is; most = omega (arith, e.ends, page.1) }

made : (c : goal.After-shorten) → LosesPages c.args.self.now (record { pieces = c.replace_at.new.self; taken = c.shorten.new.self }) c.args.root.0 c.args.page (c.args.last + 1)
made c =
    let page = c.requires.page in
    keep-head _ c.self.invariant _ c.self.view_is c.args.root.0 c.args.last c.args.piece c.requires.piece _ c.list_number-list.ensures.number c.len-apart.ensures.apart
    c.args.page page.0 page.1 c.until.result c.until.ensures _ _ refl c.replace_at.ensures.values
    c.shorten.ensures.extents

pub invariant_of-self : goal.invariant_of-self
invariant_of-self c = (made c).are

pub returns-clause-table : goal.returns-clause-table
returns-clause-table c = (made c).table

pub returns-clause-places : goal.returns-clause-places
returns-clause-places c = (made c).places
