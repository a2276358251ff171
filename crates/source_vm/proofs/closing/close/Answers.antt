use Rattle.source_vm.specs.Table.{source_names_of, backings_of, loose_links_of}
use Rattle.source_vm.proofs.ClosingLaws.{IsUnnamed-from, close_step}
use Rattle.source_vm.proofs.closing.close.Goals as goal

pub leave_upwards-requires-clause-unnamed : goal.leave_upwards-requires-clause-unnamed
leave_upwards-requires-clause-unnamed g c =
    let t = c.args.table.now in
    let content = g.P.PageStore.content c.args.store.now in
    IsUnnamed-from content (source_names_of t) _ (backings_of t) _ (loose_links_of t) _ c.args.name c.in-Some.v.0 c.in-Some.ensures
    c.leave_name.ensures.names c.leave_name.ensures.backings c.leave_name.ensures.links c.requires.agrees.good

pub returns-clause-step : goal.returns-clause-step
returns-clause-step g c =
    let t = c.args.table.now in
    let content = g.P.PageStore.content c.args.store.now in
    close_step content (source_names_of t) _ (backings_of t) _ (loose_links_of t) _ c.args.name c.in-Some.v.0 c.in-Some.ensures
    c.leave_name.ensures.names c.leave_name.ensures.backings c.leave_name.ensures.links _ c.leave_upwards.ensures.leaves
