use Rattle.source_vm.specs.Table.{source_names_of, backings_of, loose_links_of, source_state_of}
use Rattle.source_vm.proofs.StepLaws.{in_range, out_of_range, kept_content}
use Rattle.source_vm.proofs.RowLaws.{write_past, write_short, write_done}
use Rattle.source_vm.proofs.AccessLaws.{readable_of}
use Rattle.source_vm.proofs.accesses.write.Goals as goal

pub is_in_range-requires-clause-vmo : goal.is_in_range-requires-clause-vmo
is_in_range-requires-clause-vmo g c = c.requires.agrees.good.known c.args.name.0 c.in-Some.v.0 c.in-Some.ensures

pub write_pages-requires-clause-readable : goal.write_pages-requires-clause-readable
write_pages-requires-clause-readable g c = readable_of _ _ _ _ c.requires.agrees.good

pub write_pages-requires-clause-vmo : goal.write_pages-requires-clause-vmo
write_pages-requires-clause-vmo g c = c.requires.agrees.good.known c.args.name.0 c.in-Some.v.0 c.in-Some.ensures

pub returns-then-not-is_in_range : goal.returns-then-not-is_in_range
returns-then-not-is_in_range g c =
    write_past (source_state_of (g.P.PageStore.content c.args.store.now) c.args.table.now) c.args.name c.in-Some.v.0 c.in-Some.ensures c.args.offset c.args.bytes.now
    (out_of_range c.is_in_range.result _ _ c.is_in_range.ensures c.if-not-is_in_range.true)

pub returns-in-Ok : goal.returns-in-Ok
returns-in-Ok g c =
    write_done (source_state_of (g.P.PageStore.content c.args.store.now) c.args.table.now) c.args.name c.in-Some.v.0 c.in-Some.ensures c.args.offset c.args.bytes.now _
    (in_range c.is_in_range.result _ _ c.is_in_range.ensures c.if-not-is_in_range.false) c.in-Ok.ensures.free
    (c.in-Ok.ensures.ok.each (source_names_of c.args.table.now))

pub returns-in-Err : goal.returns-in-Err
returns-in-Err g c =
    let t = c.args.table.now in
    let content = g.P.PageStore.content c.args.store.now in
    kept_content content _ (source_names_of t) (backings_of t) (loose_links_of t) _ _ c.in-Err.ensures.same
    (write_short (source_state_of content t) c.args.name c.in-Some.v.0 c.in-Some.ensures c.args.offset c.args.bytes.now _
    (in_range c.is_in_range.result _ _ c.is_in_range.ensures c.if-not-is_in_range.false) c.in-Err.ensures.err)
