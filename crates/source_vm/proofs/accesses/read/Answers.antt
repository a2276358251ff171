use Rattle.std.proofs.Common.{◌∙◌, arith}
use Rattle.std.proofs.lemmas.List.{length-take-le}
use Rattle.vm_base.specs.declared.limits.TheConstants.{DATA_BYTES}
use Rattle.source_vm.specs.Table.{source_names_of, backings_of, loose_links_of, source_state_of}
use Rattle.source_vm.proofs.StepLaws.{in_range, out_of_range, kept_content, no_more}
use Rattle.source_vm.proofs.RowLaws.{read_past}
use Rattle.source_vm.proofs.AccessLaws.{readable_of, read_supplied, read_refused}
use Rattle.source_vm.proofs.accesses.read.Goals as goal

pub is_in_range-requires-clause-vmo : goal.is_in_range-requires-clause-vmo
is_in_range-requires-clause-vmo g c = c.requires.agrees.good.known c.args.range.name.0 c.in-Some.v.0 c.in-Some.ensures

pub returns-then-not-is_in_range : goal.returns-then-not-is_in_range
returns-then-not-is_in_range g c =
    read_past (source_state_of (g.P.PageStore.content c.args.store.now) c.args.table.now) c.args.range.name c.in-Some.v.0 c.in-Some.ensures c.args.range.offset c.args.range.len
    (no_more DATA_BYTES c.args.range.len (omega (arith, c.if-range.false))) (out_of_range c.is_in_range.result _ _ c.is_in_range.ensures c.if-not-is_in_range.true)

pub read_range-requires-clause-readable : goal.read_range-requires-clause-readable
read_range-requires-clause-readable g c = readable_of _ _ _ _ c.requires.agrees.good

pub returns-in-Ok : goal.returns-in-Ok
returns-in-Ok g c =
    let t = c.args.table.now in
    let content = g.P.PageStore.content c.args.store.now in
    let size = length-take-le c.args.range.len c.args.room.now (omega (arith, c.if-range.false, c.requires.room)) in
    read_supplied content (source_names_of t) (backings_of t) (loose_links_of t) c.args.range.name c.in-Some.v.0 c.in-Some.ensures c.args.range.offset c.args.range.len
    (in_range c.is_in_range.result _ _ c.is_in_range.ensures c.if-not-is_in_range.false) (no_more DATA_BYTES c.args.range.len (omega (arith, c.if-range.false)))
    _ size _ _ c.in-Ok.ensures.free (c.new.ensures ∙ c.in-Ok.ensures.text) c.in-Ok.ensures.ok

pub returns-in-Err : goal.returns-in-Err
returns-in-Err g c =
    let t = c.args.table.now in
    let content = g.P.PageStore.content c.args.store.now in
    let size = length-take-le c.args.range.len c.args.room.now (omega (arith, c.if-range.false, c.requires.room)) in
    kept_content content _ (source_names_of t) (backings_of t) (loose_links_of t) _ _ c.in-Err.ensures.same
    (read_refused content (source_names_of t) (backings_of t) (loose_links_of t) c.args.range.name c.in-Some.v.0 c.in-Some.ensures c.args.range.offset c.args.range.len
    (in_range c.is_in_range.result _ _ c.is_in_range.ensures c.if-not-is_in_range.false) (no_more DATA_BYTES c.args.range.len (omega (arith, c.if-range.false)))
    _ size _ c.in-Err.ensures.err)
