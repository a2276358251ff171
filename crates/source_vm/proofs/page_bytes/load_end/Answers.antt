use Rattle.std.proofs.Common.{◌∙◌, sym, arith}
use Rattle.page_store.proofs.LookLaws.{zero_frame, held_frame}
use Rattle.source_vm.specs.Table.{backings_of}
use Rattle.source_vm.proofs.FillingLaws.{read_whole, text-held, text-free}
use Rattle.source_vm.proofs.page_bytes.load_end.Goals as goal

pub returns-in-Some : goal.returns-in-Some
returns-in-Some g c =
    let held = held_frame _ _ (sym c.in-Some.is ∙ c.requires.found) in
    read_whole c.read.new.out held.0.bytes (omega arith) (c.requires.readable.good.whole _ _ held.0 held.1)
    (c.read.ensures c.args.end.place.koid.0 c.args.end.place.page held.0 (record { page = held.1; tag = held.2 }))
    ∙ sym (text-held (g.P.PageStore.content c.args.store.now) (backings_of c.args.table.now) c.args.end.place.koid.0 c.args.end.place.page held.0 held.1)

pub returns-in-None : goal.returns-in-None
returns-in-None g c =
    c.load_backed.ensures
    ∙ sym (text-free (g.P.PageStore.content c.args.store.now) (backings_of c.args.table.now) c.args.end.place.koid.0 c.args.end.place.page (zero_frame _ (sym c.in-None.is ∙ c.requires.found)))
