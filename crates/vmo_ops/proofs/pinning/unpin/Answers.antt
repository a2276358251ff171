use Rattle.std.proofs.Common.{refl, sym, ◌∙◌, arith, rules}
use Rattle.vm_base.proofs.SearchLaws.{bit-true, eqb_same}
use Rattle.vm_model.proofs.LeavingLaws.{unpinned, LoosensAt-unpinned, pin_vmo}
use Rattle.vmo_table.specs.Table.{lineage_in, keepers_of}
use Rattle.pin_table.specs.Table.{pin_of, pins_of}
use Rattle.vmo_ops.specs.Targets.{with_tables}
use Rattle.vmo_ops.proofs.KeeperLaws.{pin_count-without_key}
use Rattle.vmo_table.proofs.SettleLaws.{leaving_vmo, settled_pruned}
use Rattle.vmo_ops.proofs.pinning.unpin.Goals as goal

pub release-requires : goal.release-requires
release-requires g c = record {
  keepers =
      let v = c.remove.result.0.0 in
      let low = (c.requires.parts.1.good.pins c.args.pin.0 (pin_of c.remove.result) (sym c.remove.ensures.pin)).0 in
      let count = pin_count-without_key (pins_of c.args.pins.now) c.args.pin.0 (pin_of c.remove.result) v low
      c.remove.ensures.pin in
      omega (arith, c.requires.parts.1.counted v, count, bit-true _ (eqb_same v));
}

pub drop_gone-requires : goal.drop_gone-requires
drop_gone-requires g c =
    leaving_vmo _ _ _ _ _ (g.P.PageStore.content c.args.store.now) _
    (pin_vmo _ _ _ c.requires.parts.1.good (sym c.remove.ensures.pin)) c.release.ensures.vmo

pub returns-clause-step : goal.returns-clause-step
returns-clause-step g c = λ rest is.
    let s = with_tables rest (g.P.PageStore.content c.args.store.now) c.args.vmos.now c.args.pins.now in
    let d = g.P.PageStore.content c.drop_gone.new.store in
    let held = sym c.remove.ensures.pin in
    let v = c.remove.result.0.0 in
    let low = (is.good.pins c.args.pin.0 (pin_of c.remove.result) held).0 in
    let count = pin_count-without_key s.pins c.args.pin.0 (pin_of c.remove.result) v low c.remove.ensures.pin in
    let gone = settled_pruned s (unpinned s c.args.pin.0) v is.good
    (LoosensAt-unpinned s c.args.pin.0 (pin_of c.remove.result) is.good held) s.names refl (keepers_of c.release.new.self v)
    (omega (arith, is.counted v, c.release.ensures.keepers v, count)) _ _ c.release.ensures.vmo d
    c.drop_gone.ensures in
    let new = (λ i. record s {
      content = d;
      names = c.release.ensures.names i;
      lineage = lineage_in c.release.new.self;
      pins = c.remove.ensures.pins i;
    })
    ∙ gone in
    search rules

pub returns-clause-counted : goal.returns-clause-counted
returns-clause-counted g c = λ rest counted v.
    let low = (c.requires.parts.1.good.pins c.args.pin.0 (pin_of c.remove.result) (sym c.remove.ensures.pin)).0 in
    rw c.remove.ensures.pins (omega (
      arith,
      counted v,
      c.release.ensures.keepers v,
      pin_count-without_key (pins_of c.args.pins.now) c.args.pin.0 (pin_of c.remove.result) v low c.remove.ensures.pin,
    ))
