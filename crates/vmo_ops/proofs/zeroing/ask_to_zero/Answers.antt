use Rattle.std.proofs.Common.{ℕ, ◌+◌, ◌*◌, List, sym, ap}
use Rattle.vm_base.specs.declared.limits.TheConstants.{PAGE}
use Rattle.vm_model.specs.Contents.Content.{Content}
use Rattle.vm_model.specs.Contents.Zeroing.{owned_by_zero}
use Rattle.vm_model.specs.Naming.Pins.{Pin, is_pinned}
use Rattle.std.proofs.Common.{Option}
use Rattle.vm_model.specs.declared.names.Target.{Target}
use Rattle.pin_table.specs.Table.{pins_of}
use Rattle.vmo_ops.specs.Targets.{with_pins}
use Rattle.vmo_ops.proofs.AskLaws.{change_barred, change_lacks, change_fits}
use Rattle.vmo_ops.proofs.zeroing.ask_to_zero.Goals as goal

-- the pages that zeroing the range owns
abbrev owned : Content → (ℕ → Option Pin) → (offset len : ℕ) → Target → List ℕ
owned d pins offset len t = owned_by_zero d t.koid.0 (is_pinned pins t.koid.0) (t.first * PAGE + offset) len

pub returns-in-Err : goal.returns-in-Err
returns-in-Err g c = λ rest name named.
    let d = g.P.PageStore.content c.args.store.now in
    let pins = pins_of c.args.pins.now in
    change_barred (with_pins d pins rest) name.0 _ named c.args.offset c.args.len (owned d pins c.args.offset c.args.len) _ c.in-Err.ensures.err

pub returns-in-None : goal.returns-in-None
returns-in-None g c = λ rest name named.
    let d = g.P.PageStore.content c.args.store.now in
    let pins = pins_of c.args.pins.now in
    let placed = c.in-Ok.ensures.ok in
    change_lacks (with_pins d pins rest) name.0 _ named c.args.offset c.args.len (owned d pins c.args.offset c.args.len)
    placed.0 placed.1.range _ (ap (λ (a : ℕ). owned_by_zero d c.args.t.now.koid.0 (is_pinned pins c.args.t.now.koid.0) a c.args.len) (sym placed.1.place)) c.in-None.ensures.none

pub returns-in-Some : goal.returns-in-Some
returns-in-Some g c =
    let d = g.P.PageStore.content c.args.store.now in
    let pins = pins_of c.args.pins.now in
    let placed = c.in-Ok.ensures.ok in (
      λ rest name named.
          change_fits (with_pins d pins rest) name.0 _ named c.args.offset c.args.len (owned d pins c.args.offset c.args.len)
          placed.0 placed.1.range _ (ap (λ (a : ℕ). owned_by_zero d c.args.t.now.koid.0 (is_pinned pins c.args.t.now.koid.0) a c.args.len) (sym placed.1.place)) c.in-Some.ensures.some.1,
      placed.1,
      c.in-Some.ensures.some.0,
      c.in-Some.ensures.some.1,
      c.touched_by-pages.ensures,
    )
