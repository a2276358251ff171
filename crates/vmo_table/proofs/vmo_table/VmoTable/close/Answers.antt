use Rattle.std.proofs.Common.{Some, sym, ap, ◌∙◌}
use Rattle.std.proofs.lemmas.Option.{same_Some}
use Rattle.vmo_table.specs.declared.vmos.Vmo.{Vmo}
use Rattle.vmo_table.specs.Vmos.{vmos_in, keepers_in}
use Rattle.vmo_table.specs.Table.{names_in}
use Rattle.vmo_table.proofs.EntryLaws.{names_in-taken}
use Rattle.vmo_table.proofs.CountLaws.{keepers-at, keepers-same}
use Rattle.vmo_table.proofs.NamedLaws.{named-there, fewer_named}
use Rattle.vmo_table.proofs.SettledLaws.{keepers-settled, settles}
use Rattle.vmo_table.proofs.TableLaws.{IsVmoTable-settled, closing}
use Rattle.vmo_table.proofs.vmo_table.VmoTable.close.Goals as goal

pub unreachable-requires : goal.unreachable-requires
unfolding names_in
unreachable-requires c =
    let some = rw (← c.self.view_is) at c.requires in
    let none = sym c.remove.ensures.value ∙ c.in_default.is in
    let e = rw (none) at some in cc

pub index-requires : goal.index-requires
unfolding names_in vmos_in
index-requires c = named-there _ _ c.self.invariant.named c.args.name.0 c.in-Some.target (sym c.remove.ensures.value ∙ c.in-Some.is)

pub take_name-left-requires : goal.take_name-left-requires
unfolding names_in vmos_in
take_name-left-requires c =
    let fit = fewer_named _ _ c.args.name.0 c.in-Some.target c.self.invariant.named c.index.result.now (sym c.remove.ensures.value ∙ c.in-Some.is) c.index.ensures in
    record { names = fit.0; slices = fit.1; references = fit.2 }

pub settle-requires : goal.settle-requires
settle-requires c =
    let closed = closing c.self.inside c.args.name.0 c.in-Some.target c.index.result.now _ c.self.invariant (sym c.remove.ensures.value ∙ c.in-Some.is) c.index.ensures c.take_name-left.ensures in
    record { may = closed.0; rows = c.self.invariant.rows }

pub invariant_of-self : goal.invariant_of-self
invariant_of-self c =
    let closed = closing c.self.inside c.args.name.0 c.in-Some.target c.index.result.now _ c.self.invariant (sym c.remove.ensures.value ∙ c.in-Some.is) c.index.ensures c.take_name-left.ensures in
    IsVmoTable-settled _ _ _ _ closed.0 _ (names_in-taken _ _ c.args.name.0 c.remove.ensures.updates.0) closed.1 c.settle.ensures.vmos c.settle.ensures.rows

pub returns : goal.returns
unfolding names_in vmos_in
returns c =
    let t = c.in-Some.target in
    let found = sym c.remove.ensures.value ∙ c.in-Some.is in
    let closed = closing c.self.inside c.args.name.0 t c.index.result.now _ c.self.invariant found c.index.ensures c.take_name-left.ensures in
    let taken = names_in-taken c.self.inside.names.entries c.remove.new.self.entries c.args.name.0 c.remove.ensures.updates.0 in
    let was = keepers-at (vmos_in c.self.inside.vmos.entries) t.koid.0 (Some c.index.result.now) c.index.ensures ∙ sym (ap (λ (x : Vmo). x.keepers) c.take_name-left.ensures) in
    rw (← c.self.view_is) (record {
      names = taken;
      keepers = ap keepers_in c.settle.ensures.vmos ∙ (keepers-settled _ _ _ closed.0 ∙ keepers-same _ t.koid.0 c.take_name-left.result was);
      vmo = λ s e. rw (← same_Some t s (sym found ∙ e), taken, was, c.settle.ensures.vmos)
          (settles _ _ _ closed.0 _ closed.1 c.settle.result c.settle.ensures.answer);
    })
