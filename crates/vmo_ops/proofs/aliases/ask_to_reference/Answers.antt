use Rattle.std.proofs.Common.{refl, sym, ap, ◌∙◌}
use Rattle.std.specs.Prelude.{is_some}
use Rattle.vmo_ops.proofs.AskLaws.{hit, skip, by_name, reference_rows}
use Rattle.vmo_ops.proofs.aliases.ask_to_reference.Goals as goal

pub returns-then-is_contradictory : goal.returns-then-is_contradictory
returns-then-is_contradictory c = λ parts s name parent named closed.
    by_name (parts s) parent.0 _ named (reference_rows (parts s) name.0 c.args.offset c.args.bytes c.args.resizable c.args.no_write) _ (skip _ _ _ _ (ap is_some closed)
    (hit _ _ _ (sym c.is_contradictory.ensures ∙ c.if-is_contradictory.true)))

pub returns-then-is_slice : goal.returns-then-is_slice
returns-then-is_slice c = λ parts s name parent named closed.
    by_name (parts s) parent.0 _ named (reference_rows (parts s) name.0 c.args.offset c.args.bytes c.args.resizable c.args.no_write) _ (skip _ _ _ _ (ap is_some closed)
    (skip _ _ _ _ (sym c.is_contradictory.ensures ∙ c.if-is_contradictory.false) (hit _ _ _ (sym c.is_slice.ensures ∙ c.if-is_slice.true))))

pub returns : goal.returns
returns c = λ parts s name parent named closed.
    by_name (parts s) parent.0 _ named (reference_rows (parts s) name.0 c.args.offset c.args.bytes c.args.resizable c.args.no_write) _ (skip _ _ _ _ (ap is_some closed)
    (skip _ _ _ _ (sym c.is_contradictory.ensures ∙ c.if-is_contradictory.false) (skip _ _ _ _ (sym c.is_slice.ensures ∙ c.if-is_slice.false) refl)))
