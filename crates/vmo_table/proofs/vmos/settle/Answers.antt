use Rattle.std.proofs.Common.{ℕ, Option, sym, ap, subst, ◌∙◌, arith}
use Rattle.std.specs.Option.{option_map}
use Rattle.std.proofs.lemmas.Bool.{cond-true, cond-false}
use Rattle.vmo_table.specs.declared.vmos.Vmo.{Vmo}
use Rattle.vm_model.specs.Naming.Names.{Lineage}
use Rattle.vmo_table.specs.Vmos.{koid_number, lineages, adopted, vmos_settled}
use Rattle.vmo_table.specs.inside.ChildRows.{AreChildren}
use Rattle.vmo_table.proofs.VmosLaws.{lineages-adopted}
use Rattle.vmo_table.proofs.SettledLaws.{AreChildren-got, may_leave, left_fits}
use Rattle.vmo_table.proofs.EntryLaws.{vmo_count_le}
use Rattle.vmo_table.proofs.vmos.settle.Goals as goal

pub write_back-requires : goal.write_back-requires
write_back-requires c = (c.requires.may.old, c.requires.may.found)

pub returns-then-is_kept-clause-vmos : goal.returns-then-is_kept-clause-vmos
unfolding vmos_settled
returns-then-is_kept-clause-vmos c = c.write_back.ensures ∙ sym (cond-true _ _ _ (sym c.is_kept.ensures ∙ c.if-is_kept.true))

pub returns-then-is_kept-clause-rows : goal.returns-then-is_kept-clause-rows
returns-then-is_kept-clause-rows c =
    subst (λ (m : ℕ → Option Vmo). AreChildren c.args.rows.now (lineages m)) (sym c.write_back.ensures)
    (AreChildren-got _ _ _ c.requires.may _ c.requires.rows)

pub take_out-requires : goal.take_out-requires
take_out-requires c = may_leave _ _ _ c.requires.may _ c.requires.rows

pub count_children-requires : goal.count_children-requires
count_children-requires c = λ v above hit e.
    let fits = left_fits _ _ _ c.requires.may v above hit (ap (λ (m : ℕ → Option Vmo). m v) (sym c.take_out.ensures.vmos) ∙ e) in
    (fits.0, omega (arith, fits.1, vmo_count_le c.args.vmos.now.entries, c.len.ensures.small))

pub returns-clause-vmos : goal.returns-clause-vmos
unfolding vmos_settled
returns-clause-vmos c =
    let vmo = c.args.vmo in
    c.count_children.ensures
    ∙ (ap (λ (m : ℕ → Option Vmo). adopted m (option_map koid_number vmo.parent) 1 vmo.children) c.take_out.ensures.vmos
    ∙ sym (cond-false _ _ _ (sym c.is_kept.ensures ∙ c.if-is_kept.false)))

pub returns-clause-rows : goal.returns-clause-rows
returns-clause-rows c =
    subst (λ (l : ℕ → Option Lineage). AreChildren c.take_out.new.rows l)
    (sym (ap lineages c.count_children.ensures ∙ lineages-adopted _ _ 1 c.args.vmo.children)) c.take_out.ensures.rows
