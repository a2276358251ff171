use Rattle.std.proofs.Common.{sym, subst, ◌∙◌, ℕ, Option}
use Rattle.vmo_table.specs.declared.vmos.Vmo.{Vmo}
use Rattle.vmo_table.specs.Vmos.{lineages}
use Rattle.vmo_table.specs.inside.ChildRows.{AreChildren}
use Rattle.vmo_table.proofs.VmosLaws.{without-childless}
use Rattle.vmo_table.proofs.EntryLaws.{vmos_in-removed}
use Rattle.vmo_table.proofs.MovedLaws.{row_under, no_children, AreChildren-left}
use Rattle.vmo_table.proofs.vmos.take_out.Goals as goal

pub remove_child-requires : goal.remove_child-requires
remove_child-requires c = row_under _ c.args.koid.0 c.args.parent c.move_children.ensures.leaves.own

pub returns : goal.returns
returns c =
    let leaves = c.move_children.ensures.leaves in
    let childless = c.move_children.ensures.childless in
    let removed = vmos_in-removed _ _ c.args.koid.0 c.remove-removed.ensures.updates.0
    ∙ sym (without-childless _ c.args.koid.0 c.args.parent (no_children _ _ _ _ leaves childless)) in
    record {
      vmos = removed ∙ c.move_children.ensures.same;
      rows = subst (λ (m : ℕ → Option Vmo). AreChildren c.remove_child.new.rows (lineages m)) (sym removed)
          (AreChildren-left _ _ _ _ leaves childless c.remove_child.new.rows c.remove_child.ensures.change);
    }
