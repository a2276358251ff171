use Rattle.std.proofs.Common.{◌≡◌}
use Rattle.vm_model.specs.Naming.Names.{child_count}
use Rattle.vmo_table.specs.Vmos.{vmos_in, lineages, vmos_without}
use Rattle.vmo_table.specs.inside.ChildRows.{MayLeave}
use Rattle.vmo_table.proofs.vmos.move_children.Given as goal

-- the VMO may leave still, and what it leaves is what it left at the start
abbrev pub invariant-loop-child : goal.invariant-loop-child
invariant-loop-child l = record {
  leaves : MayLeave (vmos_in l.vmos.entries) l.rows l.koid.0 l.parent;
  same : vmos_without (vmos_in l.vmos.entries) l.koid.0 l.parent
      ≡ vmos_without (vmos_in l.initial.vmos.entries) l.koid.0 l.parent;
}

abbrev pub decreases-loop-child : goal.decreases-loop-child
decreases-loop-child l = child_count (lineages (vmos_in l.vmos.entries)) l.koid.0
