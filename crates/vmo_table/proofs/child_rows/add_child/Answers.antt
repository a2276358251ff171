use Rattle.std.proofs.Common.{◌≡◌, true, false, Option, ap, sym, subst, arith}
use Rattle.std.specs.Option.{option_map}
use Rattle.vm_base.specs.declared.names.Koid.{Koid}
use Rattle.vmo_table.specs.Vmos.{koid_number}
use Rattle.vmo_table.specs.inside.ChildRows.{is_under, IsChange}
use Rattle.vmo_table.proofs.ChildLaws.{at_parent, no_row, changed-added, changed-not}
use Rattle.vmo_table.proofs.child_rows.add_child.Goals as goal

pub insert-requires-clause-absent : goal.insert-requires-clause-absent
insert-requires-clause-absent c =
    let child = c.args.child.0 in
    no_row c.args.rows.now c.in-Some.parent.0 child c.new.result (omega arith) c.new.ensures
    (at_parent (λ p. is_under c.args.rows.now p.0 child ≡ false) _ c.in-Some.parent c.in-Some.is c.requires.absent)

pub returns-in-Some : goal.returns-in-Some
returns-in-Some c =
    let child = c.args.child.0 in
    subst (λ (o : Option Koid). IsChange c.args.rows.now c.insert.new.self (option_map koid_number o) child true)
    (sym c.in-Some.is)
    (changed-added _ _ c.in-Some.parent.0 child c.new.result (omega arith) c.new.ensures c.insert.ensures.rows)

pub returns-in_default : goal.returns-in_default
returns-in_default c =
    changed-not c.args.rows.now _ c.args.child.0 true (ap (option_map koid_number) c.in_default.is)
