use Rattle.std.proofs.Common.{◌≡◌, true, false, Option, ap, sym, subst}
use Rattle.std.specs.Option.{option_map}
use Rattle.vm_base.specs.declared.names.Koid.{Koid}
use Rattle.vmo_table.specs.Vmos.{koid_number}
use Rattle.vmo_table.specs.inside.ChildRows.{is_under, IsChange}
use Rattle.vmo_table.proofs.ChildLaws.{at_parent, row_there, under-below, changed-removed, changed-not}
use Rattle.vmo_table.proofs.child_rows.remove_child.Goals as goal

pub remove-requires : goal.remove-requires
remove-requires c =
    row_there c.args.rows.now c.in-Some.parent.0 c.args.child.0 _ c.pair_rank.ensures
    (at_parent (λ p. is_under c.args.rows.now p.0 c.args.child.0 ≡ true) _ c.in-Some.parent c.in-Some.is c.requires)

pub returns-in-Some-clause-change : goal.returns-in-Some-clause-change
returns-in-Some-clause-change c =
    let old = c.args.rows.now in
    let child = c.args.child.0 in
    let there = at_parent (λ p. is_under old p.0 child ≡ true) _ c.in-Some.parent c.in-Some.is c.requires in
    subst (λ (o : Option Koid). IsChange old c.remove.new.self (option_map koid_number o) child false)
    (sym c.in-Some.is)
    (changed-removed old _ c.in-Some.parent.0 child _ (under-below old c.in-Some.parent.0 child there)
    c.pair_rank.ensures c.remove.ensures.rows)

pub returns-in_default-clause-change : goal.returns-in_default-clause-change
returns-in_default-clause-change c =
    changed-not c.args.rows.now _ c.args.child.0 false (ap (option_map koid_number) c.in_default.is)
