use Rattle.vm_base.proofs.EntryLaws.{some_is}
use Rattle.vmo_table.proofs.MovedLaws.{no_row_under, child_there, nowhere, moves}
use Rattle.vmo_table.proofs.vmos.move_child.Goals as goal

pub add_child-requires-clause-absent : goal.add_child-requires-clause-absent
add_child-requires-clause-absent c =
    no_row_under _ c.args.child.0 c.args.parent (nowhere _ _ _ _ c.requires.leaves c.args.child.0 c.requires.child _ c.remove_child.ensures.change)

pub set_parent-requires : goal.set_parent-requires
set_parent-requires c = child_there _ _ _ _ c.requires.leaves c.args.child.0 c.requires.child

pub returns : goal.returns
returns c =
    let child = c.args.child.0 in
    let vmo = some_is _ (child_there _ _ _ _ c.requires.leaves child c.requires.child) in
    let moved = moves _ _ _ _ c.requires.leaves child c.requires.child _ c.remove_child.ensures.change vmo.0 vmo.1 _
    c.add_child.ensures _ (c.set_parent.ensures vmo.0 vmo.1) in
    record { leaves = moved.0; same = moved.1; fewer = moved.2 }
