use Rattle.std.proofs.Common.{None, refl, ap, ◌∙◌, arith}
use Rattle.std.specs.Option.{option_map}
use Rattle.balanced_tree.proofs.PairLaws.{next-is}
use Rattle.balanced_tree.specs.Pairs.{value_at, IsNext}
use Rattle.vmo_table.specs.inside.ChildRows.{child_row_functions, child_in}
use Rattle.vmo_table.specs.Vmos.{koid_number}
use Rattle.vmo_table.proofs.ChildLaws.{row_pairs, under-value}
use Rattle.vmo_table.proofs.child_rows.first_child.Goals as goal

next : (c : goal.After-child_under) →
    IsNext (value_at child_row_functions child_in c.args.rows.now.rows c.args.parent.0) 0 (option_map koid_number c.child_under.result)
next c =
    next-is row_pairs _ _ refl c.args.parent.0 0 c.len-rising.ensures.rising _ _ _ c.pair_rank.ensures
    c.child_under.ensures.fits c.next.ensures c.child_under.ensures.child

pub returns-clause-none : goal.returns-clause-none
returns-clause-none c = λ none v.
    under-value c.args.rows.now c.args.parent.0 v None ((next c).none (ap (option_map koid_number) none) v (omega arith))

pub returns-clause-some : goal.returns-clause-some
returns-clause-some c = λ child some.
    under-value c.args.rows.now c.args.parent.0 child.0 _ refl ∙ ((next c).least child.0 (ap (option_map koid_number) some)).1
