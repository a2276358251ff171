use Rattle.cow_fork.proofs.Words.{◌≡◌, ◌-◌, slots_of, row_count, hidden_slots}
use Rattle.cow_fork.proofs.sharing.hide_rows.Given as goal

-- what is left of the range leads to what the whole range does
abbrev pub invariant-loop-page : goal.invariant-loop-page
invariant-loop-page l = record {
  slots : hidden_slots (slots_of l.lists) l.list.0 l.at l.end ≡ hidden_slots (slots_of l.initial.lists) l.list.0 l.from l.end;
  count : row_count l.lists ≡ row_count l.initial.lists;
  spare : l.lists.spare ≡ l.initial.lists.spare;
}

abbrev pub decreases-loop-page : goal.decreases-loop-page
decreases-loop-page l = l.end - l.at
