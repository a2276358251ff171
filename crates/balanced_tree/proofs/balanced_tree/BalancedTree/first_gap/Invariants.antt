use Rattle.balanced_tree.proofs.balanced_tree.BalancedTree.first_gap.Given as goal

-- the ledger of the count that is thrown away
abbrev pub ghosts-first_gap_with : goal.ghosts-first_gap_with
ghosts-first_gap_with g a = record { name = a.blank.name; parts = a.blank.parts }
