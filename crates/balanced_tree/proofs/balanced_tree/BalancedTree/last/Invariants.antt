use Rattle.balanced_tree.proofs.balanced_tree.BalancedTree.last.Given as goal

-- the ledger of the count that is thrown away
abbrev pub ghosts-last_with : goal.ghosts-last_with
ghosts-last_with g a = record { name = a.blank.name; parts = a.blank.parts }
