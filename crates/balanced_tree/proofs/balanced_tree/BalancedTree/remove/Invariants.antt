use Rattle.balanced_tree.proofs.balanced_tree.BalancedTree.remove.Given as goal

-- the ledger of the count that is thrown away
abbrev pub ghosts-remove_with : goal.ghosts-remove_with
ghosts-remove_with g a = record { name = a.blank.name; parts = a.blank.parts }
