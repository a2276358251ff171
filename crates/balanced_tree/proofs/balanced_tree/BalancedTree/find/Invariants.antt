use Rattle.balanced_tree.proofs.balanced_tree.BalancedTree.find.Given as goal

-- the ledger of the count that is thrown away
abbrev pub ghosts-find_with : goal.ghosts-find_with
ghosts-find_with g a = record { name = a.blank.name; parts = a.blank.parts }
