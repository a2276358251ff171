use Rattle.balanced_tree.proofs.balanced_tree.BalancedTree.insert.Given as goal

-- the ledger of the count that is thrown away
abbrev pub ghosts-insert_with : goal.ghosts-insert_with
ghosts-insert_with g a = record { name = a.blank.name; parts = a.blank.parts }
