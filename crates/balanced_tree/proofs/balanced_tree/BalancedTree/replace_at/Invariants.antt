use Rattle.balanced_tree.proofs.balanced_tree.BalancedTree.replace_at.Given as goal

-- the ledger of the count that is thrown away
abbrev pub ghosts-replace_at_with : goal.ghosts-replace_at_with
ghosts-replace_at_with g a = record { name = a.blank.name; parts = a.blank.parts }
