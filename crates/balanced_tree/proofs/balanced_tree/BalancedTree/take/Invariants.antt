use Rattle.balanced_tree.proofs.balanced_tree.BalancedTree.take.Given as goal

-- the ledger of the count that is thrown away
abbrev pub ghosts-take_with : goal.ghosts-take_with
ghosts-take_with g a = record { name = a.blank.name; parts = a.blank.parts }
