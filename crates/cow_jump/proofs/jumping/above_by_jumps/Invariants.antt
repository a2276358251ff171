use Rattle.cow_jump.proofs.jumping.above_by_jumps.Given as goal

-- the ledger of the count that is thrown away
abbrev pub ghosts-rise_with : goal.ghosts-rise_with
ghosts-rise_with a = record { name = a.blank.name; parts = a.blank.parts }
