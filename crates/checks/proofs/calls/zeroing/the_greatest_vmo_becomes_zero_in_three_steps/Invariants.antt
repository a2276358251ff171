use Rattle.checks.proofs.calls.zeroing.the_greatest_vmo_becomes_zero_in_three_steps.Given as goal

-- the ledger of the count
abbrev pub ghosts-goes : goal.ghosts-goes
ghosts-goes g a = record { name = a.blank.name; parts = a.blank.parts }
