use Rattle.checks.proofs.calls.counting.many_rows_come_and_go.Given as goal

-- the ledger of the count
abbrev pub ghosts-goes : goal.ghosts-goes
ghosts-goes g a = record { name = a.blank.name; parts = a.blank.parts }
