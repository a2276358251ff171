use Rattle.shared_vm.proofs.acting.act_all.Given as goal

abbrev pub ghosts-act_on : goal.ghosts-act_on
ghosts-act_on g a = record { frames = a.room.frames; lists = a.room.lists }
