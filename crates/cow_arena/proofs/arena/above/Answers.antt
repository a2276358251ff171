use Rattle.cow_arena.proofs.arena.above.Goals as goal

pub index-requires-2 : goal.index-requires-2
index-requires-2 c = rw (c.in_ok-parent.was) at (c.requires.parent c.index.result.now c.index.ensures)
