use Rattle.vmo_ops.proofs.filling.fill_touching.Goals as goal

pub fill_pages-requires-clause-good : goal.fill_pages-requires-clause-good
fill_pages-requires-clause-good g c = rw c.ready_to_own.ensures.same c.requires.good

pub fill_pages-requires-clause-inside : goal.fill_pages-requires-clause-inside
fill_pages-requires-clause-inside g c = rw c.ready_to_own.ensures.same c.in-Ok.ensures.ok.1.inside

pub fill_pages-requires-clause-room : goal.fill_pages-requires-clause-room
fill_pages-requires-clause-room g c = rw c.ready_to_own.ensures.same c.in-Ok.ensures.ok.2

pub fill_pages-requires-clause-free : goal.fill_pages-requires-clause-free
fill_pages-requires-clause-free g c = rw c.ready_to_own.ensures.same c.in-Ok.ensures.ok.3

pub fill_pages-requires-else-len-clause-good : goal.fill_pages-requires-else-len-clause-good
fill_pages-requires-else-len-clause-good g c = rw c.ready_to_own.ensures.same c.requires.good

pub fill_pages-requires-else-len-clause-inside : goal.fill_pages-requires-else-len-clause-inside
fill_pages-requires-else-len-clause-inside g c = rw c.ready_to_own.ensures.same c.in-Ok.ensures.ok.1.inside

pub fill_pages-requires-else-len-clause-room : goal.fill_pages-requires-else-len-clause-room
fill_pages-requires-else-len-clause-room g c = rw c.ready_to_own.ensures.same c.in-Ok.ensures.ok.2

pub fill_pages-requires-else-len-clause-free : goal.fill_pages-requires-else-len-clause-free
fill_pages-requires-else-len-clause-free g c = rw c.ready_to_own.ensures.same c.in-Ok.ensures.ok.3
