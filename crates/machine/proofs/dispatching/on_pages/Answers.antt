use Rattle.machine.proofs.dispatching.on_pages.Goals as goal

pub returns-in-VmoRead : goal.returns-in-VmoRead
returns-in-VmoRead g c = rw c.in-VmoRead.is (rw c.new-range.ensures at c.vmo_read.ensures)

pub returns-in-VmoWrite : goal.returns-in-VmoWrite
returns-in-VmoWrite g c = rw c.in-VmoWrite.is (rw (← c.as_slice.ensures.value) c.vmo_write.ensures)

pub returns-in-VmoFill : goal.returns-in-VmoFill
returns-in-VmoFill g c = rw c.in-VmoFill.is (rw c.new.ensures at c.vmo_fill.ensures)

pub returns-in-VmoCommit : goal.returns-in-VmoCommit
returns-in-VmoCommit g c = rw c.in-VmoCommit.is (rw c.new-in-VmoCommit.ensures at c.vmo_commit.ensures)

pub returns-in-VmoZero : goal.returns-in-VmoZero
returns-in-VmoZero g c = rw c.in-VmoZero.is (rw c.new-in-VmoZero.ensures at c.vmo_zero.ensures)

pub returns-in-VmoDecommit : goal.returns-in-VmoDecommit
returns-in-VmoDecommit g c = rw c.in-VmoDecommit.is (rw c.new-in-VmoDecommit.ensures at c.vmo_decommit.ensures)
