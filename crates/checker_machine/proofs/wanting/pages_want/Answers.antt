use Rattle.vmo_ops.specs.Targets.{with_tables}
use Rattle.page_store.specs.Flat.{flat_content}
use Rattle.checker_machine.proofs.WantLaws.{parts_of}
use Rattle.checker_machine.proofs.wanting.pages_want.Goals as goal

pub own_wants-requires : goal.own_wants-requires
own_wants-requires c = parts_of c.requires.parts

pub own_wants-requires-in-VmoFill : goal.own_wants-requires-in-VmoFill
own_wants-requires-in-VmoFill c = parts_of c.requires.parts

pub own_wants-requires-in-VmoCommit : goal.own_wants-requires-in-VmoCommit
own_wants-requires-in-VmoCommit c = parts_of c.requires.parts

pub returns-in-VmoWrite : goal.returns-in-VmoWrite
returns-in-VmoWrite c = rw c.in-VmoWrite.is (λ s.
    (rw (c.new.ensures, c.as_slice.ensures.value) at c.own_wants.ensures) (with_tables s (flat_content c.args.pages.now) c.args.vmos.now c.args.pins.now))

pub returns-in-VmoFill : goal.returns-in-VmoFill
returns-in-VmoFill c = rw c.in-VmoFill.is (λ s.
    (rw c.new-in-VmoFill.ensures at c.own_wants-in-VmoFill.ensures) (with_tables s (flat_content c.args.pages.now) c.args.vmos.now c.args.pins.now))

pub returns-in-VmoCommit : goal.returns-in-VmoCommit
returns-in-VmoCommit c = rw c.in-VmoCommit.is (λ s.
    (rw c.new-in-VmoCommit.ensures at c.own_wants-in-VmoCommit.ensures) (with_tables s (flat_content c.args.pages.now) c.args.vmos.now c.args.pins.now))
