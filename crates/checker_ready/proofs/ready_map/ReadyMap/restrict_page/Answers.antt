use Rattle.std.proofs.Common.{arith}
use Rattle.checker_ready.specs.Notes.{notes_of}
use Rattle.checker_ready.proofs.RowLaws.{rows-limited, rows-unlimited, AreNotes-limited}
use Rattle.checker_ready.proofs.ready_map.ReadyMap.restrict_page.Goals as goal

pub invariant_of-self : goal.invariant_of-self
invariant_of-self c =
    let found = rw (← c.self.view_is) at c.requires in
    AreNotes-limited (notes_of c.self.inside) c.args.koid.0 c.args.page c.replace.new.self c.args.stamp c.self.invariant found c.replace.ensures.values
    (omega (arith, c.self.invariant.stamps_room, c.replace.ensures.spare))

pub returns-then-not-stays-clause-rows : goal.returns-then-not-stays-clause-rows
returns-then-not-stays-clause-rows c =
    let found = rw (← c.self.view_is) at c.requires in
    rw c.if-not-stays.true (rw (← c.self.view_is) (rows-limited (notes_of c.self.inside) c.args.koid.0 c.args.page c.replace.new.self c.self.invariant c.args.stamp found c.replace.ensures.values))

pub returns-else-not-stays-clause-rows : goal.returns-else-not-stays-clause-rows
returns-else-not-stays-clause-rows c = rw (← c.self.view_is) (rows-unlimited (notes_of c.self.inside) c.args.koid.0 c.args.page c.args.stays c.if-not-stays.false)
