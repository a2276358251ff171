use Rattle.std.proofs.Common.{None, sym, ◌∙◌, arith}
use Rattle.page_store.specs.Flat.{flat_content}
use Rattle.checker_ready.specs.Notes.{notes_of}
use Rattle.checker_ready.proofs.RowLaws.{rows-settled, rows-current, AreNotes-stamped}
use Rattle.checker_ready.proofs.ready_map.ReadyMap.settle_page.Goals as goal

pub invariant_of-self : goal.invariant_of-self
invariant_of-self c =
    AreNotes-stamped (notes_of c.self.inside) c.args.koid.0 c.args.page c.remove.new.self None c.self.invariant c.remove.ensures.values (λ s none. absurd cc)
    (omega (arith, c.self.invariant.stamps_room, c.remove.ensures.spare))

pub returns-then-not-has_frame-clause-rows : goal.returns-then-not-has_frame-clause-rows
returns-then-not-has_frame-clause-rows c =
    let found = rw (← c.self.view_is) at c.requires.stamp in
    rw (← c.self.view_is) (rows-settled (notes_of c.self.inside) c.args.koid.0 c.args.page c.remove.new.self (flat_content c.args.pages.now) c.args.stamp found
    (sym c.has_frame.ensures ∙ c.if-not-has_frame.true) c.remove.ensures.values)

pub returns-else-not-has_frame-clause-rows : goal.returns-else-not-has_frame-clause-rows
returns-else-not-has_frame-clause-rows c =
    let found = rw (← c.self.view_is) at c.requires.stamp in
    rw (← c.self.view_is) (rows-current (notes_of c.self.inside) c.args.koid.0 c.args.page (flat_content c.args.pages.now) c.args.stamp found
    (sym c.has_frame.ensures ∙ c.if-not-has_frame.false))
