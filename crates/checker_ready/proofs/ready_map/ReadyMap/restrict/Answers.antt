use Rattle.std.proofs.Common.{refl, inl, inr, ◌∙◌, arith}
use Rattle.vm_model.specs.Naming.Pins.{is_pinned}
use Rattle.pin_table.specs.Table.{pins_of}
use Rattle.checker_ready.specs.Notes.{rows_of, row_limited}
use Rattle.checker_ready.proofs.RowLaws.{changed-start, changed-next, changed-end, limited-alike, limited-leaves, pinned-one}
use Rattle.checker_ready.proofs.ready_map.ReadyMap.restrict.Goals as goal

pub loop-next-init : goal.loop-next-init
loop-next-init c = record {
  first = omega arith;
  end = inr refl;
  rows = changed-start (row_limited (is_pinned (pins_of c.args.pins.now) c.args.koid.0)) c.args.koid.0 c.args.first (rows_of c.args.self.now);
  spare = refl;
}

pub loop-next-smaller : goal.loop-next-smaller
loop-next-smaller c = let some = c.in-Some.ensures.some in omega (arith, some.0, some.1)

pub loop-next-preserved : goal.loop-next-preserved
loop-next-preserved c =
    let some = c.in-Some.ensures.some in
    let inv = c.loop-next.invariant in
    record {
      first = omega (arith, some.0, inv.first);
      end = inl (omega (arith, some.1));
      rows = changed-next (row_limited (is_pinned (pins_of c.args.pins.now) c.args.koid.0)) c.args.koid.0 c.args.first c.loop-next.from c.args.end (rows_of c.args.self.now) (rows_of c.loop-next.self) inv.rows
          (row_limited (λ q. c.pinned.result)) c.in-Some.next.0
          (limited-alike (is_pinned (pins_of c.args.pins.now) c.args.koid.0) c.pinned.result c.in-Some.next.0 (c.pinned.ensures ∙ pinned-one (pins_of c.args.pins.now) c.args.koid.0 c.in-Some.next.0))
          (limited-leaves (is_pinned (pins_of c.args.pins.now) c.args.koid.0)) (rows_of c.restrict_page.new.self) inv.first some.0 some.2 c.restrict_page.ensures.rows;
      spare = c.restrict_page.ensures.spare ∙ inv.spare;
    }

pub returns-clause-rows : goal.returns-clause-rows
returns-clause-rows c =
    let inv = c.loop-next.invariant in
    changed-end (row_limited (is_pinned (pins_of c.args.pins.now) c.args.koid.0)) c.args.koid.0 c.args.first c.loop-next.from c.args.end (rows_of c.args.self.now) (rows_of c.loop-next.self) inv.rows inv.end c.in_default.ensures.none
