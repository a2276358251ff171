use Rattle.std.proofs.Common.{refl, inl, inr, ◌∙◌, arith}
use Rattle.page_store.specs.Flat.{flat_content}
use Rattle.checker_ready.specs.Notes.{rows_of, row_if_current}
use Rattle.checker_ready.proofs.RowLaws.{changed-start, changed-next, changed-end, current-leaves}
use Rattle.checker_ready.proofs.ready_map.ReadyMap.settle.Goals as goal

pub loop-next-init : goal.loop-next-init
loop-next-init c = record {
  first = omega arith;
  end = inr refl;
  rows = changed-start (row_if_current (flat_content c.args.pages.now)) c.args.koid.0 c.args.first (rows_of c.args.self.now);
  spare = refl;
}

pub loop-next-smaller : goal.loop-next-smaller
loop-next-smaller c = let some = c.in-Some.ensures.some in omega (arith, some.0, some.1)

pub loop-next-preserved : goal.loop-next-preserved
loop-next-preserved c =
    let some = c.in-Some.ensures.some in
    let inv = c.loop-next.invariant in
    record {
      first = omega (arith, some.0, inv.first);
      end = inl (omega (arith, some.1));
      rows = changed-next (row_if_current (flat_content c.args.pages.now)) c.args.koid.0 c.args.first c.loop-next.from c.args.end (rows_of c.args.self.now) (rows_of c.loop-next.self) inv.rows
          (row_if_current (flat_content c.args.pages.now)) c.in-Some.next.0 (λ x same. refl) (current-leaves (flat_content c.args.pages.now)) (rows_of c.settle_page.new.self) inv.first some.0 some.2 c.settle_page.ensures.rows;
      spare = c.settle_page.ensures.spare ∙ inv.spare;
    }

pub returns-clause-rows : goal.returns-clause-rows
returns-clause-rows c =
    let inv = c.loop-next.invariant in
    changed-end (row_if_current (flat_content c.args.pages.now)) c.args.koid.0 c.args.first c.loop-next.from c.args.end (rows_of c.args.self.now) (rows_of c.loop-next.self) inv.rows inv.end c.in_default.ensures.none
