use Rattle.std.proofs.Common.{◌∙◌}
use Rattle.checker_ready.specs.Notes.{rows_of}
use Rattle.checker_ready.proofs.RowLaws.{dropped-after, dropped-done}
use Rattle.checker_ready.proofs.ready_map.ReadyMap.drop_range.Goals as goal

pub loop-page-preserved : goal.loop-page-preserved
loop-page-preserved c =
    let some = c.in-Some.ensures.some in
    let inv = c.loop-page.invariant in
    record {
      rest = dropped-after (rows_of c.loop-page.self) (rows_of c.drop_place.new.self) c.args.root.0 c.args.first c.args.end c.in-Some.page some.0 some.1 c.drop_place.ensures.rows ∙ inv.rest;
      spare = c.drop_place.ensures.spare ∙ inv.spare;
    }

pub returns-clause-rows : goal.returns-clause-rows
returns-clause-rows c = dropped-done c.loop-page.self c.args.root.0 c.args.first c.args.end c.in_default.ensures.none ∙ c.loop-page.invariant.rest
