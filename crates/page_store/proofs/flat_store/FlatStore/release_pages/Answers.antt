use Rattle.std.proofs.Common.{◌∙◌}
use Rattle.page_store.specs.Flat.{flat_content}
use Rattle.page_store.proofs.SnapshotLaws.{zeroed-after, zeroed-done}
use Rattle.page_store.proofs.flat_store.FlatStore.release_pages.Goals as goal

pub loop-page-preserved : goal.loop-page-preserved
loop-page-preserved c =
    let inv = c.loop-page.invariant in
    record {
      rest = zeroed-after (flat_content c.loop-page.self) (flat_content c.release_page.new.self) c.args.v.0 c.args.first c.args.end _ c.in-Some.ensures.some c.release_page.ensures.content ∙ inv.rest;
      spare = c.release_page.ensures.spare ∙ inv.spare;
    }

pub returns-clause-content : goal.returns-clause-content
returns-clause-content c = zeroed-done (flat_content c.loop-page.self) c.args.v.0 c.args.first c.args.end c.in_default.ensures.none ∙ c.loop-page.invariant.rest
