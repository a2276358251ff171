use Rattle.page_store.specs.Flat.{flat_content}
use Rattle.std.proofs.Common.{sym, ◌∙◌}
use Rattle.checker_ready.proofs.StampLaws.{has_frame-is}
use Rattle.checker_ready.proofs.stamps.has_frame.Goals as goal

pub returns-then-is_same_frame : goal.returns-then-is_same_frame
returns-then-is_same_frame c =
    has_frame-is (flat_content c.args.pages.now) c.args.koid.0 c.args.page c.count.result c.args.frame c.frame_at.result (sym c.is_same_frame.ensures ∙ c.if-is_same_frame.true) c.frame_at.ensures c.count.ensures
