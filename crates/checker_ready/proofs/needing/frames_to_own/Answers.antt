use Rattle.page_store.specs.Flat.{flat_content}
use Rattle.checker_ready.proofs.NeedLaws.{need-none}
use Rattle.checker_ready.proofs.needing.frames_to_own.Goals as goal

pub returns-in-No : goal.returns-in-No
returns-in-No c = rw c.in-No.is (need-none (flat_content c.args.pages.now))
