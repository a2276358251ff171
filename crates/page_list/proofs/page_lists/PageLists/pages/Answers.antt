use Rattle.page_list.proofs.FilterLaws.{bare-clear}
use Rattle.page_list.proofs.page_lists.PageLists.pages.Goals as goal

pub returns : goal.returns
returns c = bare-clear _ c.self.view_is c.self.invariant c.args.list.0 c.word.result c.word.ensures
