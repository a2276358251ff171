use Rattle.page_list.proofs.FilterLaws.{bit-read}
use Rattle.page_list.proofs.filter.Filter.may_have.Goals as goal

pub returns : goal.returns
returns c = bit-read c.args.self.now c.args.list c.args.page c.word.result c.word.ensures
