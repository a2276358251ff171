use Rattle.reply_text.proofs.LineLaws.{address_front, address_is}
use Rattle.reply_text.proofs.reading.read_address.Goals as goal

pub returns-in_default : goal.returns-in_default
returns-in_default c = λ address h e. c.in_default.ensures _ (address_front c.args.line.now address e)

pub returns : goal.returns
returns c = address_is c.args.line.now c.in-Some.word.now c.spelled.result c.in-Some.ensures c.spelled.ensures
