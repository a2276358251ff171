use Rattle.reply_text.proofs.LineLaws.{pins_front, pins_is}
use Rattle.reply_text.proofs.reading.read_pins.Goals as goal

pub returns-in_default : goal.returns-in_default
returns-in_default c = λ numbers few fits e. c.in_default.ensures _ (pins_front c.args.line.now numbers e)

pub returns : goal.returns
returns c = pins_is c.args.line.now c.in-Some.text.now c.numbers_of.result c.in-Some.ensures c.numbers_of.ensures
