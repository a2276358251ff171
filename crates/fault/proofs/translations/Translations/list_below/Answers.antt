use Rattle.std.proofs.Common.{arith}
use Rattle.fault.specs.Table.{translations_of}
use Rattle.fault.proofs.WalkLaws.{no_list_empty, no_list_one, next_list_one}
use Rattle.fault.proofs.translations.Translations.list_below.Goals as goal

pub returns-then-end-from : goal.returns-then-end-from
returns-then-end-from c = no_list_empty (translations_of c.args.self.now) c.args.v.0 c.args.from c.args.end c.if-end-from.true

pub returns-in-Some : goal.returns-in-Some
returns-in-Some c =
    (next_list_one (translations_of c.args.self.now) c.args.v.0 c.args.from c.args.end (omega arith), c.in-Some.ensures.0, c.in-Some.ensures.1)

pub returns-in-None : goal.returns-in-None
returns-in-None c = no_list_one (translations_of c.args.self.now) c.args.v.0 c.args.from c.args.end (omega arith) c.in-None.ensures.1
