use Rattle.std.proofs.Common.{Some}
use Rattle.fault.specs.Table.{translations_of}
use Rattle.fault.proofs.ForgettingLaws.{HoldsOther-none}
use Rattle.fault.proofs.translations.Translations.translate_to_write.Goals as goal

pub translate-requires-clause-other : goal.translate-requires-clause-other
translate-requires-clause-other c =
    HoldsOther-none (translations_of c.args.self.now c.args.root.0 c.args.page) (Some c.args.tag.0) (c.requires.absent c.if-found.false)
