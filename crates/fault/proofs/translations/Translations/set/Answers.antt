use Rattle.std.proofs.Common.{◌∙◌}
use Rattle.fault.specs.Table.{translations_of}
use Rattle.fault.proofs.ForgettingLaws.{set-elsewhere}
use Rattle.fault.proofs.PlaceLaws.{places-set}
use Rattle.fault.proofs.translations.Translations.set.Goals as goal

pub put-requires-clause-link : goal.put-requires-clause-link
put-requires-clause-link c = c.in-Some.ensures.some

pub put-requires-clause-may : goal.put-requires-clause-may
put-requires-clause-may c = c.in-Some.ensures.may

pub returns-in-Some-clause-at : goal.returns-in-Some-clause-at
returns-in-Some-clause-at c =
    places-set _ (translations_of c.args.self.now) c.args.root.0 c.args.page c.args.translation c.put.ensures.at
    ∙ set-elsewhere (translations_of c.args.self.now) c.args.root.0 c.args.page c.args.translation c.put.ensures.others
