use Rattle.std.proofs.Common.{ap, ◌∙◌}
use Rattle.fault.specs.Table.{Places, translations_of, with_translation, is_outdated, translated_frame}
use Rattle.fault.proofs.ForgettingLaws.{gone-here}
use Rattle.fault.proofs.PlaceLaws.{places-without, places-set}
use Rattle.fault.proofs.translations.Translations.translate.Goals as goal

pub add-requires-clause-absent : goal.add-requires-clause-absent
add-requires-clause-absent c =
    gone-here (translations_of c.args.self.now) (translations_of c.forget_others-first.new.self) c.args.root.0 c.args.page c.args.translation c.requires.same
    c.requires.other c.forget_others-first.ensures.at

pub returns-clause-at : goal.returns-clause-at
returns-clause-at c =
    let x = c.args.translation in
    places-set _ (translations_of c.forget_others-first.new.self) c.args.root.0 c.args.page x c.add.ensures.at
    ∙ ap (λ (places : Places). with_translation places c.args.root.0 c.args.page x)
    (places-without (is_outdated x.entry.koid.0 x.entry.page (translated_frame x)) (translations_of c.forget_others-first.new.self) (translations_of c.args.self.now) c.forget_others-first.ensures.at)
