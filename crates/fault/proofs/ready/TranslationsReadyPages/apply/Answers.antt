use Rattle.std.proofs.Common.{ap}
use Rattle.pin_table.specs.Table.{pins_of}
use Rattle.fault.specs.Table.{translations_of, readiness_of, ready_of}
use Rattle.fault.proofs.ReadyLaws.{ready-left, AreTrue-changed, none_ready}
use Rattle.fault.proofs.ready.TranslationsReadyPages.apply.Goals as goal

pub returns-then-is_empty-clause-left : goal.returns-then-is_empty-clause-left
returns-then-is_empty-clause-left g c = λ old before after true_of covers.
    none_ready old (g.P.PageStore.content c.args.pages.now) before after (pins_of c.args.pins.now) c.args.change (ready_of (translations_of c.args.self.now))
    (λ root p. ap readiness_of (c.is_empty.ensures.0 c.if-is_empty.true root p))

pub returns-clause-left : goal.returns-clause-left
returns-clause-left g c = λ old before after true_of covers.
    ready-left old (g.P.PageStore.content c.args.pages.now) before after (translations_of c.args.self.now) true_of (pins_of c.args.pins.now) c.args.change
    c.requires.bounded covers (translations_of c.take_back.new.self) c.take_back.ensures

pub returns-clause-notes : goal.returns-clause-notes
returns-clause-notes g c = λ old before after true_of covers.
    AreTrue-changed old (g.P.PageStore.content c.args.pages.now) before after (translations_of c.args.self.now) true_of (pins_of c.args.pins.now) c.args.change
    c.requires.bounded covers (translations_of c.take_back.new.self) c.take_back.ensures
