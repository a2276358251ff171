use Rattle.fault.specs.Table.{translations_of}
use Rattle.vm_model.specs.Space.Readiness.{frame_number}
use Rattle.fault.proofs.ForgettingLaws.{outdated-none, HasFrame-none}
use Rattle.fault.proofs.translations.Translations.forget_others.Goals as goal

pub returns-in-None-clause-at : goal.returns-in-None-clause-at
returns-in-None-clause-at c = outdated-none (translations_of c.args.self.now) c.args.v.0 c.args.page (frame_number c.args.frame) c.in-None.ensures.1

pub returns-in-None-clause-frame : goal.returns-in-None-clause-frame
returns-in-None-clause-frame c = HasFrame-none (translations_of c.args.self.now) c.args.v.0 c.args.page c.args.frame c.in-None.ensures.1
