use Rattle.std.proofs.Common.{◌∙◌}
use Rattle.fault.specs.Table.{translations_of}
use Rattle.vm_model.specs.Space.Readiness.{frame_number}
use Rattle.fault.proofs.ForgettingLaws.{HoldsOther-none}
use Rattle.fault.proofs.TouchingLaws.{ReadsPage-translated}
use Rattle.fault.proofs.TranslationLaws.{IsOfEntry-none}
use Rattle.fault.proofs.translations.Translations.read_page.Goals as goal

pub returns-in-Some-clause-bytes : goal.returns-in-Some-clause-bytes
returns-in-Some-clause-bytes g c =
    rw (← (c.requires.found.of_entry c.in-Some.translation c.in-Some.is).same) c.read_frame.ensures

pub translate-requires-clause-same : goal.translate-requires-clause-same
translate-requires-clause-same g c =
    IsOfEntry-none (translations_of c.args.self.now) c.args.root.0 c.args.page c.to_read-translation.result.entry (c.requires.found.translation ∙ c.in-None.is)

pub translate-requires-clause-other : goal.translate-requires-clause-other
translate-requires-clause-other g c =
    HoldsOther-none (translations_of c.args.self.now c.args.root.0 c.args.page) (frame_number c.to_read-translation.result.frame) (c.requires.found.translation ∙ c.in-None.is)

pub returns-in-None-clause-places : goal.returns-in-None-clause-places
returns-in-None-clause-places g c =
    ReadsPage-translated _ c.args.root.0 c.args.page c.args.touched (translations_of c.args.self.now) (translations_of c.translate.new.self) _
    c.requires.found c.in-None.is c.to_read-translation.ensures.of_entry c.to_read-translation.ensures.readiness c.translate.ensures.at
