use Rattle.std.proofs.Common.{sym, ◌∙◌}
use Rattle.fault.specs.Table.{translations_of}
use Rattle.fault.proofs.ForgettingLaws.{outdated-same, outdated-all, HasFrame-same, HasFrame-dropped}
use Rattle.fault.proofs.translations.Translations.forget_other.Goals as goal

pub returns-then-have_same_frame-clause-at : goal.returns-then-have_same_frame-clause-at
returns-then-have_same_frame-clause-at c =
    outdated-same (translations_of c.args.self.now) c.args.v.0 c.args.page c.args.list.frame c.requires.frame c.args.frame (sym c.have_same_frame.ensures ∙ c.if-have_same_frame.true)

pub returns-then-have_same_frame-clause-frame : goal.returns-then-have_same_frame-clause-frame
returns-then-have_same_frame-clause-frame c =
    HasFrame-same (translations_of c.args.self.now) c.args.v.0 c.args.page c.args.list.frame c.requires.frame c.args.frame (sym c.have_same_frame.ensures ∙ c.if-have_same_frame.true)

pub returns-clause-at : goal.returns-clause-at
returns-clause-at c =
    outdated-all (translations_of c.args.self.now) c.args.v.0 c.args.page c.args.list.frame c.requires.frame c.args.frame (translations_of c.drop_list.new.self) c.drop_list.ensures.at
    (sym c.have_same_frame.ensures ∙ c.if-have_same_frame.false)

pub returns-clause-frame : goal.returns-clause-frame
returns-clause-frame c =
    HasFrame-dropped (translations_of c.args.self.now) c.args.v.0 c.args.page c.args.list.frame c.requires.frame c.args.frame (translations_of c.drop_list.new.self) c.drop_list.ensures.at
