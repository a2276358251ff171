use Rattle.std.proofs.Common.{sym, ap, ◌∙◌}
use Rattle.pair_map.specs.Maps.{values_of}
use Rattle.page_store.proofs.LinkLaws.{pair-same}
use Rattle.checker_ready.specs.Notes.{lowered}
use Rattle.checker_ready.proofs.StampLaws.{none_else, lowered-old}
use Rattle.checker_ready.proofs.stamps.lower.Goals as goal

pub returns-in_default-clause-values : goal.returns-in_default-clause-values
returns-in_default-clause-values c =
    let none = sym c.find.ensures ∙ none_else c.find.result c.in_default.not-Some in
    pair-same (values_of c.args.stamps.now) c.args.kept.koid.0 c.args.kept.page (lowered c.args.kept.made (values_of c.args.stamps.now c.args.kept.koid.0 c.args.kept.page))
    (none ∙ sym (ap (lowered c.args.kept.made) none))

pub returns-then-kept-stamp-clause-values : goal.returns-then-kept-stamp-clause-values
returns-then-kept-stamp-clause-values c =
    let found = sym c.find.ensures ∙ c.in-Some.is in
    pair-same (values_of c.args.stamps.now) c.args.kept.koid.0 c.args.kept.page (lowered c.args.kept.made (values_of c.args.stamps.now c.args.kept.koid.0 c.args.kept.page))
    (found ∙ sym (ap (lowered c.args.kept.made) found ∙ lowered-old c.args.kept.made c.in-Some.stamp c.if-kept-stamp.true))
