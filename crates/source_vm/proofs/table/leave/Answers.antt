use Rattle.std.proofs.Common.{◌∙◌, refl, sym}
use Rattle.source_vm.specs.Table.{backings_of, loose_links_of}
use Rattle.source_vm.proofs.TableLaws.{no_backing, pairs-without, AreIndexed-same, AreIndexed-unlinked, without_key-none}
use Rattle.source_vm.proofs.table.leave.Goals as goal

pub returns-in-Some-clause-backings : goal.returns-in-Some-clause-backings
returns-in-Some-clause-backings c =
    sym (without_key-none (backings_of c.args.table.now) c.args.v.0
    (no_backing _ _ c.in-Some.link c.requires.either (sym c.find.ensures ∙ c.in-Some.is)))

pub returns-in-Some-clause-links : goal.returns-in-Some-clause-links
returns-in-Some-clause-links c = pairs-without _ _ _ c.remove.ensures.values

pub returns-in-Some-clause-indexed : goal.returns-in-Some-clause-indexed
returns-in-Some-clause-indexed c =
    AreIndexed-same _ _ _ _ _ _ _ _ refl refl (pairs-without _ _ _ c.remove.ensures.values) refl
    (AreIndexed-unlinked _ _ _ _ _ c.requires.indexed c.args.v.0 c.in-Some.link (sym c.find.ensures ∙ c.in-Some.is) c.remove-in-Some.ensures.values)

pub returns-in-None-clause-backings : goal.returns-in-None-clause-backings
returns-in-None-clause-backings c = pairs-without _ _ _ c.remove-in-None.ensures.values

pub returns-in-None-clause-links : goal.returns-in-None-clause-links
returns-in-None-clause-links c =
    sym (without_key-none (loose_links_of c.args.table.now) c.args.v.0 (sym c.find.ensures ∙ c.in-None.is))
