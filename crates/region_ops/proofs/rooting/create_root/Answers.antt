use Rattle.std.proofs.Common.{refl, sym, ◌∙◌}
use Rattle.vm_model.specs.Space.Regions.{root_region}
use Rattle.region_tree.specs.Tree.{regions_of}
use Rattle.region_tree.proofs.NotedLaws.{AreNoted-root, none_given}
use Rattle.region_ops.proofs.rooting.create_root.Goals as goal

pub returns-in-Ok-clause-noted : goal.returns-in-Ok-clause-noted
returns-in-Ok-clause-noted c =
    rw c.in-Ok.ensures.ok (AreNoted-root (regions_of c.args.regions.now) _ c.requires c.args.name.0
    (sym c.get.ensures.region ∙ none_given _ (sym c.is_some.ensures ∙ c.if-is_some.false)) (root_region c.args.name.0) refl)
