use Rattle.std.proofs.Common.{sym, ◌∙◌}
use Rattle.std.proofs.lemmas.Bool.{not-false}
use Rattle.vm_base.proofs.EntryLaws.{passes-some}
use Rattle.vm_model.specs.declared.space.Region.{Region}
use Rattle.region_ops.proofs.PlaceLaws.{live_end}
use Rattle.region_tree.specs.Tree.{regions_of}
use Rattle.region_ops.proofs.placing.ask_for_region.Goals as goal

pub returns : goal.returns
returns c =
    let given = sym c.get.ensures.region ∙ c.in-Some.is in
    let live = not-false _ c.if-not-region.false in
    (given, live, live_end _ _ _ c.get.ensures.good given (passes-some (λ (r : Region). r.live) (regions_of c.args.regions.now c.args.name.0) _ given ∙ live))
