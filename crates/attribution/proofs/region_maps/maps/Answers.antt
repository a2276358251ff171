use Rattle.std.proofs.Common.{sym, ◌∙◌}
use Rattle.vm_base.proofs.EntryLaws.{passes-some}
use Rattle.vm_model.proofs.RegionLaws.{region_bounds}
use Rattle.attribution.proofs.region_maps.maps.Goals as goal

pub runs_in-requires : goal.runs_in-requires
runs_in-requires c =
    let given = sym c.in-Some.ensures.region in
    (region_bounds _ c.in-Some.ensures.good _ _ given (sym (passes-some _ _ _ given) ∙ c.requires.live)).0
