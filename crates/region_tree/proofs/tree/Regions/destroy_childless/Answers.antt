use Rattle.std.proofs.Common.{false, refl, ◌∙◌}
use Rattle.region_tree.proofs.PlaceLaws.{seen}
use Rattle.region_tree.proofs.TreeLaws.{put-seen, killed-one, its-place, IsTree-same, IsTree-without}
use Rattle.region_tree.proofs.tree.Regions.destroy_childless.Goals as goal

pub leave_parent-requires : goal.leave_parent-requires
leave_parent-requires c =
    its-place _ _ (seen c.self.view_is c.self.invariant) c.args.region.0 c.args.dying c.requires.dying c.requires.childless
    c.requires.live _ refl

pub returns : goal.returns
returns c =
    put-seen c.self.view_is c.args.region.0 (record c.args.dying { live = false }) refl c.replace.ensures.values
    ∙ killed-one _ _ (seen c.self.view_is c.self.invariant) c.args.region.0 c.args.dying c.requires.dying

pub invariant_of-self : goal.invariant_of-self
invariant_of-self c =
    let tree = seen c.self.view_is c.self.invariant in
    let given = c.requires.dying in
    IsTree-same (put-seen c.self.view_is c.args.region.0 (record c.args.dying { live = false }) refl c.replace.ensures.values
    ∙ killed-one _ _ tree c.args.region.0 c.args.dying given) refl
    (IsTree-without _ _ tree c.args.region.0 c.args.dying given c.requires.childless c.requires.live _ _ refl c.leave_parent.ensures)
