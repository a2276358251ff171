use Rattle.std.proofs.Common.{sym, ◌∙◌, inr}
use Rattle.std.proofs.lemmas.Bool.{not-false}
use Rattle.region_tree.proofs.BelowLaws.{parent-within}
use Rattle.region_tree.proofs.TreeLaws.{given-seen}
use Rattle.region_tree.proofs.PlaceLaws.{seen}
use Rattle.region_tree.proofs.tree.Regions.start_above.Goals as goal

pub returns : goal.returns
returns c =
    let gone = c.requires in
    let above = given-seen c.self.view_is c.in-Some.parent.0 c.in-Some-find.above (sym c.in-Some-find.ensures) in
    inr (parent-within _ (seen c.self.view_is c.self.invariant).good c.args.region.0 c.args.first _ gone.name gone.region c.in-Some-find.above c.in-Some.parent
    gone.below gone.given (gone.parent_is ∙ c.in-Some.is) (sym c.eq.ensures ∙ c.if-eq.false) above (not-false c.in-Some-find.above.live c.if-not-above.false) (sym c.lies_in.ensures ∙ c.if-not-lies_in.false))
