use Rattle.std.proofs.Common.{◌+◌, subst}
use Rattle.region_tree.specs.Tree.{regions_of, IsWithin}
use Rattle.region_tree.specs.inside.TreeFields.{HasNoneOver}
use Rattle.region_tree.proofs.BelowLaws.{between-within, step-under, none-over, over-step, deeper-child}
use Rattle.region_tree.proofs.tree.Regions.within_over.Goals as goal

pub returns-in-Some-clause-within : goal.returns-in-Some-clause-within
returns-in-Some-clause-within c =
    subst (λ t. IsWithin (regions_of t) c.args.region.0 c.args.first (c.args.first + c.args.count) c.in-Some.name.0) c.self.view_is
    (between-within _ _ c.self.invariant c.args.region.0 c.descent.above.0 c.args.first _ c.in-Some.name.0 c.descent.invariant.under c.in-Some.ensures)

pub returns-in_default-at-clause-within : goal.returns-in_default-at-clause-within
returns-in_default-at-clause-within c =
    subst (λ t. HasNoneOver (regions_of t) c.args.region.0 c.args.page c.args.first (c.args.first + c.args.count)) c.self.view_is
    (c.descent.invariant.rest (none-over _ _ c.self.invariant c.descent.above.0 c.args.page c.args.first _ c.in_default.ensures c.in_default-at.ensures))

pub descent-smaller : goal.descent-smaller
descent-smaller c = deeper-child _ _ c.self.invariant _ _ c.in-Some-at.extent c.in-Some-at.ensures.is

pub descent-preserved : goal.descent-preserved
descent-preserved c = record {
  under = step-under _ _ c.self.invariant c.args.region.0 c.descent.above.0 _ c.in-Some-at.extent c.descent.invariant.under c.in-Some-at.ensures.is;
  rest = λ none.
      c.descent.invariant.rest (over-step _ _ c.self.invariant c.len-apart.ensures.apart c.descent.above.0 c.args.page c.args.first _ _ c.in-Some-at.extent
      c.in_default.ensures c.in-Some-at.ensures none);
}
