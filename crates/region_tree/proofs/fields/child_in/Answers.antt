use Rattle.std.proofs.Common.{subst}
use Rattle.std.specs.Option.{option_map}
use Rattle.balanced_tree.specs.Pairs.{IsNext}
use Rattle.pair_map.specs.Maps.{extents_of}
use Rattle.region_tree.proofs.BelowLaws.{between-next, none-next, none-past}
use Rattle.region_tree.proofs.fields.child_in.Goals as goal

pub returns-in-Some : goal.returns-in-Some
returns-in-Some c =
    between-next _ c.len-apart.ensures.apart c.args.region.0 c.args.first c.args.count _ c.saturating_add-end.ensures c.in-Some.start c.in-Some.extent
    c.in-Some.ensures.next c.in-Some.ensures.extent c.if-start-extent.true

pub returns-in_default : goal.returns-in_default
returns-in_default c =
    none-past _ c.len-apart.ensures.apart c.args.region.0 c.args.first c.args.count _ c.saturating_add-end.ensures c.in-Some.start c.in-Some.extent
    c.in-Some.ensures.next c.in-Some.ensures.extent c.if-start-extent.false

pub returns-in_default-2 : goal.returns-in_default-2
returns-in_default-2 c =
    none-next _ c.len-apart.ensures.apart c.args.region.0 c.args.first c.args.count _ c.saturating_add-end.ensures
    (subst (λ o. IsNext (extents_of c.args.children.now c.args.region.0) c.args.first (option_map (λ pair. pair.0) o)) c.in_default.is c.next.ensures.next)
