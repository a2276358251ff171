use Rattle.std.proofs.Common.{not, ap, subst, ◌∙◌}
use Rattle.std.specs.Option.{option_map}
use Rattle.vm_base.proofs.EntryLaws.{none_is}
use Rattle.balanced_tree.specs.Pairs.{IsNext}
use Rattle.pair_map.specs.Maps.{extents_of}
use Rattle.mapping_set.proofs.TakenLaws.{as-piece, passed-all, passed-place}
use Rattle.mapping_set.proofs.taken.first_piece.Goals as goal

pub returns-then-is_none : goal.returns-then-is_none
returns-then-is_none c =
    (as-piece _ c.args.list c.in-Some.first c.in-Some.extent c.in-Some.ensures.extent
    (none_is c.in-Some.extent.value (c.is_none.ensures ∙ ap not c.if-is_none.true))).0

pub search-preserved : goal.search-preserved
search-preserved c = record {
  passed = passed-place _ c.args.list c.search.from c.search.invariant.passed c.in-Some.first c.in-Some.extent c.in-Some.ensures.next c.in-Some.ensures.extent
      (c.is_none.ensures ∙ ap not c.if-is_none.false);
}

pub returns : goal.returns
returns c =
    passed-all _ c.args.list c.search.from c.search.invariant.passed
    (subst (λ o. IsNext (extents_of c.args.taken.now c.args.list) c.search.from (option_map (λ pair. pair.0) o)) c.in_default.is c.next.ensures.next)
