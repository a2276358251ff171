use Rattle.std.proofs.Common.{ap, sym, subst, ◌∙◌}
use Rattle.std.proofs.Common.{is_some, rules}
use Rattle.pair_map.specs.Maps.{IsOpen}
use Rattle.mapping_set.proofs.TakenLaws.{place-less, meeting-place, meeting-not_open}
use Rattle.mapping_set.proofs.taken.clear_places.Goals as goal

pub remove-requires : goal.remove-requires
remove-requires c = ap is_some c.in-Some.ensures.is

pub loop-start-preserved : goal.loop-start-preserved
loop-start-preserved c =
    let bare = subst (λ m. IsOpen (m c.args.list) c.args.first c.args.count) (sym c.loop-start.invariant.pieces) c.requires.bare in
    record {
      pieces = (place-less _ _ _ _ (meeting-place _ _ _ _ _ bare c.in-Some.ensures) c.remove.ensures.extents).0 ∙ c.loop-start.invariant.pieces;
      same = λ vacant. absurd (meeting-not_open _ _ _ _ (subst (λ m. IsOpen (m c.args.list) c.args.first c.args.count) (sym (c.loop-start.invariant.same vacant)) vacant) c.in-Some.ensures);
      spare = search rules;
    }
