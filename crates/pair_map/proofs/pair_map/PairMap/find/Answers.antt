use Rattle.std.proofs.Common.{sym, ap, ◌∙◌}
use Rattle.std.specs.Option.{option_map}
use Rattle.balanced_tree.proofs.PairLaws.{value-seen}
use Rattle.pair_map.specs.PairRows.{value_of}
use Rattle.pair_map.specs.PairRows.{pair_rows}
use Rattle.pair_map.proofs.MapLaws.{seen_rows}
use Rattle.pair_map.proofs.pair_map.PairMap.find.Goals as goal

pub returns : goal.returns
returns g c =
    c.value_in.ensures
    ∙ (ap (option_map value_of) c.find.ensures
    ∙ sym (value-seen pair_rows _ _ (seen_rows c.self.view_is) c.args.first c.args.second _ c.ranges.second.fits c.pair_rank.ensures))
