use Rattle.std.proofs.Common.{sym, ap, ◌∙◌}
use Rattle.std.specs.Option.{option_map}
use Rattle.balanced_tree.proofs.PairLaws.{value-seen}
use Rattle.pair_map.specs.StretchRows.{extent_of, stretch_rows}
use Rattle.pair_map.proofs.MapLaws.{seen_rows}
use Rattle.pair_map.proofs.extent_map.ExtentMap.find.Goals as goal

pub returns : goal.returns
returns g c =
    c.extent_in.ensures
    ∙ (ap (option_map extent_of) c.find.ensures
    ∙ sym (value-seen stretch_rows _ _ (seen_rows c.self.view_is) c.args.list c.args.first _ c.ranges.first.fits c.pair_rank.ensures))
