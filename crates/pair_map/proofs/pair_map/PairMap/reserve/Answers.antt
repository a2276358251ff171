use Rattle.std.proofs.Common.{ap, ◌∙◌}
use Rattle.balanced_tree.specs.Pairs.{value_at}
use Rattle.pair_map.specs.PairRows.{pair_functions, value_of}
use Rattle.pair_map.proofs.MapLaws.{seen_rows}
use Rattle.pair_map.proofs.pair_map.PairMap.reserve.Goals as goal

pub returns-clause-values : goal.returns-clause-values
returns-clause-values g c =
    ap (value_at pair_functions value_of) (c.reserve.ensures.rows ∙ seen_rows c.self.view_is)
