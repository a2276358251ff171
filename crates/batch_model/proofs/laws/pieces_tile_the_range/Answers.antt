use Rattle.batch_model.proofs.TileLaws.{Tiles-from_run, times_in-tiles}
use Rattle.batch_model.proofs.laws.pieces_tile_the_range.Goals as goal

pub returns-clause-tiles : goal.returns-clause-tiles
returns-clause-tiles c = λ old name job events there of_pages run lasts gone. Tiles-from_run name old job events there of_pages run lasts gone

pub returns-clause-once : goal.returns-clause-once
returns-clause-once c = λ first end p parts begins tiles. times_in-tiles first parts end p begins tiles
