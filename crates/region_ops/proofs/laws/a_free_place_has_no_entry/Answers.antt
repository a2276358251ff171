use Rattle.region_ops.proofs.HolderLaws.{free_bare}
use Rattle.region_ops.proofs.laws.a_free_place_has_no_entry.Goals as goal

pub returns : goal.returns
returns c = free_bare
