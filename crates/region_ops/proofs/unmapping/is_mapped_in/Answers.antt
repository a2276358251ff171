use Rattle.region_ops.proofs.UnmapLaws.{mapped_next, mapped_none}
use Rattle.region_ops.proofs.unmapping.is_mapped_in.Goals as goal

pub returns-in-Some : goal.returns-in-Some
returns-in-Some c = mapped_next _ _ _ c.in-Some.piece c.in-Some.ensures.piece

pub returns-in-None : goal.returns-in-None
returns-in-None c = mapped_none _ _ _ c.in-None.ensures.piece
