use Rattle.frame_pool.proofs.PoolLaws.{takes_kept, takes_itself, takes_copied}
use Rattle.frame_pool.proofs.frame_pool.FramePool.take_copy.Goals as goal

pub copy-requires-clause-from : goal.copy-requires-clause-from
copy-requires-clause-from c = rw (takes_kept _ _ _ _ c.in_ok-to.ensures.some c.args.from.0 c.requires) c.requires

pub copy-requires-clause-to : goal.copy-requires-clause-to
copy-requires-clause-to c = takes_itself _ _ _ _ c.in_ok-to.ensures.some

pub returns-clause-some : goal.returns-clause-some
returns-clause-some c =
    takes_copied _ _ _ _ c.in_ok-to.ensures.some c.copy.new.self c.args.from.0 c.requires c.copy.ensures.taken
