use Rattle.std.proofs.lemmas.List.{get_or_read}
use Rattle.frame_pool.specs.Pool.{no_link}
use Rattle.frame_pool.proofs.PoolLaws.{has_link, has_link_at}
use Rattle.frame_pool.proofs.frame_pool.FramePool.backlink.Goals as goal

pub index-requires : goal.index-requires
index-requires c = has_link c.self.inside c.args.tag.0 c.self.invariant (rw (← c.self.view_is) at c.requires)

pub returns : goal.returns
returns c = rw (← c.self.view_is) (get_or_read c.self.inside.links.items c.args.tag.0 _
    (has_link_at c.self.inside c.args.tag.0 c.self.invariant (rw (← c.self.view_is) at c.requires)) c.index.ensures no_link)
