use Rattle.frame_pool.specs.inside.PoolFields.{pool_of}
use Rattle.frame_pool.proofs.PoolLaws.{has_link, links_of-noted, IsPool-linked, taken_frames-linked}
use Rattle.frame_pool.proofs.frame_pool.FramePool.set_backlink.Goals as goal

pub index_mut-requires : goal.index_mut-requires
index_mut-requires c = has_link c.self.inside c.args.tag.0 c.self.invariant (rw (← c.self.view_is) at c.requires)

pub invariant_of-self : goal.invariant_of-self
invariant_of-self c = record {
  pool = IsPool-linked (pool_of c.self.inside) _ c.self.invariant.pool;
  marked = c.self.invariant.marked;
  buffer_room = c.self.invariant.buffer_room;
  blank_room = c.self.invariant.blank_room;
  idle_room = c.self.invariant.idle_room;
  linked = c.self.invariant.linked;
}

pub returns-clause-taken : goal.returns-clause-taken
returns-clause-taken c = rw (← c.self.view_is) (taken_frames-linked (pool_of c.self.inside) _)

pub returns-clause-links : goal.returns-clause-links
returns-clause-links c =
    rw (← c.self.view_is) (links_of-noted c.self.inside c.args.tag.0 c.self.invariant (rw (← c.self.view_is) at c.requires) c.args.link)
