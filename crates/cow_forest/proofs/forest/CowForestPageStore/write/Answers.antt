use Rattle.cow_forest.proofs.Words.{forest_of}
use Rattle.cow_forest.proofs.FrameLaws.{once-taken, store-written, overwrites}
use Rattle.cow_forest.proofs.forest.CowForestPageStore.write.Goals as goal

pub write-requires-clause-taken : goal.write-requires-clause-taken
write-requires-clause-taken c = once-taken (forest_of c.self.inside) c.self.invariant.store c.args.tag.0 (rw (← c.self.view_is) at c.requires.shown)

pub invariant_of-self : goal.invariant_of-self
invariant_of-self c = record {
  store = store-written (forest_of c.self.inside) c.self.invariant.store c.write.new.self c.args.tag.0 c.args.at c.args.bytes.now
      (rw (← c.self.view_is) at c.requires.shown) c.write.ensures.frames c.write.ensures.links c.write.ensures.taken;
  jumps = c.self.invariant.jumps;
  founders = c.self.invariant.founders;
}

pub returns-clause-bytes : goal.returns-clause-bytes
returns-clause-bytes c =
    rw (← c.self.view_is) (overwrites (forest_of c.self.inside) c.self.invariant.store c.write.new.self c.args.tag.0 c.args.at c.args.bytes.now
    (rw (← c.self.view_is) at c.requires.shown) c.write.ensures.frames c.write.ensures.links c.write.ensures.taken)
