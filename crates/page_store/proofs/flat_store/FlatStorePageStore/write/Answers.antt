use Rattle.page_store.specs.Flat.{flat_of}
use Rattle.page_store.proofs.FrameLaws.{shown_taken, IsShown-once, overwrites, stays_flat}
use Rattle.page_store.proofs.flat_store.FlatStorePageStore.write.Goals as goal

pub write-requires-clause-taken : goal.write-requires-clause-taken
write-requires-clause-taken c = shown_taken (flat_of c.self.inside) c.self.invariant.flat c.args.tag.0 (IsShown-once _ _ (rw (← c.self.view_is) at c.requires.shown))

pub invariant_of-self : goal.invariant_of-self
invariant_of-self c = record {
  flat = stays_flat (flat_of c.self.inside) c.self.invariant.flat c.args.tag c.write.new.self c.args.at c.args.bytes.now (rw (← c.self.view_is) at c.requires.shown)
      c.write.ensures.frames c.write.ensures.taken c.requires.range;
}

pub returns-clause-bytes : goal.returns-clause-bytes
returns-clause-bytes c = rw (← c.self.view_is) (overwrites (flat_of c.self.inside) c.self.invariant.flat c.args.tag c.write.new.self c.args.at c.args.bytes.now (rw (← c.self.view_is) at c.requires.shown)
    c.write.ensures.frames c.write.ensures.taken)
