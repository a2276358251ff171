use Rattle.std.proofs.Common.{arith}
use Rattle.page_store.specs.Flat.{flat_of}
use Rattle.page_store.proofs.ChangeLaws.{content-released, IsFlat-released}
use Rattle.page_store.proofs.flat_store.FlatStore.release_page.Goals as goal

pub invariant_of-self : goal.invariant_of-self
invariant_of-self c = record {
  flat = IsFlat-released (flat_of c.self.inside) c.args.v.0 c.args.page c.remove-tag.result c.give_back_unshown.new.pool c.remove-tag.new.self c.remove.new.self c.self.invariant.flat
      c.remove-tag.ensures.value c.give_back_unshown.ensures.frames c.remove-tag.ensures.values c.remove.ensures.values c.give_back_unshown.ensures.taken
      (omega (arith, c.self.invariant.flat.rows_room, c.remove-tag.ensures.spare)) (omega (arith, c.self.invariant.flat.viewers_room, c.remove.ensures.spare));
}

pub returns-clause-content : goal.returns-clause-content
returns-clause-content c =
    rw (← c.self.view_is) (content-released (flat_of c.self.inside) c.args.v.0 c.args.page c.remove-tag.result c.give_back_unshown.new.pool c.remove-tag.new.self c.remove.new.self c.self.invariant.flat
    c.remove-tag.ensures.value c.give_back_unshown.ensures.frames c.remove-tag.ensures.values c.remove.ensures.values c.give_back_unshown.ensures.taken)
