use Rattle.std.proofs.Common.{arith}
use Rattle.page_store.specs.Flat.{flat_of}
use Rattle.page_store.proofs.ChangeLaws.{content-shown, unseen, IsFlat-shown}
use Rattle.page_store.proofs.flat_store.FlatStore.show_page.Goals as goal

pub insert-requires-2-clause-absent : goal.insert-requires-2-clause-absent
insert-requires-2-clause-absent c =
    unseen (flat_of c.self.inside) c.args.v.0 c.args.page c.args.tag c.self.invariant.flat (rw (← c.self.view_is) at c.requires.zero) (rw (← c.self.view_is) at c.requires.good)

pub invariant_of-self : goal.invariant_of-self
invariant_of-self c =
    let shown = rw (← c.self.view_is) at c.requires.shown in
    record {
      flat = IsFlat-shown (flat_of c.self.inside) c.args.v.0 c.args.page c.args.tag c.insert.new.self c.insert-2.new.self _ c.self.invariant.flat
          (rw (← c.self.view_is) at c.requires.zero) c.insert.ensures.values (rw (← c.self.view_is) at c.requires.good) shown.0 shown.1 shown.2 c.insert-2.ensures.values
          (omega (arith, c.self.invariant.flat.rows_room, c.insert.ensures.spare)) (omega (arith, c.self.invariant.flat.viewers_room, c.insert-2.ensures.spare));
    }

pub returns-clause-content : goal.returns-clause-content
returns-clause-content c =
    rw (← c.self.view_is) (content-shown (flat_of c.self.inside) c.args.v.0 c.args.page c.args.tag c.insert.new.self c.insert-2.new.self 0 c.self.invariant.flat
    (rw (← c.self.view_is) at c.requires.zero) c.insert.ensures.values)
