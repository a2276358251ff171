use Rattle.std.proofs.Common.{◌-◌, refl, arith}
use Rattle.vm_base.specs.Pages.{zeros}
use Rattle.page_store.specs.Flat.{flat_of}
use Rattle.page_store.proofs.RowLaws.{room_free}
use Rattle.page_store.proofs.ChangeLaws.{owned_zero}
use Rattle.page_store.proofs.flat_store.FlatStore.own_zero.Goals as goal

pub take_zeros-tag-requires : goal.take_zeros-tag-requires
take_zeros-tag-requires c = room_free (flat_of c.self.inside) c.self.invariant.flat (rw (← c.self.view_is) at c.requires.frame)

pub invariant_of-self : goal.invariant_of-self
invariant_of-self c = record {
  flat = (owned_zero (flat_of c.self.inside) c.args.v.0 c.args.page c.take_zeros-tag.result c.take_zeros-tag.new.pool c.insert.new.self c.insert-2.new.self (c.self.inside.room - 1) zeros c.self.invariant.flat
      c.take_zeros-tag.ensures.frames c.take_zeros-tag.ensures.takes c.insert.ensures.values (rw (← c.self.view_is) at c.requires.zero) (rw (← c.self.view_is) at c.requires.page) refl
      c.insert-2.ensures.values (omega (arith, c.self.invariant.flat.rows_room, c.insert.ensures.spare)) (omega (arith, c.self.invariant.flat.viewers_room, c.insert-2.ensures.spare))).flat;
}

pub returns-clause-owns : goal.returns-clause-owns
returns-clause-owns c =
    rw (← c.self.view_is) (owned_zero (flat_of c.self.inside) c.args.v.0 c.args.page c.take_zeros-tag.result c.take_zeros-tag.new.pool c.insert.new.self c.insert-2.new.self (c.self.inside.room - 1) zeros c.self.invariant.flat
    c.take_zeros-tag.ensures.frames c.take_zeros-tag.ensures.takes c.insert.ensures.values (rw (← c.self.view_is) at c.requires.zero) (rw (← c.self.view_is) at c.requires.page) refl
    c.insert-2.ensures.values (omega (arith, c.self.invariant.flat.rows_room, c.insert.ensures.spare)) (omega (arith, c.self.invariant.flat.viewers_room, c.insert-2.ensures.spare))).owns
