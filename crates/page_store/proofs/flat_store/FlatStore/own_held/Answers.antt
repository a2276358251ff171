use Rattle.std.proofs.Common.{ℕ, Option, Some, refl, ap, ◌∙◌, arith}
use Rattle.frame_pool.specs.Pool.{taken_frames}
use Rattle.pair_map.specs.Maps.{values_of, with_pair}
use Rattle.page_store.specs.Flat.{flat_of}
use Rattle.page_store.proofs.LinkLaws.{pair-none, unseen_free}
use Rattle.page_store.proofs.RowLaws.{koid_low, room_held, sole_where}
use Rattle.page_store.proofs.ChangeLaws.{owned_already, owned_held}
use Rattle.page_store.proofs.flat_store.FlatStore.own_held.Goals as goal

pub is_alone-requires : goal.is_alone-requires
is_alone-requires c = omega (arith, koid_low (flat_of c.self.inside) c.self.invariant.flat c.args.v.0 c.args.page c.args.shown (rw (← c.self.view_is) at c.requires.held))

pub returns-then-is_alone-clause-owns : goal.returns-then-is_alone-clause-owns
returns-then-is_alone-clause-owns c =
    rw (← c.self.view_is) (owned_already (flat_of c.self.inside) c.args.v.0 c.args.page c.args.shown (rw (← c.self.view_is) at c.requires.held)
    (sole_where (flat_of c.self.inside) c.self.invariant.flat c.args.v.0 c.args.page c.args.shown (rw (← c.self.view_is) at c.requires.held) (c.is_alone.ensures.alone c.if-is_alone.true)))

pub take_copy-tag-requires-clause-free : goal.take_copy-tag-requires-clause-free
take_copy-tag-requires-clause-free c =
    room_held (flat_of c.self.inside) c.self.invariant.flat c.args.v.0 c.args.page c.args.shown (rw (← c.self.view_is) at c.requires.held) (c.is_alone.ensures.other c.if-is_alone.false)
    (rw (← c.self.view_is) at c.requires.room)

pub insert-requires-clause-absent : goal.insert-requires-clause-absent
insert-requires-clause-absent c =
    let linked = c.self.invariant.flat.linked in
    ap (λ (m : ℕ → ℕ → Option ℕ). m c.take_copy-tag.result.0 c.args.v.0) c.remove.ensures.values
    ∙ pair-none (values_of c.self.inside.viewers) c.args.shown.0 c.args.v.0 c.take_copy-tag.result.0 c.args.v.0
    (unseen_free (values_of c.self.inside.rows) (values_of c.self.inside.viewers) (taken_frames c.self.inside.pool) (taken_frames c.self.inside.pool)
    c.args.v.0 c.args.page c.take_copy-tag.result linked c.take_copy-tag.ensures.takes.was_free)

pub invariant_of-self : goal.invariant_of-self
invariant_of-self c = record {
  flat = (owned_held (flat_of c.self.inside) c.args.v.0 c.args.page c.take_copy-tag.result c.take_copy-tag.new.pool c.replace.new.self c.insert.new.self c.self.inside.room _ c.self.invariant.flat
      c.take_copy-tag.ensures.frames c.take_copy-tag.ensures.takes c.replace.ensures.values c.args.shown (rw (← c.self.view_is) at c.requires.held) (c.is_alone.ensures.other c.if-is_alone.false) refl
      (c.insert.ensures.values ∙ ap (λ (m : ℕ → ℕ → Option ℕ). with_pair m c.take_copy-tag.result.0 c.args.v.0 (Some c.args.page)) c.remove.ensures.values)
      (omega (arith, c.self.invariant.flat.rows_room, c.replace.ensures.spare)) (omega (arith, c.self.invariant.flat.viewers_room, c.remove.ensures.spare, c.insert.ensures.spare))).flat;
}

pub returns-clause-owns : goal.returns-clause-owns
returns-clause-owns c =
    rw (← c.self.view_is) (owned_held (flat_of c.self.inside) c.args.v.0 c.args.page c.take_copy-tag.result c.take_copy-tag.new.pool c.replace.new.self c.insert.new.self c.self.inside.room _ c.self.invariant.flat
    c.take_copy-tag.ensures.frames c.take_copy-tag.ensures.takes c.replace.ensures.values c.args.shown (rw (← c.self.view_is) at c.requires.held) (c.is_alone.ensures.other c.if-is_alone.false) refl
    (c.insert.ensures.values ∙ ap (λ (m : ℕ → ℕ → Option ℕ). with_pair m c.take_copy-tag.result.0 c.args.v.0 (Some c.args.page)) c.remove.ensures.values)
    (omega (arith, c.self.invariant.flat.rows_room, c.replace.ensures.spare)) (omega (arith, c.self.invariant.flat.viewers_room, c.remove.ensures.spare, c.insert.ensures.spare))).owns
