use Rattle.std.proofs.Common.{refl, arith}
use Rattle.checker_ready.specs.Notes.{notes_of}
use Rattle.checker_ready.proofs.RowLaws.{AreNotes-reserved}
use Rattle.checker_ready.proofs.ready_map.ReadyMap.reserve.Goals as goal

pub invariant_of-self : goal.invariant_of-self
invariant_of-self c =
    AreNotes-reserved (notes_of c.self.inside) c.reserve.new.self c.self.inside.stamps c.self.inside.room c.self.invariant c.reserve.ensures.values refl
    (omega (arith, c.self.invariant.places_room, c.reserve.ensures.spare)) c.self.invariant.stamps_room c.self.invariant.times

pub invariant_of-self-in_default-reserve : goal.invariant_of-self-in_default-reserve
invariant_of-self-in_default-reserve c =
    AreNotes-reserved (notes_of c.self.inside) c.reserve.new.self c.reserve-2.new.self c.self.inside.room c.self.invariant c.reserve.ensures.values c.reserve-2.ensures.values
    (omega (arith, c.self.invariant.places_room, c.reserve.ensures.spare)) (omega (arith, c.self.invariant.stamps_room, c.reserve-2.ensures.spare)) c.self.invariant.times

pub invariant_of-self-2 : goal.invariant_of-self-2
invariant_of-self-2 c =
    AreNotes-reserved (notes_of c.self.inside) c.reserve.new.self c.reserve-2.new.self c.args.n c.self.invariant c.reserve.ensures.values c.reserve-2.ensures.values
    (omega (arith, c.in-Ok.ensures.room)) (omega (arith, c.in-Ok-reserve.ensures.room)) (omega (arith, c.if-self-n.false))
