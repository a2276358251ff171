use Rattle.std.proofs.Common.{◌-◌, Option, Some, refl, ap, ◌∙◌, arith}
use Rattle.pair_map.specs.Maps.{values_of, with_pair}
use Rattle.checker_ready.specs.declared.stamps.Stamp.{Stamp}
use Rattle.checker_ready.specs.Notes.{notes_of, stamp_for}
use Rattle.checker_ready.proofs.RowLaws.{rows-set, AreNotes-set, notes_few}
use Rattle.checker_ready.proofs.ready_map.ReadyMap.note.Goals as goal

pub stamp_for-stamp-requires : goal.stamp_for-stamp-requires
stamp_for-stamp-requires c = notes_few (notes_of c.self.inside) c.args.row.koid.0 c.args.row.page c.find.result c.self.invariant c.find.ensures (let room = rw (← c.self.view_is) at c.requires.room in room)

pub invariant_of-self : goal.invariant_of-self
invariant_of-self c =
    AreNotes-set (notes_of c.self.inside) c.args.root.0 c.args.page (record { koid = c.args.row.koid; page = c.args.row.page; readiness = c.args.row.readiness; made = c.self.inside.time }) c.args.row.frame
    c.self.invariant c.insert.new.self c.put.new.map (c.self.inside.room - 1) refl c.insert.ensures.values
    (c.put.ensures.values ∙ ap (λ (s : Stamp). with_pair (values_of c.self.inside.stamps) c.args.row.koid.0 c.args.row.page (Some s))
    (c.stamp_for-stamp.ensures ∙ ap (λ (o : Option Stamp). stamp_for o c.args.row.frame c.self.inside.time) c.find.ensures))
    (let none = rw (← c.self.view_is) at c.requires.none in none)
    (let room = rw (← c.self.view_is) at c.requires.room in omega arith)
    (omega (arith, c.self.invariant.places_room, c.insert.ensures.spare)) (omega (arith, c.self.invariant.stamps_room, c.put.ensures.spare))

pub returns-clause-rows : goal.returns-clause-rows
returns-clause-rows c =
    rw (← c.self.view_is) (rows-set (notes_of c.self.inside) c.args.root.0 c.args.page (record { koid = c.args.row.koid; page = c.args.row.page; readiness = c.args.row.readiness; made = c.self.inside.time }) c.args.row.frame
    c.self.invariant c.insert.new.self c.put.new.map (c.self.inside.room - 1) refl c.insert.ensures.values
    (c.put.ensures.values ∙ ap (λ (s : Stamp). with_pair (values_of c.self.inside.stamps) c.args.row.koid.0 c.args.row.page (Some s))
    (c.stamp_for-stamp.ensures ∙ ap (λ (o : Option Stamp). stamp_for o c.args.row.frame c.self.inside.time) c.find.ensures)))
