use Rattle.std.proofs.Common.{ℕ, Option, None, ap, ◌∙◌, arith}
use Rattle.pair_map.specs.Maps.{values_of}
use Rattle.page_store.proofs.LinkLaws.{pair-here}
use Rattle.checker_ready.specs.declared.stamps.Kept.{Kept}
use Rattle.checker_ready.specs.Notes.{notes_of}
use Rattle.checker_ready.proofs.RowLaws.{rows-dropped, AreNotes-dropped}
use Rattle.checker_ready.proofs.ready_map.ReadyMap.drop_place.Goals as goal

pub invariant_of-self : goal.invariant_of-self
invariant_of-self c =
    AreNotes-dropped (notes_of c.self.inside) c.args.root.0 c.args.page c.remove-kept.result c.remove-kept.new.self c.lower.new.stamps c.self.invariant
    c.remove-kept.ensures.value c.remove-kept.ensures.values c.lower.ensures.values
    (omega (arith, c.self.invariant.places_room, c.remove-kept.ensures.spare)) (omega (arith, c.self.invariant.stamps_room, c.lower.ensures.spare))

pub returns-clause-rows : goal.returns-clause-rows
returns-clause-rows c =
    rw (← c.self.view_is) (rows-dropped (notes_of c.self.inside) c.args.root.0 c.args.page c.remove-kept.result c.remove-kept.new.self c.lower.new.stamps c.self.invariant
    c.remove-kept.ensures.value c.remove-kept.ensures.values c.lower.ensures.values)

pub returns-clause-none : goal.returns-clause-none
returns-clause-none c =
    ap (λ (map : ℕ → ℕ → Option Kept). map c.args.root.0 c.args.page) c.remove-kept.ensures.values
    ∙ pair-here (values_of c.self.inside.places) c.args.root.0 c.args.page None
