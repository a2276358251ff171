use Rattle.std.proofs.Common.{refl, sym, ◌∙◌, inl, inr}
use Rattle.vm_base.specs.declared.limits.TheConstants.{PAGE}
use Rattle.vmo_ops.proofs.ZeroLaws.{ZeroesPage-part}
use Rattle.vmo_ops.proofs.zeroing.zero_part.Goals as goal

pub fill_part-requires-clause-room : goal.fill_part-requires-clause-room
fill_part-requires-clause-room g c =
    let held = sym c.is_held_at.ensures ∙ c.if-not-is_held_at.false in
    let row = c.requires.room held in
    elim (c.requires.free held) [ inl alone ↦ inl alone | inr free ↦ inr (row, free) ]

pub returns-clause-zeroes : goal.returns-clause-zeroes
returns-clause-zeroes g c = λ pinned cut.
    let part = c.part_in_page.ensures in
    ZeroesPage-part _ _ _ _ c.args.offset c.args.len _ _ _ _ cut (sym c.is_held_at.ensures ∙ c.if-not-is_held_at.false) part.at
    part.from part.until (c.fill_part.ensures.writes PAGE 0 refl)
