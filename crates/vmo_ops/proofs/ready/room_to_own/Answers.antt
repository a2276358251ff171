use Rattle.std.proofs.Common.{inl, inr, arith}
use Rattle.vmo_ops.proofs.ready.room_to_own.Goals as goal

pub returns-then-rows-eq0-clause-rows : goal.returns-then-rows-eq0-clause-rows
returns-then-rows-eq0-clause-rows g c = elim c.requires.rows.0 [
  | inl none ↦ inl none
  | inr many ↦ inr (omega (arith, many, c.if-rows-eq0.true))
]

pub returns-in-Ok-clause-rows : goal.returns-in-Ok-clause-rows
returns-in-Ok-clause-rows g c = elim c.requires.rows.0 [
  | inl none ↦ inl none
  | inr many ↦ inr (omega (arith, many, c.in-Ok.ensures.room))
]
