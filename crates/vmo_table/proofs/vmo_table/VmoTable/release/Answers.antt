use Rattle.std.proofs.Common.{◌-◌, None, Some, refl, sym, ◌∙◌, arith}
use Rattle.std.proofs.lemmas.Grind.{common_steps}
use Rattle.vm_base.specs.Entries.{with_key}
use Rattle.vm_base.proofs.EntryLaws.{with_key-same}
use Rattle.vmo_table.specs.declared.vmos.Vmo.{Vmo}
use Rattle.vmo_table.specs.Vmos.{vmos_in}
use Rattle.vmo_table.proofs.CountLaws.{keepers-at, keepers-with_key}
use Rattle.vmo_table.proofs.SettledLaws.{keepers-settled, settles, settles_absent}
use Rattle.vmo_table.proofs.TableLaws.{IsVmoTable-settled, keeping}
use Rattle.vmo_table.proofs.vmo_table.VmoTable.release.Goals as goal

pub returns-in_default-clause-keepers : goal.returns-in_default-clause-keepers
unfolding vmos_in
returns-in_default-clause-keepers c = λ v. rw (← c.self.view_is) (
    let few = rw (← c.self.view_is) at c.requires.keepers in
    let none = keepers-at (vmos_in c.self.inside.vmos.entries) c.args.koid.0 None (sym (c.copied.ensures ∙ c.get.ensures.value) ∙ c.in_default.is) in
    grind (arith, common_steps))

pub returns-in_default-clause-vmo : goal.returns-in_default-clause-vmo
unfolding vmos_in
returns-in_default-clause-vmo c = rw (← c.self.view_is)
    (settles_absent _ _ c.args.koid.0 c.self.invariant.named c.self.invariant.forest (sym (c.copied.ensures ∙ c.get.ensures.value) ∙ c.in_default.is))

pub overflow_sub-left : goal.overflow_sub-left
unfolding vmos_in
overflow_sub-left c =
    let few = rw (← c.self.view_is) at c.requires.keepers in
    omega (arith, few, keepers-at (vmos_in c.self.inside.vmos.entries) c.args.koid.0 (Some c.in-Some.vmo) (sym (c.copied.ensures ∙ c.get.ensures.value) ∙ c.in-Some.is))

pub settle-requires : goal.settle-requires
settle-requires c =
    let written = keeping c.self.inside c.args.koid.0 c.in-Some.vmo (c.in-Some.vmo.keepers - c.from.result) c.self.invariant (sym (c.copied.ensures ∙ c.get.ensures.value) ∙ c.in-Some.is) in
    record { may = written.0; rows = c.self.invariant.rows }

pub invariant_of-self : goal.invariant_of-self
invariant_of-self c =
    let written = keeping c.self.inside c.args.koid.0 c.in-Some.vmo (c.in-Some.vmo.keepers - c.from.result) c.self.invariant (sym (c.copied.ensures ∙ c.get.ensures.value) ∙ c.in-Some.is) in
    IsVmoTable-settled _ _ _ _ written.0 _ refl written.1 c.settle.ensures.vmos c.settle.ensures.rows

pub returns-clause-keepers : goal.returns-clause-keepers
unfolding vmos_in
returns-clause-keepers c = λ v.
    let few = rw (← c.self.view_is) at c.requires.keepers in
    let vmos = vmos_in c.self.inside.vmos.entries in
    let left : Vmo = record c.in-Some.vmo { keepers = c.in-Some.vmo.keepers - c.from.result } in
    let found = sym (c.copied.ensures ∙ c.get.ensures.value) ∙ c.in-Some.is in
    let written = keeping c.self.inside c.args.koid.0 c.in-Some.vmo left.keepers c.self.invariant found in
    let was = keepers-at vmos c.args.koid.0 (Some c.in-Some.vmo) found in
    rw (← c.self.view_is, c.settle.ensures.vmos, keepers-settled _ _ _ written.0)
    (grind (arith, common_steps, keepers-with_key vmos c.args.koid.0 left v, c.from.ensures))

pub returns-clause-vmo : goal.returns-clause-vmo
unfolding vmos_in
returns-clause-vmo c =
    let left : Vmo = record c.in-Some.vmo { keepers = c.in-Some.vmo.keepers - c.from.result } in
    let written = keeping c.self.inside c.args.koid.0 c.in-Some.vmo left.keepers c.self.invariant (sym (c.copied.ensures ∙ c.get.ensures.value) ∙ c.in-Some.is) in
    let now = keepers-settled _ _ _ written.0 in
    let here = keepers-at (with_key (vmos_in c.self.inside.vmos.entries) c.args.koid.0 left) c.args.koid.0 (Some left) (with_key-same _ c.args.koid.0 left) in
    rw (← c.self.view_is, c.settle.ensures.vmos, now, here)
    (settles _ _ _ written.0 _ written.1 c.settle.result c.settle.ensures.answer)
