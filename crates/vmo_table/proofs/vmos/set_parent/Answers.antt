use Rattle.std.proofs.Common.{◌≡◌, true, false, is_some, sym, ap, ◌∙◌}
use Rattle.std.proofs.lemmas.Option.{same_Some}
use Rattle.vm_base.specs.Entries.{with_key}
use Rattle.vmo_table.specs.declared.vmos.Vmo.{Vmo}
use Rattle.vmo_table.specs.Vmos.{vmos_in}
use Rattle.vmo_table.proofs.EntryLaws.{vmos_in-put}
use Rattle.vmo_table.proofs.vmos.set_parent.Goals as goal

pub returns-in-Some : goal.returns-in-Some
unfolding vmos_in
returns-in-Some c = λ vmo is.
    let entries = c.args.vmos.now.entries in
    let found = sym c.in-Some.ensures.value in
    let written : Vmo = record c.in-Some.vmo.now { parent = c.args.parent } in
    let same = same_Some c.in-Some.vmo.now vmo (sym found ∙ is) in
    vmos_in-put entries (c.get_mut.follows.lender written).entries c.args.koid.0 written
    ((c.get_mut.follows.holds written).3 (ap is_some found)).0
    ∙ ap (λ (x : Vmo). with_key (vmos_in entries) c.args.koid.0 (record x { parent = c.args.parent })) same

pub returns-in_default : goal.returns-in_default
unfolding vmos_in
returns-in_default c = absurd (let bad : false ≡ true = ap is_some c.in_default.ensures.value ∙ c.requires in cc)
