use Rattle.std.proofs.Common.{ℕ, ◌+◌, ◌-◌, ◌<◌, ◌≤◌, ◌^◌, is_some, refl, sym, ap, ◌∙◌, arith, ◌==◌}
use Rattle.std.specs.Option.{option_map}
use Rattle.std.proofs.lemmas.Bool.{eq-eqb}
use Rattle.vm_base.proofs.EntryLaws.{passes-some}
use Rattle.vmo_table.specs.Vmos.{koid_number, vmos_in, with_children}
use Rattle.vmo_table.proofs.EntryLaws.{vmos_in-adopted, adopted-nobody, adopted-absent}
use Rattle.vmo_table.proofs.vmos.count_children.Goals as goal

-- the counts of the parent that was found fit
fits : (c : goal.In-Some-get_mut) → (c.args.gone ≤ c.in-Some-get_mut.vmo.now.children)
    × (c.in-Some-get_mut.vmo.now.children - c.args.gone + c.args.come < 2 ^ 64)
unfolding vmos_in
fits c =
    let koid = c.in-Some.koid.0 in
    c.requires koid c.in-Some-get_mut.vmo.now (passes-some (λ (p : ℕ). p == koid) _ koid (ap (option_map koid_number) c.in-Some.is) ∙ eq-eqb koid koid refl) (sym c.in-Some-get_mut.ensures.value)

pub overflow_sub-vmo : goal.overflow_sub-vmo
overflow_sub-vmo c = (fits c).0

pub overflow_add-vmo : goal.overflow_add-vmo
overflow_add-vmo c = omega (arith, fits c)

pub returns-in_default : goal.returns-in_default
returns-in_default c = rw c.in_default.is (adopted-nobody _ c.args.gone c.args.come)

pub returns-in-Some-get_mut : goal.returns-in-Some-get_mut
returns-in-Some-get_mut c =
    let found = sym c.in-Some-get_mut.ensures.value in
    let written = c.get_mut.follows.holds (with_children c.args.gone c.args.come c.in-Some-get_mut.vmo.now) in
    rw c.in-Some.is (vmos_in-adopted _ _ c.in-Some.koid.0 c.in-Some-get_mut.vmo.now c.args.gone c.args.come found (written.3 (ap is_some found)).0)

pub returns-in_default-get_mut : goal.returns-in_default-get_mut
returns-in_default-get_mut c =
    rw (c.in-Some.is, c.get_mut.follows.holds-at-none) (adopted-absent c.args.vmos.now.entries c.in-Some.koid.0 c.args.gone c.args.come (sym c.in_default-get_mut.ensures.value))
