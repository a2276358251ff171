use Rattle.std.proofs.Common.{refl, arith}
use Rattle.std.proofs.lemmas.Result.{err_from_is_err_and}
use Rattle.fault.proofs.AskedLaws.{IsDenied-first, IsDenied-memory}
use Rattle.fault.proofs.OutcomeLaws.{asked-one, faults-one, ReadsSpace-one}
use Rattle.vm_model.proofs.TouchedLaws.{touched-one}
use Rattle.fault.proofs.TouchingLaws.{IsFoundPage-from_IsTouched}
use Rattle.fault.proofs.translations.Translations.read_in_page.Goals as goal

pub returns-in_err-touched-clause-outcome : goal.returns-in_err-touched-clause-outcome
returns-in_err-touched-clause-outcome g c =
    let left = err_from_is_err_and c.from_residual.result c.from_residual.ensures.1 in
    rw (left.1, left.2) (rw (touched-one c.args.addr _ c.requires.some c.requires.one)
    (IsDenied-first _ _ _ _ _ _ _ _ (rw c.page_of-page.ensures at c.in_err-touched.ensures), refl))

pub returns-in_err-reserve_missing-clause-outcome : goal.returns-in_err-reserve_missing-clause-outcome
returns-in_err-reserve_missing-clause-outcome g c =
    let left = err_from_is_err_and c.from_residual-in_err-reserve_missing.result c.from_residual-in_err-reserve_missing.ensures.1 in
    let lacks = c.in_err-reserve_missing.ensures.room in
    let is = rw c.page_of-page.ensures at c.in_ok-touched.ensures in
    rw (left.1, left.2) (rw (touched-one c.args.addr _ c.requires.some c.requires.one)
    (IsDenied-memory (asked-one is) _ _ _ (faults-one is) (omega (arith, lacks.1, c.missing.ensures)) lacks.0, c.reserve_missing.ensures.same))

pub read_page-requires-clause-found : goal.read_page-requires-clause-found
read_page-requires-clause-found g c =
    IsFoundPage-from_IsTouched c.reserve_missing.ensures.same c.requires.translations c.in_ok-touched.ensures

pub returns-clause-outcome : goal.returns-clause-outcome
returns-clause-outcome g c =
    ReadsSpace-one c.in_ok-touched.ensures _ _ c.page_of-page.ensures
    (rw c.page_of-page.ensures (touched-one c.args.addr _ c.requires.some c.requires.one)) c.requires.one c.requires.backed.good
    c.reserve_missing.ensures.same c.read_page.ensures.faults (rw c.in_page.ensures at c.read_page.ensures.bytes) c.read_page.ensures.places
