use Rattle.std.proofs.Common.{refl, arith}
use Rattle.std.proofs.lemmas.Result.{err_from_is_err_and}
use Rattle.mapping_set.specs.Tables.{table_of}
use Rattle.fault.proofs.AskedLaws.{IsDenied-first, IsDenied-second, IsDenied-memory}
use Rattle.fault.proofs.OutcomeLaws.{asked-two, faults-two, ReadsSpace-two}
use Rattle.vm_model.proofs.TouchedLaws.{touched-two}
use Rattle.fault.proofs.TouchingLaws.{IsFoundPage-from_IsTouched, IsFoundPage-stays, refusal_at-touched}
use Rattle.fault.proofs.translations.Translations.read_in_two.Goals as goal

pub returns-in_err-first-clause-outcome : goal.returns-in_err-first-clause-outcome
returns-in_err-first-clause-outcome g c =
    let left = err_from_is_err_and c.from_residual.result c.from_residual.ensures.1 in
    rw (left.1, left.2) (rw (touched-two c.args.addr _ c.requires.two c.requires.len)
    (IsDenied-first _ _ _ _ _ _ _ _ (rw c.page_of-page.ensures at c.in_err-first.ensures), refl))

pub returns-in_err-second-clause-outcome : goal.returns-in_err-second-clause-outcome
returns-in_err-second-clause-outcome g c =
    let left = err_from_is_err_and c.from_residual-in_err-second.result c.from_residual-in_err-second.ensures.1 in
    let free = refusal_at-touched _ _ _ _ _ _ _ c.in_ok-first.ensures in
    rw (left.1, left.2) (rw (touched-two c.args.addr _ c.requires.two c.requires.len)
    (IsDenied-second _ _ _ _ _ _ _ _ (rw c.page_of-page.ensures at free) (rw c.page_of-page.ensures at c.in_err-second.ensures), refl))

pub returns-in_err-reserve_missing-clause-outcome : goal.returns-in_err-reserve_missing-clause-outcome
returns-in_err-reserve_missing-clause-outcome g c =
    let left = err_from_is_err_and c.from_residual-in_err-reserve_missing.result c.from_residual-in_err-reserve_missing.ensures.1 in
    let lacks = c.in_err-reserve_missing.ensures.room in
    let is = rw c.page_of-page.ensures at c.in_ok-first.ensures in
    let next = rw c.page_of-page.ensures at c.in_ok-second.ensures in
    rw (left.1, left.2) (rw (touched-two c.args.addr _ c.requires.two c.requires.len) (
      IsDenied-memory (asked-two is next) _ _ _ (faults-two is next) (omega (arith, lacks.1, c.missing.ensures, c.missing-2.ensures)) lacks.0,
      c.reserve_missing.ensures.same,
    ))

pub read_page-faults-requires-clause-found : goal.read_page-faults-requires-clause-found
read_page-faults-requires-clause-found g c =
    IsFoundPage-from_IsTouched c.reserve_missing.ensures.same c.requires.translations c.in_ok-first.ensures

pub read_page-requires-clause-found : goal.read_page-requires-clause-found
read_page-requires-clause-found g c =
    IsFoundPage-stays (table_of c.args.maps.now) (c.read_page-faults.ensures.places.are_true (table_of c.args.maps.now) c.in_ok-first.ensures.entry (rw c.reserve_missing.ensures.same c.requires.translations))
    (c.read_page-faults.ensures.places.others _ (omega arith))
    (IsFoundPage-from_IsTouched c.reserve_missing.ensures.same c.requires.translations c.in_ok-second.ensures)

pub returns-clause-outcome : goal.returns-clause-outcome
returns-clause-outcome g c =
    let parts = c.split_at_mut-here.ensures in
    let at = c.in_page-at.ensures in
    ReadsSpace-two c.in_ok-first.ensures c.in_ok-second.ensures _ _ _ _ _ c.page_of-page.ensures
    (rw c.page_of-page.ensures (touched-two c.args.addr _ c.requires.two c.requires.len)) c.requires.len c.requires.backed.good
    c.reserve_missing.ensures.same (omega (arith, parts.front_len)) (omega (arith, parts.front_len, parts.back_len))
    (omega (arith, c.read_page-faults.ensures.faults, c.read_page.ensures.faults))
    (rw at at c.read_page-faults.ensures.bytes) c.read_page.ensures.bytes c.read_page-faults.ensures.places c.read_page.ensures.places
