use Rattle.fault.proofs.AskedLaws.{IsDenied-first, IsDenied-second}
use Rattle.fault.proofs.translations.Translations.check_two.Goals as goal

pub returns-in-Err : goal.returns-in-Err
returns-in-Err g c = λ wants. IsDenied-first _ _ _ _ _ _ _ _ c.in-Err.ensures

pub returns-in-Err-check_write : goal.returns-in-Err-check_write
returns-in-Err-check_write g c = λ wants. IsDenied-second _ _ _ _ _ _ _ _ c.in-Ok.ensures.1 c.in-Err-check_write.ensures
