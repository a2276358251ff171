use Rattle.fault.proofs.WritableLaws.{IsWritable-from_IsTouched}
use Rattle.fault.proofs.translations.Translations.check_write.Goals as goal

pub returns-in-Ok : goal.returns-in-Ok
returns-in-Ok g c =
    IsWritable-from_IsTouched _ _ _ _ _ c.requires.translations _ c.in-Ok.touched _ c.in-Ok.ensures c.frame_to_write.ensures _ _ c.is_some.ensures
