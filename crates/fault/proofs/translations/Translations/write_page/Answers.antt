use Rattle.vm_model.proofs.OwningLaws.{Owned-from_Owns}
use Rattle.page_store.proofs.PartLaws.{IsShownOnce-owned}
use Rattle.fault.proofs.translations.Translations.write_page.Goals as goal

pub write-requires-clause-shown : goal.write-requires-clause-shown
write-requires-clause-shown g c =
    IsShownOnce-owned _ _ _ _ _ (Owned-from_Owns _ _ _ _ _ c.requires.good c.requires.found.below c.own-tag.ensures.owns)
