use Rattle.vm_model.proofs.OwningLaws.{Owned-from_Owns}
use Rattle.page_store.proofs.PartLaws.{IsShownOnce-owned, WritesPiece-from_parts}
use Rattle.page_store.proofs.page_bytes.write_page.Goals as goal

pub write-requires-clause-shown : goal.write-requires-clause-shown
write-requires-clause-shown g c =
    IsShownOnce-owned _ _ _ _ _ (Owned-from_Owns _ _ _ _ _ c.requires.good c.requires.page c.own-tag.ensures.owns)

pub returns-clause-writes : goal.returns-clause-writes
returns-clause-writes g c =
    let owns = c.own-tag.ensures.owns in
    WritesPiece-from_parts _ _ _ _ _ _ c.args.at c.args.bytes.now
    (Owned-from_Owns _ _ _ _ _ c.requires.good c.requires.page owns) owns c.write.ensures.bytes
