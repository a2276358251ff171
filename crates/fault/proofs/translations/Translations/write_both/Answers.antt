use Rattle.std.proofs.Common.{◌+◌, ◌∙◌, refl, arith}
use Rattle.fault.specs.Table.{translations_of}
use Rattle.fault.proofs.AskedLaws.{AreAsked-two}
use Rattle.vm_model.proofs.PartLaws.{part_at-first, part_bytes-first, part_at-second, part_bytes-second}
use Rattle.fault.proofs.ThroughLaws.{IsBetween, IsBetween-written, WritesSpace-two}
use Rattle.vm_model.proofs.TouchedLaws.{touched-two}
use Rattle.page_store.proofs.NeedLaws.{first-free}
use Rattle.fault.proofs.WritableLaws.{entry-found}
use Rattle.fault.proofs.translations.Translations.write_both.Given.{Over}
use Rattle.fault.proofs.translations.Translations.write_both.Goals as goal

pub write_page-requires-clause-good : goal.write_page-requires-clause-good
write_page-requires-clause-good g c = c.requires.found.1.good

pub write_page-requires-clause-found : goal.write_page-requires-clause-found
write_page-requires-clause-found g c = c.requires.found.1.first_is.store

pub write_page-requires-clause-absent : goal.write_page-requires-clause-absent
write_page-requires-clause-absent g c = rw c.page_of-page.ensures c.requires.found.1.first_is.absent

pub write_page-requires-clause-same : goal.write_page-requires-clause-same
write_page-requires-clause-same g c =
    let found = c.requires.found.1 in rw c.page_of-page.ensures (entry-found _ _ _ _ _ found.are _ _ found.first_is.entry refl)

pub write_page-requires-clause-free : goal.write_page-requires-clause-free
write_page-requires-clause-free g c =
    let found = c.requires.found.1 in first-free _ _ _ _ _ found.good found.first_is.store.below found.frames

pub write_page-requires-clause-within : goal.write_page-requires-clause-within
write_page-requires-clause-within g c = omega (arith, c.in_page-at.ensures, c.split_at.ensures.front_len)

pub write_page-requires-clause-spare : goal.write_page-requires-clause-spare
write_page-requires-clause-spare g c = omega (arith, c.requires.spare)

pub write_page-requires-clause-room : goal.write_page-requires-clause-room
write_page-requires-clause-room g c = omega (arith, c.requires.room)

-- the first page was written
between : (g : Over) (c : goal.After-write_page-arg-4-1 g)
    → IsBetween (g.P.PageStore.content c.write_page.new.store) c.requires.found.0 (translations_of c.write_page.new.self) c.args.root.0
    (c.page_of-page.result + 1) c.args.second
between g c =
    let found = c.requires.found.1 in
    rw c.page_of-page.ensures (IsBetween-written _ _ _ _ _ _ _ _ _ _ found.good found.are found.first_is
    (omega (arith, c.in_page-at.ensures, c.split_at.ensures.front_len)) (rw c.page_of-page.ensures at c.write_page.ensures.writes)
    c.args.second found.second_is found.frames)

pub write_page-requires-2-clause-good : goal.write_page-requires-2-clause-good
write_page-requires-2-clause-good g c = (between g c).good

pub write_page-requires-2-clause-found : goal.write_page-requires-2-clause-found
write_page-requires-2-clause-found g c = (between g c).found.store

pub write_page-requires-2-clause-absent : goal.write_page-requires-2-clause-absent
write_page-requires-2-clause-absent g c = (between g c).found.absent

pub write_page-requires-2-clause-same : goal.write_page-requires-2-clause-same
write_page-requires-2-clause-same g c = (between g c).same

pub write_page-requires-2-clause-free : goal.write_page-requires-2-clause-free
write_page-requires-2-clause-free g c = (between g c).free

pub write_page-requires-2-clause-spare : goal.write_page-requires-2-clause-spare
write_page-requires-2-clause-spare g c = omega (arith, c.requires.spare, c.write_page.ensures.spare)

pub write_page-requires-2-clause-room : goal.write_page-requires-2-clause-room
write_page-requires-2-clause-room g c = omega (arith, c.requires.room, c.write_page.ensures.room)

pub returns : goal.returns
returns g c = record {
  writes = λ table found.
      let parts = c.split_at.ensures in
      WritesSpace-two _ _ _ _ _ _ _ _ _ _ found.good found.are found.first_is (omega (arith, c.in_page-at.ensures, parts.front_len))
      (rw c.page_of-page.ensures at c.write_page.ensures.writes) c.args.second found.second_is found.frames
      _ _ _ _ (omega (arith, c.in_page-at.ensures, parts.back_len, c.requires.len)) (rw c.page_of-page.ensures at c.write_page-2.ensures.writes)
      c.args.addr c.args.bytes.now (touched-two c.args.addr _ c.requires.two c.requires.len)
      (AreAsked-two _ _ _ _ _ _ _ found.first_is.entry found.first_may found.second_is.entry found.second_may)
      (c.in_page-at.ensures ∙ part_at-first c.args.addr)
      (parts.front ∙ part_bytes-first c.args.addr _ c.args.bytes.now c.in_page-at.ensures) (part_at-second c.args.addr)
      (parts.back ∙ part_bytes-second c.args.addr _ c.args.bytes.now c.in_page-at.ensures c.requires.len);
}
