use Rattle.std.proofs.Common.{refl, ◌∙◌, arith}
use Rattle.fault.proofs.AskedLaws.{AreAsked-one, IsDenied-first, IsDenied-room, wants-one}
use Rattle.vm_model.proofs.PartLaws.{part_at-first, part_bytes-all}
use Rattle.fault.proofs.NeedingLaws.{LacksRoomToWrite-as}
use Rattle.fault.proofs.ThroughLaws.{WritesSpace-one}
use Rattle.vm_model.proofs.TouchedLaws.{touched-one}
use Rattle.fault.proofs.WritableLaws.{entry-found, IsAbsent-stays, one-free}
use Rattle.fault.proofs.WrittenLaws.{AreTrue-written}
use Rattle.fault.proofs.translations.Translations.write_in_page.Goals as goal

pub returns-in-Err-clause-outcome : goal.returns-in-Err-clause-outcome
returns-in-Err-clause-outcome g c =
    rw (touched-one c.args.addr _ c.requires.some c.requires.one)
    (IsDenied-first _ _ _ _ _ _ _ _ (rw c.page_of-page.ensures at c.in-Err.ensures), refl, refl)

pub returns-in-Err-make_ready-clause-outcome : goal.returns-in-Err-make_ready-clause-outcome
returns-in-Err-make_ready-clause-outcome g c =
    let found = rw c.page_of-page.ensures at c.in-Ok.ensures in
    let ready = c.in-Err-make_ready.ensures in
    rw (touched-one c.args.addr _ c.requires.some c.requires.one) (
      IsDenied-room _ _ _ _ (AreAsked-one _ _ _ _ _ found.0.entry found.1) _ _ _ (LacksRoomToWrite-as _ _ _ _ _ c.frames_for_one-need.ensures (rw c.faults-faults.ensures at ready.err))
          (wants-one _ _ _ _ _ _ found.0),
      ready.content,
      ready.places,
    )

pub write_page-requires-clause-same : goal.write_page-requires-clause-same
write_page-requires-clause-same g c =
    entry-found _ _ _ _ _ c.requires.translations _ _ c.in-Ok.ensures.0.entry c.in-Ok-make_ready.ensures.places

pub write_page-requires-clause-free : goal.write_page-requires-clause-free
write_page-requires-clause-free g c =
    rw c.in-Ok-make_ready.ensures.content
    (one-free _ _ _ (c.frames_for_one-need.ensures.enough c.in-Ok-make_ready.ensures.ok.free))

pub write_page-requires-clause-absent : goal.write_page-requires-clause-absent
write_page-requires-clause-absent g c =
    IsAbsent-stays _ _ c.args.root.0 c.page_of-page.result c.in-Ok.found c.in-Ok-make_ready.ensures.places c.in-Ok.ensures.0.absent

pub returns-clause-outcome : goal.returns-clause-outcome
returns-clause-outcome g c =
    let found = rw c.page_of-page.ensures at c.in-Ok.ensures in
    let ready = c.in-Ok-make_ready.ensures in
    let writes = rw (ready.content, ready.places, c.page_of-page.ensures) at c.write_page.ensures.writes in
    rw c.faults-faults.ensures (WritesSpace-one _ _ _ _ _ _ _ _ _ _ c.requires.backed.good c.requires.translations found.0
    (omega (arith, c.in_page.ensures, c.requires.one)) writes c.args.addr c.args.bytes.now (touched-one c.args.addr _ c.requires.some c.requires.one)
    (AreAsked-one _ _ _ _ _ found.0.entry found.1) (c.frames_for_one-need.ensures.enough ready.ok.free) (c.in_page.ensures ∙ part_at-first c.args.addr)
    (part_bytes-all c.args.addr c.args.bytes.now c.requires.one))

pub returns-clause-translations : goal.returns-clause-translations
returns-clause-translations g c =
    let ready = c.in-Ok-make_ready.ensures in
    AreTrue-written _ _ _ _ _ _ _ _ _ _ c.requires.backed.good c.requires.translations c.in-Ok.ensures.0 (omega (arith, c.in_page.ensures, c.requires.one))
    (rw (ready.content, ready.places) at c.write_page.ensures.writes)
