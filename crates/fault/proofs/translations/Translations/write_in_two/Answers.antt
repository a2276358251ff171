use Rattle.std.proofs.Common.{◌+◌, refl}
use Rattle.mapping_set.specs.Tables.{table_of}
use Rattle.fault.specs.Access.{WritesSpace}
use Rattle.fault.specs.Table.{translations_of, AreTrue}
use Rattle.fault.specs.inside.Writable.{fault_of}
use Rattle.fault.proofs.BothLaws.{AreFound-ready}
use Rattle.fault.proofs.AskedLaws.{AreAsked-two, IsDenied-room, wants-two}
use Rattle.vm_model.proofs.TouchedLaws.{touched-two}
use Rattle.fault.proofs.translations.Translations.write_in_two.Given.{Over}
use Rattle.fault.proofs.translations.Translations.write_in_two.Goals as goal

pub returns-in-Err-clause-outcome : goal.returns-in-Err-clause-outcome
returns-in-Err-clause-outcome g c =
    rw (touched-two c.args.addr _ c.requires.two c.requires.len) (rw c.page_of.ensures at c.in-Err.ensures _, refl, refl)

pub returns-in-Err-make_ready-clause-outcome : goal.returns-in-Err-make_ready-clause-outcome
returns-in-Err-make_ready-clause-outcome g c =
    let found = rw c.page_of.ensures at c.in-Ok.ensures in
    let ready = c.in-Err-make_ready.ensures in
    rw (touched-two c.args.addr _ c.requires.two c.requires.len) (
      IsDenied-room _ _ _ _ (AreAsked-two _ _ _ _ _ _ _ found.0.0.entry found.0.1 found.1.0.entry found.1.1) _ _ _
          (rw (c.frames_needed-need.ensures, c.faults.ensures, c.faults-2.ensures) at ready.err)
          (wants-two _ _ _ _ _ _ _ _ found.0.0 found.1.0),
      ready.content,
      ready.places,
    )

pub write_both-requires-clause-found : goal.write_both-requires-clause-found
write_both-requires-clause-found g c =
    let found = rw c.page_of.ensures at c.in-Ok.ensures in
    let ready = c.in-Ok-make_ready.ensures in (
      table_of c.args.maps.now,
      AreFound-ready _ _ _ _ _ _ _ _ _ _ _ _ _ c.requires.backed.good c.requires.translations found.0 found.1
          c.frames_needed-need.ensures ready.content ready.places ready.ok,
    )

pub write_both-requires-clause-spare : goal.write_both-requires-clause-spare
write_both-requires-clause-spare g c = rw (← c.faults.ensures, ← c.faults-2.ensures) c.in-Ok-make_ready.ensures.ok.rows_fit

pub write_both-requires-clause-room : goal.write_both-requires-clause-room
write_both-requires-clause-room g c = rw (← c.faults.ensures, ← c.faults-2.ensures) c.in-Ok-make_ready.ensures.ok.places_fit

-- both pages were written
both : (g : Over) (c : goal.After-write_both g)
    → WritesSpace (g.P.PageStore.content c.make_ready.new.store) (table_of c.args.maps.now) c.args.root.0 c.args.addr c.args.bytes.now (translations_of c.make_ready.new.self)
    (fault_of c.in-Ok.found.0 + fault_of c.in-Ok.found.1) (g.P.PageStore.content c.write_both.new.store) (translations_of c.write_both.new.self)
    × AreTrue (g.P.PageStore.content c.write_both.new.store) (table_of c.args.maps.now) (translations_of c.write_both.new.self)
both g c =
    let found = rw c.page_of.ensures at c.in-Ok.ensures in
    let ready = c.in-Ok-make_ready.ensures in
    c.write_both.ensures.writes (table_of c.args.maps.now) (AreFound-ready _ _ _ _ _ _ _ _ _ _ _ _ _ c.requires.backed.good c.requires.translations
    found.0 found.1 c.frames_needed-need.ensures ready.content ready.places ready.ok)

pub returns-clause-outcome : goal.returns-clause-outcome
returns-clause-outcome g c =
    let ready = c.in-Ok-make_ready.ensures in
    rw (c.faults.ensures, c.faults-2.ensures) (rw (ready.content, ready.places) at (both g c).0)

pub returns-clause-translations : goal.returns-clause-translations
returns-clause-translations g c = (both g c).1

pub returns-in-Err-clause-translations : goal.returns-in-Err-clause-translations
returns-in-Err-clause-translations g c = c.requires.translations

pub returns-in-Err-make_ready-clause-translations : goal.returns-in-Err-make_ready-clause-translations
returns-in-Err-make_ready-clause-translations g c =
    let ready = c.in-Err-make_ready.ensures in rw (ready.content, ready.places) c.requires.translations

pub frames_needed-need-requires-clause-first : goal.frames_needed-need-requires-clause-first
frames_needed-need-requires-clause-first g c = c.in-Ok.ensures.0.0.store

pub frames_needed-need-requires-clause-second : goal.frames_needed-need-requires-clause-second
frames_needed-need-requires-clause-second g c = c.in-Ok.ensures.1.0.store
