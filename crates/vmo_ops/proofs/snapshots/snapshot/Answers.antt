use Rattle.std.proofs.Common.{arith}
use Rattle.vmo_ops.specs.Targets.{with_tables}
use Rattle.vmo_ops.proofs.AskLaws.{Step-refused, asked-of}
use Rattle.vmo_ops.proofs.CopyRows.{copies-host, copies-entered}
use Rattle.vmo_ops.proofs.NameLaws.{named_inside, named_known}
use Rattle.vmo_ops.proofs.snapshots.snapshot.Goals as goal

pub ask_to_snapshot-requires-clause-inside : goal.ask_to_snapshot-requires-clause-inside
ask_to_snapshot-requires-clause-inside g c = named_inside _ _ c.requires.parts.good c.requires.named

pub snapshot_owned-requires-clause-vmo : goal.snapshot_owned-requires-clause-vmo
snapshot_owned-requires-clause-vmo g c = (named_inside _ _ c.requires.parts.good c.requires.named).vmo

pub snapshot_owned-requires-clause-count : goal.snapshot_owned-requires-clause-count
snapshot_owned-requires-clause-count g c = (c.in-Ok.ensures.ok.within, c.in-Ok.ensures.ok.most)

pub snapshot_owned-requires-clause-range : goal.snapshot_owned-requires-clause-range
snapshot_owned-requires-clause-range g c = c.in-Ok.ensures.ok.inside

pub snapshot_owned-requires-clause-copied : goal.snapshot_owned-requires-clause-copied
snapshot_owned-requires-clause-copied g c = c.in-Ok.ensures.ok.copies

pub snapshot_owned-requires-clause-free : goal.snapshot_owned-requires-clause-free
snapshot_owned-requires-clause-free g c = c.in-Ok.ensures.ok.free

pub enter-requires-clause-parent : goal.enter-requires-clause-parent
enter-requires-clause-parent g c =
    rw c.reserve.ensures.lineage (named_known _ _ c.requires.parts.good c.requires.named)

-- it is refused
pub returns-in-Err-clause-step : goal.returns-in-Err-clause-step
returns-in-Err-clause-step g c = λ rest parent named.
    let s = with_tables rest (g.P.PageStore.content c.args.store.now) c.args.vmos.now c.args.pins.now in
    Step-refused s _ _ (c.in-Err.ensures.refusal s c.args.name parent named c.requires.closed)

-- the host has too little memory for the name
pub returns-in_default-clause-step : goal.returns-in_default-clause-step
returns-in_default-clause-step g c = λ rest parent named.
    let s = with_tables rest (g.P.PageStore.content c.args.store.now) c.args.vmos.now c.args.pins.now in
    let part = c.in-Ok.ensures.ok in
    rw (c.reserve.ensures.names, c.reserve.ensures.lineage)
    (copies-host (asked-of {s = s} part named c.requires.closed) (omega (arith, part.copies, part.free)))

-- or for the snapshot
pub returns-in_default-snapshot_owned-clause-step : goal.returns-in_default-snapshot_owned-clause-step
returns-in_default-snapshot_owned-clause-step g c = λ rest parent named.
    let s = with_tables rest (g.P.PageStore.content c.args.store.now) c.args.vmos.now c.args.pins.now in
    let part = c.in-Ok.ensures.ok in
    rw (c.reserve.ensures.names, c.reserve.ensures.lineage, c.in_default-snapshot_owned.ensures.err)
    (copies-host (asked-of {s = s} part named c.requires.closed) (omega (arith, part.copies, part.free)))

-- the snapshot is there
pub returns-clause-step : goal.returns-clause-step
returns-clause-step g c = λ rest parent named.
    let s = with_tables rest (g.P.PageStore.content c.args.store.now) c.args.vmos.now c.args.pins.now in
    let part = c.in-Ok.ensures.ok in
    copies-entered (asked-of {s = s} part named c.requires.closed) (omega (arith, part.copies, part.free))
    part.whole c.in-Ok-snapshot_owned.ensures.koid c.in-Ok-snapshot_owned.ensures.ok
    (rw c.reserve.ensures.names at c.enter.ensures.names) (rw c.reserve.ensures.lineage at c.enter.ensures.lineage)
