use Rattle.std.proofs.Common.{arith}
use Rattle.vmo_ops.proofs.CopyRows.{made-good, made-inside, made-free, made-owns}
use Rattle.vmo_ops.proofs.snapshots.snapshot_owned.Goals as goal

pub own_copies-requires-clause-good : goal.own_copies-requires-clause-good
own_copies-requires-clause-good g c =
    made-good (g.P.PageStore.content c.args.store.now) c.args.of.0 c.args.part.first c.args.part.seen c.args.part.pages c.requires.good _ _
    (rw c.reserve.ensures.same at c.in-Ok-snapshot.ensures.ok) (rw c.reserve.ensures.same at c.in-Ok-snapshot.ensures.koid) c.requires.count.0 c.requires.count.1

pub own_copies-requires-clause-inside : goal.own_copies-requires-clause-inside
own_copies-requires-clause-inside g c =
    made-inside (g.P.PageStore.content c.args.store.now) c.args.of.0 c.args.part.first c.args.part.seen c.args.part.pages c.requires.good _ _
    (rw c.reserve.ensures.same at c.in-Ok-snapshot.ensures.ok) (rw c.reserve.ensures.same at c.in-Ok-snapshot.ensures.koid) c.requires.count.0

pub own_copies-requires-clause-room : goal.own_copies-requires-clause-room
own_copies-requires-clause-room g c = omega (arith, c.requires.copied, c.in-Ok.ensures.room, c.snapshot.ensures.kept)

pub own_copies-requires-clause-free : goal.own_copies-requires-clause-free
own_copies-requires-clause-free g c =
    made-free (g.P.PageStore.content c.args.store.now) c.args.of.0 c.args.part.first c.args.part.seen c.args.part.pages c.requires.good _ _
    (rw c.reserve.ensures.same at c.in-Ok-snapshot.ensures.ok) (rw c.reserve.ensures.same at c.in-Ok-snapshot.ensures.koid) _ (rw (← c.requires.copied) c.requires.free)

pub returns-clause-ok : goal.returns-clause-ok
returns-clause-ok g c =
    made-owns (g.P.PageStore.content c.args.store.now) c.args.of.0 c.args.part.first c.args.part.seen c.args.part.pages c.requires.good _ _
    (rw c.reserve.ensures.same at c.in-Ok-snapshot.ensures.ok) (rw c.reserve.ensures.same at c.in-Ok-snapshot.ensures.koid) _ _ c.own_copies.ensures
