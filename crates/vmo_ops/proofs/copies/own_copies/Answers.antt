use Rattle.std.proofs.Common.{arith}
use Rattle.vmo_ops.proofs.CopyRows.{owning-page, owning-room, owning-next, owning-end}
use Rattle.vmo_ops.proofs.copies.own_copies.Goals as goal

pub loop-page-init : goal.loop-page-init
loop-page-init g c = record {
  bound = omega arith;
  good = c.requires.good;
  inside = c.requires.inside;
  room = c.requires.room;
  free = c.requires.free;
  reach = λ last all. all;
}

pub own-requires-clause-page : goal.own-requires-clause-page
own-requires-clause-page g c = owning-page c.loop-page.invariant c.in-Some.ensures

pub own-requires-clause-room : goal.own-requires-clause-room
own-requires-clause-room g c = owning-room c.loop-page.invariant c.in-Some.ensures

pub loop-page-preserved : goal.loop-page-preserved
loop-page-preserved g c = owning-next c.loop-page.invariant c.in-Some.ensures c.own.ensures.owns c.own.ensures.spare

pub returns : goal.returns
returns g c = owning-end c.loop-page.invariant c.in_default.ensures
