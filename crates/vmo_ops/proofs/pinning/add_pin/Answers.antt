use Rattle.std.proofs.Common.{arith}
use Rattle.vmo_ops.proofs.pinning.add_pin.Goals as goal

pub returns-clause-keepers : goal.returns-clause-keepers
returns-clause-keepers g c = c.keep.ensures.keepers

pub returns-clause-names : goal.returns-clause-names
returns-clause-names g c = c.keep.ensures.names

pub returns-clause-lineage : goal.returns-clause-lineage
returns-clause-lineage g c = c.keep.ensures.lineage

pub own_frames-requires-clause-whole : goal.own_frames-requires-clause-whole
own_frames-requires-clause-whole g c = (c.requires.whole.0, c.requires.whole.1)

pub add-requires-clause-few : goal.add-requires-clause-few
add-requires-clause-few g c =
    let range = c.requires.whole in
    (omega (arith, c.page_of-count.ensures, range.1, range.2), omega (arith, c.page_of-count.ensures, range.3))
