use Rattle.std.proofs.Common.{refl}
use Rattle.balanced_tree.proofs.PlainLaws.{less_of, most_of}
use Rattle.balanced_tree.proofs.Nodes.{found-left, found-right, found-here}
use Rattle.balanced_tree.proofs.DescentLaws.{descends-start, descends-end, descends-steps, descends-place, descends-left, descends-right, descends-here, lower-descends-left, lower-descends-right, lower-descends-here}
use Rattle.balanced_tree.proofs.descent.find_below.Goals as goal

pub loop-at-init : goal.loop-at-init
loop-at-init g c = descends-start g.R.TreeRow.functions

pub look-here-requires : goal.look-here-requires
look-here-requires g c = descends-place g.R.TreeRow.functions c.loop-at.invariant c.requires c.in-Some.is

pub loop-at-smaller-then-rank-there : goal.loop-at-smaller-then-rank-there
loop-at-smaller-then-rank-there g c =
    lower-descends-left g.R.TreeRow.functions c.loop-at.invariant g.met.R.TreeRow.lawful c.in-Some.is c.look-here.ensures.row c.requires c.left-at.ensures

pub loop-at-preserved-then-rank-there : goal.loop-at-preserved-then-rank-there
loop-at-preserved-then-rank-there g c =
    let f = g.R.TreeRow.functions in
    descends-left f c.loop-at.invariant g.met.R.TreeRow.lawful c.in-Some.is c.look-here.ensures.row
    (λ t low high n. found-left f n c.args.down c.args.rank _ _ c.nearer-best.ensures (less_of refl c.rank-there.ensures c.if-rank-there.true)) c.left-at.ensures c.look-here.ensures.step

pub loop-at-smaller-then-there-rank : goal.loop-at-smaller-then-there-rank
loop-at-smaller-then-there-rank g c =
    lower-descends-right g.R.TreeRow.functions c.loop-at.invariant g.met.R.TreeRow.lawful c.in-Some.is c.look-here.ensures.row c.requires c.right-at.ensures

pub loop-at-preserved-then-there-rank : goal.loop-at-preserved-then-there-rank
loop-at-preserved-then-there-rank g c =
    let f = g.R.TreeRow.functions in
    descends-right f c.loop-at.invariant g.met.R.TreeRow.lawful c.in-Some.is c.look-here.ensures.row
    (λ t low high n. found-right f n c.args.down c.args.rank _ _ c.nearer-best-then-there-rank.ensures (less_of c.rank-there.ensures refl c.if-there-rank.true)) c.right-at.ensures c.look-here.ensures.step

pub loop-at-smaller : goal.loop-at-smaller
loop-at-smaller g c =
    lower-descends-here g.R.TreeRow.functions c.loop-at.invariant g.met.R.TreeRow.lawful c.in-Some.is c.look-here.ensures.row c.requires

pub loop-at-preserved : goal.loop-at-preserved
loop-at-preserved g c =
    let f = g.R.TreeRow.functions in
    descends-here f c.loop-at.invariant g.met.R.TreeRow.lawful c.in-Some.is c.look-here.ensures.row
    (λ t low high n. found-here f n c.args.down c.args.rank _ (most_of refl c.rank-there.ensures c.if-rank-there.false) (most_of c.rank-there.ensures refl c.if-there-rank.false)) c.look-here.ensures.step

pub returns-clause-row : goal.returns-clause-row
returns-clause-row g c = λ tree low high h. descends-end g.R.TreeRow.functions c.loop-at.invariant c.in_default.is refl tree low high h

pub returns-clause-steps : goal.returns-clause-steps
returns-clause-steps g c = descends-steps g.R.TreeRow.functions c.loop-at.invariant
