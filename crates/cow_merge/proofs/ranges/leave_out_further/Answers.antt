-- What has a witness is passed over on the way up.
use Rattle.cow_merge.proofs.Words.{◌≡◌, ◌+◌, None, Some, refl, sym, ap, subst, ◌∙◌, arith, is_some, some_same, slots_of, Node, side_of}
use Rattle.cow_merge.proofs.Words.{no_pages, IsPassing}
use Rattle.cow_merge.proofs.PassedLaws.{bare-up}
use Rattle.cow_merge.proofs.ranges.leave_out_further.Goals as goal
use Rattle.cow_merge.proofs.RangeLaws.{lost-then}
use Rattle.cow_merge.proofs.JumpingLaws.{jumps-left}

pub node-above-requires : goal.node-above-requires
node-above-requires c = ap is_some c.requires.family.family.parent_at

pub cut_few-skip-requires : goal.cut_few-skip-requires
cut_few-skip-requires c =
    let under = c.requires.passing c.node-above.result c.node-above.ensures in
    let beside = c.leave_out_beside-beside.ensures.passing under.spared c.node-above.result c.node-above.ensures under.passing in
    record {
      passing = record { spared = under.spared; passing = beside };
      start = c.node-above.ensures;
      jumps = jumps-left beside.bare.has c.leave_out_beside-beside.ensures.lost _ c.requires.jumps;
    }

pub cut_upwards-requires-clause-passing : goal.cut_upwards-requires-clause-passing
cut_upwards-requires-clause-passing c =
    let under = c.requires.passing c.node-above.result c.node-above.ensures in
    record {
      spared = under.spared;
      passing =
          c.cut_few-skip.ensures.passing under.spared
          (c.leave_out_beside-beside.ensures.passing under.spared c.node-above.result c.node-above.ensures under.passing);
    }

pub cut_upwards-requires-clause-way : goal.cut_upwards-requires-clause-way
cut_upwards-requires-clause-way c = λ less.
    let of = c.requires.family in
    let base = c.requires.base of.node of.family.at in
    let end = c.requires.end of.node of.family.at in
    let under = c.requires.passing c.node-above.result c.node-above.ensures in
    record {
      side = Some (side_of c.node-above.result c.args.family.leaf.0);
      way = bare-up c.args.arena.now under.passing.bare.has.exact.forest c.args.family.leaf.0 c.args.span.first c.args.family.leaf.0 c.args.family.hidden of.node c.node-above.result
          c.args.span.first (c.args.span.first + c.args.span.shift) of.family.at of.family.parent_is c.node-above.ensures (omega arith) (omega arith)
          (record { side = None; way = (refl, refl) });
    }

pub returns : goal.returns
returns c = record {
  sparing = λ spared above at was.
      c.cut_upwards.ensures.sparing spared (c.cut_few-skip.ensures.passing spared
      (c.leave_out_beside-beside.ensures.passing spared c.node-above.result c.node-above.ensures
      (subst (λ (n : Node). IsPassing c.args.arena.now c.args.lists.now c.args.frames.now c.args.family.leaf.0 c.args.span.first no_pages spared n c.args.span.shift c.args.span.to c.args.span.to)
      (some_same (sym at ∙ c.node-above.ensures)) was)));
  kept = λ above at.
      let same : c.node-above.result ≡ above = some_same (sym c.node-above.ensures ∙ at) in
      subst (λ (n : Node). slots_of c.cut_upwards.new.lists n.list.0 ≡ slots_of c.args.lists.now n.list.0) same
      (c.cut_upwards.ensures.kept ∙ (c.cut_few-skip.ensures.kept ∙ c.leave_out_beside-beside.ensures.kept c.node-above.result c.node-above.ensures));
  lost = lost-then (lost-then c.leave_out_beside-beside.ensures.lost c.cut_few-skip.ensures.lost) c.cut_upwards.ensures.lost;
}
