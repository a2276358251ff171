use Rattle.std.proofs.Common.{◌∙◌}
use Rattle.machine.proofs.ChangeLaws.{touched_part}
use Rattle.machine.proofs.pinning.range_changed.Goals as goal

pub returns : goal.returns
returns c = c.frames_changed.ensures ∙ touched_part c.args.target.now c.args.range.offset c.args.range.len c.touched_by-touched.result c.touched_by-touched.ensures
