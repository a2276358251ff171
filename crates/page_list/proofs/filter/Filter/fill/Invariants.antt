use Rattle.std.proofs.Common.{◌-◌, ◌^◌}
use Rattle.page_list.specs.inside.Filter.{AreFilteredBelow}
use Rattle.page_list.proofs.filter.Filter.fill.Given as goal

-- the bits of the rows up to here are set
abbrev pub invariant-loop-row : goal.invariant-loop-row
invariant-loop-row l = AreFilteredBelow l.self l.tree l.from

abbrev pub decreases-loop-row : goal.decreases-loop-row
decreases-loop-row l = 2 ^ 128 - l.from
