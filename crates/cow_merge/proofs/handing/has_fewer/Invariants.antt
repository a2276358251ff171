use Rattle.cow_merge.proofs.Words.{◌-◌, ◌^◌}
use Rattle.cow_merge.proofs.handing.has_fewer.Given as goal

abbrev pub decreases-loop-page : goal.decreases-loop-page
decreases-loop-page l = 2 ^ 64 - l.beside
