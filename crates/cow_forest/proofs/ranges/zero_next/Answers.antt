use Rattle.cow_forest.proofs.RangeLaws.{zero-run}
use Rattle.cow_forest.proofs.JumpKeptLaws.{jumps-zeroed}
use Rattle.cow_forest.proofs.ranges.zero_next.Goals as goal

pub next_shown_or_end-next-requires-clause-jumps : goal.next_shown_or_end-next-requires-clause-jumps
next_shown_or_end-next-requires-clause-jumps c =
    (c.requires.jumps.0, jumps-zeroed _ _ _ _ _ _ _ _ c.requires.exact.forest _ c.requires.page.visible c.zero_by_jumps-held.ensures.zeroed _ _ c.requires.jumps.1)

pub returns-clause-zero : goal.returns-clause-zero
returns-clause-zero c = zero-run _ _ _ _ c.zero_by_jumps-held.ensures.zero c.next_shown_or_end-next.ensures.none
