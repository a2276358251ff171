use Rattle.std.proofs.Common.{◌≡◌, ◌+◌, ◌-◌, ◌≤◌, length, Some}
use Rattle.std.specs.List.{filter, range_with_len}
use Rattle.source_model.specs.State.{is_absent}
use Rattle.source_vm.proofs.ranges.count_absent.Given as goal

abbrev pub invariant-loop-page : goal.invariant-loop-page
invariant-loop-page g l =
    let absent = is_absent (g.P.PageStore.content l.store) (Some l.backing) l.v.0 in
    record {
      order : l.first ≤ l.from;
      inside : l.from ≤ l.end;
      counted : l.absent ≡ length (filter absent (range_with_len l.first (l.from - l.first))) + (l.end - l.from);
    }

abbrev pub decreases-loop-page : goal.decreases-loop-page
decreases-loop-page g l = l.end - l.from
