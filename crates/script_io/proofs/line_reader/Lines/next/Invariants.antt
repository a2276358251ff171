use Rattle.std.proofs.Common.{◌≡◌, ℕ, ◌+◌, ◌-◌, ◌≤◌, cond, true, List, []}
use Rattle.script_io.specs.Fetching.{IsPending, Waits}
use Rattle.script_io.proofs.line_reader.Lines.next.Given as goal

abbrev pub invariant-loop-fetch : goal.invariant-loop-fetch
invariant-loop-fetch g l = record {
  waits : (pending : List ℕ) → IsPending l.fn.self (g.S.Source.remaining l.fn.source) pending
      → Waits l.fn.self l.self (g.S.Source.remaining l.fn.source) (g.S.Source.remaining l.source) pending;
  limit : l.self.limit ≡ l.fn.self.limit;
  line : l.self.line ≡ [];
  ended : l.fn.self.ended ≡ true → (l.source ≡ l.fn.source) × (l.self.taken ≡ l.fn.self.taken) × (l.self.ended ≡ true);
  later : g.S.Source.faults l.fn.source ≤ g.S.Source.faults l.source;
}

abbrev pub decreases-loop-fetch : goal.decreases-loop-fetch
decreases-loop-fetch g l = (l.self.limit + 1 - l.self.taken) + cond l.self.ended 0 1
