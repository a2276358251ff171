use Rattle.std.proofs.Common.{◌≡◌, ◌≤◌, length, map}
use Rattle.std.specs.String.{string_bytes}
use Rattle.vm_base.specs.declared.limits.TheConstants.{FRAMES}
use Rattle.vmotree.specs.Words.{first_request, with_all_words}
use Rattle.vmotree.proofs.request.request_in.Given as goal

abbrev pub invariant-loop-rest : goal.invariant-loop-rest
invariant-loop-rest l = record {
  same : with_all_words l.request (map string_bytes l.rest) ≡ with_all_words first_request (map string_bytes l.fn.words);
  range : (1 ≤ l.request.frames) × (l.request.frames ≤ FRAMES);
}

abbrev pub decreases-loop-rest : goal.decreases-loop-rest
decreases-loop-rest l = length l.rest
