use Rattle.std.proofs.Common.{◌≡◌, ◌+◌, ◌*◌, ◌≤◌, ◌++◌, take, codes, decimal}
use Rattle.std.specs.List.{flat_map}
use Rattle.reply_text.proofs.parts.put_numbers.Given as goal

abbrev pub invariant-loop-number : goal.invariant-loop-number
invariant-loop-number l = record {
  room : l.end ≤ l.at + 21 * l.number-index;
  written : take l.end l.out ≡ take l.at l.fn.out
      ++ flat_map (λ n. codes " " ++ decimal n) (take l.number-index l.numbers);
}
