use Rattle.std.proofs.Common.{◌∙◌, ◌++◌, ◌+◌, ◌%◌, ◌∷◌, [], sym, ap, List, ℕ, arith}
use Rattle.std.proofs.lemmas.List.{take_more_set}
use Rattle.std.proofs.lemmas.List.FromFn.{map-range_with_len_more}
use Rattle.source_vm.proofs.source_fn.count_up.Goals as goal

pub loop-i-preserved : goal.loop-i-preserved
loop-i-preserved c =
    let at = c.loop-i.i in
    let byte = (c.args.first + at) % 256 in
    take_more_set c.loop-i.out at byte (omega arith)
    ∙ (ap (λ (xs : List ℕ). xs ++ byte ∷ []) c.loop-i.invariant
    ∙ sym (map-range_with_len_more (λ i. (c.args.first + i) % 256) 0 at at (omega arith)))
