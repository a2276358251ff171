-- Bytes that move in several calls, and calls that fail.
use Rattle.std.proofs.Common.{◌≡◌, ℕ, ◌+◌, ◌-◌, ◌≤◌, ◌<◌, min, Option, List, [], ◌++◌, length, take, drop, sym, ap, ◌∙◌, subst, arith, take-append-drop, length-drop, Result, Ok, Err, OnErr}
use Rattle.std.proofs.Math.Seq.{take-add}
use Rattle.std.proofs.lemmas.List.{take_rest, drop-drop, drop_all}
use Rattle.std.proofs.KnownBytes.{Appends-trans}
use Rattle.std.specs.Io.KnownBytes.{Appends}

-- a front part was taken, and then the front of the bytes behind it
pub Appends-more : (a b c : Option (List ℕ)) (bytes : List ℕ) (at n : ℕ) → Appends a b (take at bytes)
    → Appends b c (take n (take (length bytes - at) (drop at bytes))) → Appends a c (take (at + n) bytes)
Appends-more a b c bytes at n first second =
    let behind : Appends b c (take n (drop at bytes)) = subst (λ (rest : List ℕ). Appends b c (take n rest))
    (take_rest bytes at) second in
    subst (Appends a c) (sym (take-add at n bytes)) (Appends-trans a b c _ _ first behind)

-- a call gave the front of the bytes that were left: of `whole`, which are the source's bytes, those from `at` on
pub given_front : (bytes whole rest out : List ℕ) (at n piece room : ℕ) → at ≤ length bytes → 1 ≤ piece → 0 < room
    → whole ≡ bytes → rest ≡ drop at bytes
    → n ≡ min piece (min (length (take (length whole - at) (drop at whole))) room)
    → take n out ≡ take n (take (length whole - at) (drop at whole))
    → (rest ≡ take n out ++ drop (at + n) bytes) × (n ≡ 0 → 0 < length out → drop (at + n) bytes ≡ [])
given_front bytes whole rest out at n piece room within some roomy same left count front =
    let behind : take (length whole - at) (drop at whole) ≡ drop at bytes = take_rest whole at ∙ ap (drop at) same in
    let moved : take n out ≡ take n (drop at bytes) = front ∙ ap (take n) behind in
    let many : n ≡ min piece (min (length bytes - at) room) = count
    ∙ ap (λ (xs : List ℕ). min piece (min (length xs) room)) behind
    ∙ ap (λ (k : ℕ). min piece (min k room)) (length-drop at bytes) in (
      left ∙ sym (take-append-drop n (drop at bytes)) ∙ ap (λ (xs : List ℕ). xs ++ drop n (drop at bytes)) (sym moved)
          ∙ ap (λ (xs : List ℕ). take n out ++ xs) (drop-drop n at bytes),
      λ none _. drop_all (at + n) bytes (omega arith),
    )

-- a fact that holds, for an error
pub on_err : {T E P : Type 0} (result : Result T E) → P → OnErr result P
on_err (Ok x) h = tt
on_err (Err e) h = h
