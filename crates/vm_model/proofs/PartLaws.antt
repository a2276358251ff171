-- Which bytes of a write fall into the first page that it touches, and which into the second.
use Rattle.std.proofs.Common.{◌≡◌, ℕ, ◌+◌, ◌-◌, ◌*◌, ◌/◌, ◌%◌, ◌≤◌, List, length, take, drop, refl, sym, ◌∙◌, arith}
use Rattle.std.proofs.lemmas.List.{take_all, length-drop}
use Rattle.vm_base.specs.declared.limits.TheConstants.{PAGE}
use Rattle.vm_model.specs.Contents.Writing.{part_at, part_bytes}

-- the first part begins where the write does
pub part_at-first : (addr : ℕ) → addr % PAGE ≡ part_at addr (addr / PAGE)
unfolding part_at
part_at-first addr = omega arith

-- and has the bytes that fit there
pub part_bytes-first : (addr at : ℕ) (bytes : List ℕ) → at ≡ addr % PAGE → take (PAGE - at) bytes ≡ part_bytes addr bytes (addr / PAGE)
unfolding part_bytes
part_bytes-first addr at bytes is =
    let from : PAGE * (addr / PAGE) - addr ≡ 0 = omega arith in
    let until : PAGE * (addr / PAGE + 1) - addr ≡ PAGE - at = omega (arith, is) in
    let all : (PAGE - at) - 0 ≡ PAGE - at = omega arith in
    rw (from, until, all) refl

-- all of them, where they do
pub part_bytes-all : (addr : ℕ) (bytes : List ℕ) → addr % PAGE + length bytes ≤ PAGE → bytes ≡ part_bytes addr bytes (addr / PAGE)
part_bytes-all addr bytes fits = sym (take_all (PAGE - addr % PAGE) bytes (omega arith)) ∙ part_bytes-first addr (addr % PAGE) bytes refl

-- the second part begins where its page does
pub part_at-second : (addr : ℕ) → 0 ≡ part_at addr (addr / PAGE + 1)
unfolding part_at
part_at-second addr = omega arith

-- and has the other bytes of a write of at most a page
pub part_bytes-second : (addr at : ℕ) (bytes : List ℕ) → at ≡ addr % PAGE → length bytes ≤ PAGE → drop (PAGE - at) bytes ≡ part_bytes addr bytes (addr / PAGE + 1)
unfolding part_bytes
part_bytes-second addr at bytes is few =
    let from : PAGE * (addr / PAGE + 1) - addr ≡ PAGE - at = omega (arith, is) in
    let until : PAGE * ((addr / PAGE + 1) + 1) - addr ≡ (PAGE - at) + PAGE = omega (arith, is) in
    let rest = length-drop (PAGE - at) bytes in
    rw (from, until) (sym (take_all (((PAGE - at) + PAGE) - (PAGE - at)) (drop (PAGE - at) bytes) (omega (arith, rest))))
