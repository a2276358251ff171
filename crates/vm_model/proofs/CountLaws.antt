-- How many VMOs there are, where one comes or leaves.
use Rattle.std.proofs.Common.{◌≡◌, ℕ, ◌+◌, ◌<◌, Bool, IsSome, ap, ◌∙◌, arith}
use Rattle.std.specs.Prelude.{is_some}
use Rattle.vm_base.specs.Entries.{with_key}
use Rattle.vm_base.proofs.SearchLaws.{count_below_same, count_below-suc, count_below_change, count_below-bound, bit-true, bit-false}
use Rattle.vm_base.proofs.EntryLaws.{with_key-same, with_key-other}
use Rattle.vm_model.specs.Contents.Content.{Content, vmos_of, created, IsGood}
use Rattle.vm_model.specs.Contents.Sharing.{only, without}
use Rattle.vm_model.proofs.SharingLaws.{koid_some, count-without_here, count-without_other}

pub vmos_of-same : (c d : Content) → d.next ≡ c.next → ((v : ℕ) → is_some (d.count v) ≡ is_some (c.count v)) → vmos_of d ≡ vmos_of c
unfolding vmos_of
vmos_of-same c d next same =
    count_below-bound d.next c.next (λ v. is_some (d.count v)) next
    ∙ count_below_same c.next (λ v. is_some (d.count v)) (λ v. is_some (c.count v)) (λ v h. same v)

pub vmos_of-created : (c : Content) (n : ℕ) → vmos_of (created c n) ≡ vmos_of c + 1
unfolding vmos_of created
vmos_of-created c n =
    let test : ℕ → Bool = λ v. is_some (with_key c.count c.next n v) in
    let new = bit-true (test c.next) (ap is_some (with_key-same c.count c.next n)) in
    let old = count_below_same c.next test (λ v. is_some (c.count v)) (λ v h. ap is_some (with_key-other c.count c.next n v (λ e. absurd (omega arith)))) in
    omega (arith, count_below-suc c.next test, new, old)

-- a VMO whose koid is below the next leaves
pub vmos_of-less : (c : Content) (v : ℕ) → v < c.next → IsSome (c.count v) → vmos_of (without c v) + 1 ≡ vmos_of c
unfolding vmos_of only
vmos_of-less c v below some =
    let test : ℕ → Bool = λ w. is_some ((without c v).count w) in
    let change = count_below_change c.next v (λ w. is_some (c.count w)) test below (λ w h apart. ap is_some (count-without_other c v w apart)) in
    omega (arith, change, bit-true (is_some (c.count v)) some, bit-false (test v) (ap is_some (count-without_here c v)))

pub vmos_of-without : (c : Content) (v : ℕ) → IsGood c → IsSome (c.count v) → vmos_of (without c v) + 1 ≡ vmos_of c
vmos_of-without c v good some = vmos_of-less c v (koid_some c v good some) some
