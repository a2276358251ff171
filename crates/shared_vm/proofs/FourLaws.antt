-- The four actors, one by one.
use Rattle.std.proofs.Common.{◌≡◌, ◌≢◌, ℕ, zero, suc, ◌+◌, ◌<◌, ◌≤◌, length, refl, arith}
use Rattle.shared_vm.specs.declared.counts.Counts.{Counts}
use Rattle.shared_vm.specs.Tasks.{Lists, tasks_of, task_count}
use Rattle.shared_vm.specs.Rooms.{actor_count, raised}

-- what holds of each actor holds of all
pub by_four : (F : ℕ → Type 0) → F 0 → F 1 → F 2 → F 3 → (actor : ℕ) → actor ≤ 3 → F actor
by_four F f0 f1 f2 f3 zero le = f0
by_four F f0 f1 f2 f3 (suc zero) le = f1
by_four F f0 f1 f2 f3 (suc (suc zero)) le = f2
by_four F f0 f1 f2 f3 (suc (suc (suc zero))) le = f3
by_four F f0 f1 f2 f3 (suc (suc (suc (suc n)))) le = absurd (omega (arith, le))

-- there is a deed less than tasks
pub fewer : (lists : Lists) (done : Counts) (actor : ℕ) → actor ≤ 3 → ((a : ℕ) → a ≤ 3 → actor_count done a ≤ length (tasks_of lists a))
    → actor_count done actor < length (tasks_of lists actor) → done.a0 + done.a1 + done.a2 + done.a3 < task_count lists
fewer lists done actor le within =
    let w0 = within 0 (omega arith) in
    let w1 = within 1 (omega arith) in
    let w2 = within 2 (omega arith) in
    let w3 = within 3 (omega arith) in
    by_four (λ a. actor_count done a < length (tasks_of lists a) → done.a0 + done.a1 + done.a2 + done.a3 < task_count lists)
    (λ less. omega (arith, w0, w1, w2, w3, less)) (λ less. omega (arith, w0, w1, w2, w3, less))
    (λ less. omega (arith, w0, w1, w2, w3, less)) (λ less. omega (arith, w0, w1, w2, w3, less)) actor le

-- one deed more is counted once
pub raised_all : (done : Counts) (actor : ℕ) → actor ≤ 3
    → (raised done actor).a0 + (raised done actor).a1 + (raised done actor).a2 + (raised done actor).a3 ≡ done.a0 + done.a1 + done.a2 + done.a3 + 1
raised_all done actor le = by_four (λ a. (raised done a).a0 + (raised done a).a1 + (raised done a).a2 + (raised done a).a3 ≡ done.a0 + done.a1 + done.a2 + done.a3 + 1)
    (omega arith) (omega arith) (omega arith) (omega arith) actor le

pub raised_own : (done : Counts) (actor : ℕ) → actor ≤ 3 → actor_count (raised done actor) actor ≡ actor_count done actor + 1
raised_own done actor le = by_four (λ a. actor_count (raised done a) a ≡ actor_count done a + 1) refl refl refl refl actor le

pub raised_other : (done : Counts) (actor a : ℕ) → actor ≤ 3 → a ≤ 3 → actor ≢ a → actor_count (raised done actor) a ≡ actor_count done a
raised_other done actor a le less =
    by_four (λ x. x ≢ a → actor_count (raised done x) a ≡ actor_count done a)
    (by_four (λ y. 0 ≢ y → actor_count (raised done 0) y ≡ actor_count done y) (λ ne. absurd (ne refl)) (λ ne. refl) (λ ne. refl) (λ ne. refl) a less)
    (by_four (λ y. 1 ≢ y → actor_count (raised done 1) y ≡ actor_count done y) (λ ne. refl) (λ ne. absurd (ne refl)) (λ ne. refl) (λ ne. refl) a less)
    (by_four (λ y. 2 ≢ y → actor_count (raised done 2) y ≡ actor_count done y) (λ ne. refl) (λ ne. refl) (λ ne. absurd (ne refl)) (λ ne. refl) a less)
    (by_four (λ y. 3 ≢ y → actor_count (raised done 3) y ≡ actor_count done y) (λ ne. refl) (λ ne. refl) (λ ne. refl) (λ ne. absurd (ne refl)) a less)
    actor le
