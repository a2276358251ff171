-- Small laws over plain numbers and tests. An answer that cites one needs no search of all that is known there.
use Rattle.std.proofs.Common.{◌≡◌, ◌⊎◌, ℕ, ◌+◌, ◌<◌, ◌≤◌, Bool, true, false, IsTrue, inl, inr, ◌∙◌, arith}

pub less_of : {a b x y : ℕ} → x ≡ a → y ≡ b → x < y → a < b
less_of e g h = omega arith

pub most_of : {a b x y : ℕ} → x ≡ a → y ≡ b → y ≤ x → b ≤ a
most_of e g h = omega arith

-- where the second number is called another way too
pub less_there : {a b d x y : ℕ} → x ≡ a → y ≡ b → b ≡ d → x < y → a < d
less_there e g same h = omega arith

pub past_there : {a b d x y : ℕ} → x ≡ a → y ≡ b → a ≡ d → x < y → d + 1 ≤ b
past_there e g same h = omega arith

pub to_next : (a : ℕ) {b : ℕ} → b ≡ a + 1 → b ≤ a + 1
to_next a e = omega arith

pub to_second : (a : ℕ) {b c : ℕ} → b ≡ a + 1 → c ≡ b + 1 → c ≤ a + 2
to_second a e h = omega arith

pub to_fifth : (a : ℕ) {b c : ℕ} → b ≡ a + 1 → c ≤ b + 4 → c ≤ a + 5
to_fifth a e h = omega arith

pub same_twice : {A : Type 0} {a b c : A} → b ≡ a → c ≡ b → c ≡ a
same_twice e g = g ∙ e

-- the steps of a rotation: two children and those of one, and two rows that are put; or those of a second one, and three
pub single_steps : (a : ℕ) {b c d e g : ℕ} → b ≤ a + 1 → c ≤ b + 1 → d ≤ c + 2 → e ≡ d + 1 → g ≡ e + 1 → g ≤ a + 9
single_steps a i j k l m = omega arith

pub double_steps : (a : ℕ) {b c d e g h i : ℕ} → b ≤ a + 1 → c ≤ b + 1 → d ≤ c + 2 → e ≤ d + 2 → g ≡ e + 1 → h ≡ g + 1 → i ≡ h + 1 → i ≤ a + 9
double_steps a j k l m n o p = omega arith

-- a test that is false says that what would make it true does not hold
pub refuted : {b : Bool} {P : Type 0} → (P → IsTrue b) → b ≡ false → P → ⊥
refuted holds is p = let yes = holds p in cc

-- what a test says that tells nothing where it is false
pub heard : {b : Bool} {P : Type 0} → (b ≡ false) ⊎ ((b ≡ true) × P) → b ≡ true → P
heard (inl none) e = absurd cc
heard (inr some) e = some.1
