-- How many steps a change or a look-up takes, by the number of rows.
use Rattle.std.proofs.Common.{◌≡◌, inl, inr, ℕ, zero, suc, ◌+◌, ◌-◌, ◌*◌, ◌<◌, ◌≤◌, ◌^◌, max, ◌∷◌, length, refl, sym, ap, ◌∙◌, subst, arith, length-append}
use Rattle.std.proofs.Math.Nat.{mul-le-mul, mul-zero, mul-suc, pow-zero, pow-suc, pow-le-pow_left}
use Rattle.std.proofs.Math.Pow.{pow_mono}
use Rattle.std.proofs.lemmas.Bool.{cases_lt}
use Rattle.std.proofs.lemmas.Nat.{pow-add, mul-pow}
use Rattle.balanced_tree.specs.Row.{Functions, plain}
use Rattle.balanced_tree.specs.inside.Tree.{SearchTree, Leaf, Node, height, IsBalanced, rows_of}

square_sum : (a b c : ℕ) → c ≤ a ^ 2 → c ≤ b ^ 2 → 4 * c ≤ (a + b) ^ 2
square_sum a b c g h =
    elim (cases_lt a b) [
      | inl less ↦ (let e = mul-pow 2 a 2 in let more = pow-le-pow_left {n = 2 * a} {m = a + b} (omega arith) 2 in omega arith)
      | inr more ↦ (let e = mul-pow 2 b 2 in let less = pow-le-pow_left {n = 2 * b} {m = a + b} (omega arith) 2 in omega arith)
    ]

pow-times : (n a b : ℕ) → (n ^ a) ^ b ≡ n ^ (a * b)
pow-times n a zero = rw (pow-zero (n ^ a), mul-zero a, pow-zero n) refl
pow-times n a (suc b) = pow-suc (n ^ a) b ∙ ap (λ m. m * n ^ a) (pow-times n a b) ∙ sym (pow-add n (a * b) a) ∙ ap (λ m. n ^ m) (sym (mul-suc a b))

module _ {R : Type 0} (f : Functions R) where
  -- The height is at most twice the binary logarithm of one more than the rows: it rises by two only where the rows double.
  pub height-rows : (t : SearchTree R) → IsBalanced t → 2 ^ height t ≤ (length (rows_of f t) + 1) ^ 2
  height-rows Leaf h = omega arith
  height-rows (Node l p x r) h =
      let h1 = h.0 in let h2 = h.1 in
      let low = max (height l) (height r) - 1 in
      let on_l = height-rows l h.2 in
      let on_r = height-rows r h.3 in
      let up_l = pow_mono {i = low} {j = height l} (omega arith) in
      let up_r = pow_mono {i = low} {j = height r} (omega arith) in
      let both = square_sum (length (rows_of f l) + 1) (length (rows_of f r) + 1) (2 ^ low) (omega arith) (omega arith) in
      let up = pow_mono {i = height (Node l p x r)} {j = low + 2} (omega arith) in
      let e = pow-add 2 low 2 in
      let size : length (rows_of f (Node l p x r)) + 1 ≡ (length (rows_of f l) + 1) + (length (rows_of f r) + 1) = omega (arith, length-append (rows_of f l) (plain f x ∷ rows_of f r)) in
      subst (λ n. 2 ^ height (Node l p x r) ≤ n ^ 2) (sym size) (omega arith)

  -- a table that fits the machine has a tree of less than 2 ^ 31 - 1 rows from top to bottom
  pub height-short : (t : SearchTree R) → IsBalanced t → length (rows_of f t) < 2 ^ 64 → height t < 2 ^ 31 - 1
  height-short t h fits =
      elim (cases_lt (height t) 129) [
        | inl less ↦ omega arith
        | inr more ↦ (let up = pow_mono {i = 129} {j = height t} more in let bound = height-rows t h in let wide = pow-le-pow_left {n = length (rows_of f t) + 1} {m = 2 ^ 64} (omega arith) 2 in absurd (omega arith))
      ]

  -- so many steps for each row from top to bottom
  pub look_cost : (t : SearchTree R) (each before after : ℕ) → IsBalanced t → after ≤ before + each * height t → 2 ^ (after - before) ≤ (length (rows_of f t) + 1) ^ (2 * each)
  look_cost t each before after h steps =
      let up = pow_mono {i = after - before} {j = height t * each} (omega arith) in
      let wide = pow-le-pow_left {n = 2 ^ height t} {m = (length (rows_of f t) + 1) ^ 2} (height-rows t h) each in
      let e1 = pow-times 2 (height t) each in
      let e2 = pow-times (length (rows_of f t) + 1) 2 each in
      omega arith

  -- fourteen steps for each row from top to bottom, and one more
  pub change_cost : (t : SearchTree R) (before after : ℕ) → IsBalanced t → after ≤ before + 14 * height t + 1 → 2 ^ (after - before) ≤ (length (rows_of f t) + 2) ^ 32
  change_cost t before after h steps =
      let n = length (rows_of f t) + 2 in
      let bound = height-rows t h in
      let wide = pow-le-pow_left {n = length (rows_of f t) + 1} {m = n} (omega arith) 2 in
      let tall : 2 ^ height t ≤ n ^ 2 = omega arith in
      let all_rows = pow-le-pow_left {n = 2 ^ height t} {m = n ^ 2} tall 14 in
      let few = pow-le-pow_left {n = 2} {m = n} (omega arith) 4 in
      let up = pow_mono {i = after - before} {j = height t * 14 + 4} (omega arith) in
      let e1 = pow-add 2 (height t * 14) 4 in
      let e2 = pow-times 2 (height t) 14 in
      let e3 = pow-times n 2 14 in
      let e4 = pow-add n 28 4 in
      let all : 2 ^ (height t * 14) * 2 ^ 4 ≤ n ^ 28 * n ^ 4 = mul-le-mul (omega arith) few in
      omega arith
