-- The commands on jobs are the same by the list of their words and by their places.
use Rattle.std.proofs.Common.{◌≡◌, ℕ, ◌<◌, ◌≤◌, List, [], ◌∷◌, length, Option, None, Some, cond, refl, sym, ap, ◌∙◌, inl, inr, ◌==◌, ◌^◌, false, arith}
use Rattle.std.proofs.lemmas.Bool.{cases_lt, cond-true, cond-false, lt-ltb, le-ltb, and_left}
use Rattle.std.specs.Prelude.{nat_lt, option_and_then, codes}
use Rattle.vm_base.specs.declared.limits.TheConstants.{NAMES}
use Rattle.vm_model.specs.Language.Reading.{is_word, is_hex, has_leading_zero, below, digit, digits, number, vmo}
use Rattle.batch_model.specs.BatchWords.{BatchCommand}
use Rattle.batch_model.specs.BatchLanguage.{job_name, job_kind, begin_order, step_order, drop_order, job_order}
use Rattle.batch_vm.specs.Places.{if_all, begin_at, step_at, drop_at, order_at}

-- what has no result has none behind another
none_behind : {A B : Type 0} (o : Option A) (f : A → Option B) → ((x : A) → f x ≡ None) → option_and_then f o ≡ None
none_behind None f none = refl
none_behind (Some x) f none = none x

-- a command that has more words is none
too_many : (count : ℕ) (ws : List (List ℕ)) (command : BatchCommand) → count < length ws → if_all count ws command ≡ None
too_many count ws command more = cond-true (nat_lt count (length ws)) _ _ (lt-ltb count (length ws) more)

-- each command by the list of its words
drop_places : (word : List ℕ) (ws : List (List ℕ)) → drop_at (word ∷ ws) ≡ drop_order ws
drop_places word [] = refl
drop_places word (a ∷ []) = refl
drop_places word (a ∷ b ∷ ws) = none_behind (job_name a) _ (λ job. too_many 2 (word ∷ a ∷ b ∷ ws) _ (omega arith))

step_places : (word : List ℕ) (ws : List (List ℕ)) → step_at (word ∷ ws) ≡ step_order ws
step_places word [] = refl
step_places word (a ∷ []) = none_behind (job_name a) _ (λ job. refl)
step_places word (a ∷ b ∷ []) = refl
step_places word (a ∷ b ∷ c ∷ ws) = none_behind (job_name a) _ (λ job. none_behind (number b) _ (λ pages. too_many 3 (word ∷ a ∷ b ∷ c ∷ ws) _ (omega arith)))

begin_places : (word : List ℕ) (ws : List (List ℕ)) → begin_at (word ∷ ws) ≡ begin_order ws
begin_places word [] = refl
begin_places word (a ∷ []) = none_behind (job_name a) _ (λ job. refl)
begin_places word (a ∷ b ∷ []) = none_behind (job_name a) _ (λ job. none_behind (job_kind b) _ (λ kind. refl))
begin_places word (a ∷ b ∷ c ∷ []) = none_behind (job_name a) _ (λ job. none_behind (job_kind b) _ (λ kind. none_behind (vmo c) _ (λ name. refl)))
begin_places word (a ∷ b ∷ c ∷ d ∷ []) =
    none_behind (job_name a) _ (λ job. none_behind (job_kind b) _ (λ kind. none_behind (vmo c) _ (λ name. none_behind (number d) _ (λ offset. refl))))
begin_places word (a ∷ b ∷ c ∷ d ∷ e ∷ []) = refl
begin_places word (a ∷ b ∷ c ∷ d ∷ e ∷ f ∷ ws) =
    none_behind (job_name a) _ (λ job. none_behind (job_kind b) _ (λ kind. none_behind (vmo c) _ (λ name. none_behind (number d) _ (λ offset. none_behind (number e) _ (λ len.
    too_many 6 (word ∷ a ∷ b ∷ c ∷ d ∷ e ∷ f ∷ ws) _ (omega arith))))))

-- by the first word
pub order_places : (ws : List (List ℕ)) → order_at ws ≡ job_order ws
order_places [] = refl
order_places (word ∷ ws) = λ i. cond (is_word word (codes "begin")) (begin_places word ws i) (cond (is_word word (codes "step")) (step_places word ws i) (cond (is_word word (codes "drop")) (drop_places word ws i) None))

-- ---- names

-- a number below 2^32 is below 2^64
below-names : (o : Option ℕ) → below NAMES (below (2 ^ 64) o) ≡ below NAMES o
below-names None = refl
below-names (Some n) = elim (cases_lt n (2 ^ 64)) [
  | inl less ↦ ap (below NAMES) (cond-true (nat_lt n (2 ^ 64)) (Some n) None (lt-ltb n (2 ^ 64) less))
  | inr past ↦
      let large : NAMES ≤ n = omega arith in
      ap (below NAMES) (cond-false (nat_lt n (2 ^ 64)) (Some n) None (le-ltb n (2 ^ 64) past)) ∙ sym (cond-false (nat_lt n NAMES) (Some n) None (le-ltb n NAMES large))
]

-- what has no zero before other digits is not written in hexadecimal
no_hex : (bs : List ℕ) → has_leading_zero bs ≡ false → is_hex bs ≡ false
no_hex [] plain = refl
no_hex (b ∷ []) plain = refl
no_hex (b ∷ c ∷ bs) plain = and_left (b == 48) (c == 120) plain

-- so its number is decimal
pub small_decimal : (bs : List ℕ) → has_leading_zero bs ≡ false → below NAMES (number bs) ≡ below NAMES (digits 10 digit bs)
unfolding number
small_decimal bs plain = ap (λ (o : Option ℕ). below NAMES (below (2 ^ 64) o)) (cond-false (is_hex bs) _ _ (no_hex bs plain)) ∙ below-names (digits 10 digit bs)
