-- A command word is looked for among those of its length.
use Rattle.std.proofs.Common.{◌≡◌, ◌≢◌, ℕ, true, false, List, [], ◌∷◌, length, refl, sym, ◌∙◌, ap, filter, cond}
use Rattle.std.proofs.Common.{Bool, ◌||◌}
use Rattle.std.specs.Prelude.{Option, None, ◌==◌, if◌then◌else◌}
use Rattle.std.specs.List.{list_any}
use Rattle.std.proofs.lemmas.Bool.{eqb-false, ne_eqb}
use Rattle.std.proofs.lemmas.Slice.Eq.{bytes_eq-Decides}
use Rattle.vm_model.specs.Machine.Words.{Command}
use Rattle.vm_model.specs.Language.Reading.{by_word, command, commands, is_word}
use Rattle.script_text.specs.inside.Rows.{command_rows_of}

abbrev Row : Type 0
Row = List ℕ × (List (List ℕ) → Option Command)

-- a word differs from one of another length
other_word : (word known : List ℕ) → length known ≢ length word → is_word word known ≡ false
other_word word known apart = elim (is_word word known) as (λ b. is_word word known ≡ b → is_word word known ≡ false) [
  | true ↦ λ same. absurd (apart (ap length (sym ((bytes_eq-Decides word known).0 same))))
  | false ↦ λ other. other
] refl

-- rows of words of other lengths give nothing
by_word-of_length : (rows : List Row) (word : List ℕ) (arguments : List (List ℕ))
    → by_word rows word arguments ≡ by_word (filter (λ row. length row.0 == length word) rows) word arguments
by_word-of_length [] word arguments = refl
by_word-of_length (row ∷ rows) word arguments =
    let kept = filter (λ (r : Row). length r.0 == length word) rows in
    let rest : by_word rows word arguments ≡ by_word kept word arguments = by_word-of_length rows word arguments in
    elim (length row.0 == length word) as (λ b. (length row.0 == length word) ≡ b
    → (if is_word word row.0 then row.1 arguments else by_word rows word arguments)
    ≡ by_word (cond b (row ∷ kept) kept) word arguments) [
      | true ↦ λ _. ap (λ o. if is_word word row.0 then row.1 arguments else o) rest
      | false ↦ λ apart. rw (other_word word row.0 (eqb-false _ _ apart)) rest
    ] refl

by_word-none : (rows : List Row) (word : List ℕ) (arguments : List (List ℕ))
    → list_any (λ row. length row.0 == length word) rows ≡ false → by_word rows word arguments ≡ None
by_word-none [] word arguments apart = refl
by_word-none (row ∷ rows) word arguments apart =
    let others : Bool = list_any (λ (r : Row). length r.0 == length word) rows in
    elim (length row.0 == length word) as (λ b. (length row.0 == length word) ≡ b → (b || others) ≡ false
    → (if is_word word row.0 then row.1 arguments else by_word rows word arguments) ≡ None) [
      | true ↦ λ _ none. absurd cc
      | false ↦ λ other none. rw (other_word word row.0 (eqb-false _ _ other)) (by_word-none rows word arguments none)
    ] refl apart

pub command_of_length : (len : ℕ) (word : List ℕ) (arguments : List (List ℕ)) → length word ≡ len
    → command word arguments ≡ by_word (command_rows_of len) word arguments
unfolding command
command_of_length len word arguments same =
    by_word-of_length commands word arguments ∙ ap (λ n. by_word (command_rows_of n) word arguments) same

-- no command word has another length
pub command_of_other_length : (word : List ℕ) (arguments : List (List ℕ)) → 4 ≢ length word → 7 ≢ length word
    → 8 ≢ length word → 9 ≢ length word → 10 ≢ length word → 11 ≢ length word → 12 ≢ length word → 13 ≢ length word
    → 16 ≢ length word → command word arguments ≡ None
unfolding command
command_of_other_length word arguments l4 l7 l8 l9 l10 l11 l12 l13 l16 =
    let n = length word in
    by_word-none commands word arguments (simp (
      ne_eqb 4 n l4,
      ne_eqb 7 n l7,
      ne_eqb 8 n l8,
      ne_eqb 9 n l9,
      ne_eqb 10 n l10,
      ne_eqb 11 n l11,
      ne_eqb 12 n l12,
      ne_eqb 13 n l13,
      ne_eqb 16 n l16,
    ))
