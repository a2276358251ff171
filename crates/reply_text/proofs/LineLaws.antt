-- Lines of replies, from what they begin with: the line of an address, and that of the frames of a pin.
use Rattle.std.proofs.Common.{◌≡◌, ◌≢◌, ℕ, ◌^◌, ◌<◌, ◌≤◌, false, List, [], ◌∷◌, ◌++◌, length, codes, Option, None, Some, refl, sym, ap, ◌∙◌}
use Rattle.std.specs.Prelude.{MatchOption}
use Rattle.std.specs.Fmt.{digits}
use Rattle.std.specs.List.{AllByRecursion}
use Rattle.std.proofs.lemmas.List.{same_from_push}
use Rattle.vm_model.specs.Language.Text.{reply_lines}
use Rattle.vm_model.specs.declared.reply.Reply.TheVariants.{Address, Pins}
use Rattle.vm_base.specs.declared.limits.TheConstants.{PIN_PAGES}
use Rattle.reply_text.specs.Spaces.{all_spaced}

-- the only line of a list
one_line : (xs ys : List ℕ) → ◌≡◌ {A = List (List ℕ)} (xs ∷ []) (ys ∷ []) → xs ≡ ys
one_line xs ys e = cc

address_line : (a : ℕ) → reply_lines (Address a) ≡ ((codes "OK 0x" ++ digits 16 false a) ++ codes "\n") ∷ []
unfolding reply_lines
address_line a = refl

pins_line : (numbers : List ℕ) → reply_lines (Pins numbers) ≡ ((codes "OK" ++ all_spaced numbers) ++ codes "\n") ∷ []
unfolding reply_lines
pins_line numbers = refl

module _ (line : List ℕ) where
  -- the line of an address begins so
  pub address_front : (a : ℕ) → reply_lines (Address a) ≡ (line ++ codes "\n") ∷ [] → line ≡ codes "OK 0x" ++ digits 16 false a
  address_front a e = sym (same_from_push (codes "OK 0x" ++ digits 16 false a) line 10 10 (one_line _ _ (sym (address_line a) ∙ e))).0

  -- and what begins so is one where digits are behind it
  pub address_is : (word : List ℕ) (o : Option ℕ) → line ≡ codes "OK 0x" ++ word → MatchOption o ((n : ℕ) → n < 2 ^ 64 → word ≢ digits 16 false n) (λ n. word ≡ digits 16 false n)
      → MatchOption o ((a : ℕ) → a < 2 ^ 64 → reply_lines (Address a) ≢ (line ++ codes "\n") ∷ []) (λ a. reply_lines (Address a) ≡ (line ++ codes "\n") ∷ [])
  address_is word None e none = λ a h f. none a h (behind_same word (digits 16 false a) (sym e ∙ address_front a f)) where
    behind_same : (xs ys : List ℕ) → codes "OK 0x" ++ xs ≡ codes "OK 0x" ++ ys → xs ≡ ys
    behind_same xs ys g = cc
  address_is word (Some a) e is = address_line a ∙ ap (λ (text : List ℕ). (text ++ codes "\n") ∷ []) (ap (λ (xs : List ℕ). codes "OK 0x" ++ xs) (sym is) ∙ sym e)

  -- the line of frames begins so
  pub pins_front : (numbers : List ℕ) → reply_lines (Pins numbers) ≡ (line ++ codes "\n") ∷ [] → line ≡ codes "OK" ++ all_spaced numbers
  pins_front numbers e = sym (same_from_push (codes "OK" ++ all_spaced numbers) line 10 10 (one_line _ _ (sym (pins_line numbers) ∙ e))).0

  -- and what begins so is one where numbers are behind it
  pub pins_is : (text : List ℕ) (o : Option (List ℕ)) → line ≡ codes "OK" ++ text
      → MatchOption o ((numbers : List ℕ) → length numbers ≤ PIN_PAGES → AllByRecursion (λ n. n < 2 ^ 64) numbers → text ≢ all_spaced numbers) (λ numbers. text ≡ all_spaced numbers)
      → MatchOption o ((numbers : List ℕ) → length numbers ≤ PIN_PAGES → AllByRecursion (λ n. n < 2 ^ 64) numbers → reply_lines (Pins numbers) ≢ (line ++ codes "\n") ∷ [])
      (λ numbers. reply_lines (Pins numbers) ≡ (line ++ codes "\n") ∷ [])
  pins_is text None e none = λ numbers few fits f. none numbers few fits (behind_same text (all_spaced numbers) (sym e ∙ pins_front numbers f)) where
    behind_same : (xs ys : List ℕ) → codes "OK" ++ xs ≡ codes "OK" ++ ys → xs ≡ ys
    behind_same xs ys g = cc
  pins_is text (Some numbers) e is = pins_line numbers ∙ ap (λ (all : List ℕ). (all ++ codes "\n") ∷ []) (ap (λ (xs : List ℕ). codes "OK" ++ xs) (sym is) ∙ sym e)
