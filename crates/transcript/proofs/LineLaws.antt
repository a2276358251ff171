-- Laws of lines of bytes and of what they tell.
use Rattle.std.proofs.Common.{◌≡◌, ℕ, suc, ◌≤◌, Bool, true, false, cond, List, [], ◌∷◌, ◌++◌, length, Option, None, Some, refl, sym, ap, subst, ◌∙◌}
use Rattle.std.proofs.lemmas.Bool.{le-ltb}
use Rattle.vm_base.specs.declared.limits.TheConstants.{LINE_BYTES}
use Rattle.vm_base.proofs.EntryLaws.{some_same}
use Rattle.vm_model.specs.Machine.Words.{Command}
use Rattle.vm_model.specs.Language.Reading.{Blank, Outside, order_or_outside, command, is_comment, reading_of_words, words, reading}
use Rattle.vm_model.specs.Machine.Machine.{Machine}
use Rattle.moving_model.specs.Transcript.{Told, told, IsWhole, MayBegin, AllTold, ArePossible, AreWhole}

-- one line more
pub all_told-more : (lines : List (List ℕ)) (line : List ℕ) (tells : List Told) (one : Told) → AllTold lines tells → told line ≡ Some one → AllTold (lines ++ line ∷ []) (tells ++ one ∷ [])
all_told-more [] line [] one all e = (e, tt)
all_told-more [] line (first ∷ tells) one all e = absurd all
all_told-more (first ∷ lines) line [] one all e = absurd all
all_told-more (first ∷ lines) line (other ∷ tells) one all e = (all.0, all_told-more lines line tells one all.1 e)

-- lines tell one thing
pub all_told-same : (lines : List (List ℕ)) (tells also : List Told) → AllTold lines tells → AllTold lines also → tells ≡ also
all_told-same [] [] [] all too = refl
all_told-same [] [] (one ∷ also) all too = absurd too
all_told-same [] (one ∷ tells) also all too = absurd all
all_told-same (line ∷ lines) [] also all too = absurd all
all_told-same (line ∷ lines) (one ∷ tells) [] all too = absurd too
all_told-same (line ∷ lines) (one ∷ tells) (other ∷ also) all too =
    let here : one ≡ other = some_same (sym all.0 ∙ too.0) in
    let rest = all_told-same lines tells also all.1 too.1 in
    λ i. here i ∷ rest i

-- as many as there are lines
pub all_told-length : (lines : List (List ℕ)) (tells : List Told) → AllTold lines tells → length tells ≡ length lines
all_told-length [] [] all = refl
all_told-length [] (one ∷ tells) all = absurd all
all_told-length (line ∷ lines) [] all = absurd all
all_told-length (line ∷ lines) (one ∷ tells) all = ap suc (all_told-length lines tells all.1)

-- possible lines, by what they tell
pub possible_from : (frames : ℕ) (lines : List (List ℕ)) (tells : List Told) → AllTold lines tells → MayBegin frames tells → ArePossible frames lines
possible_from frames lines tells all begins = record { tells = tells; told_are = all; begins = begins }

pub may_begin : (frames : ℕ) (lines : List (List ℕ)) (tells : List Told) → AllTold lines tells → ArePossible frames lines → MayBegin frames tells
may_begin frames lines tells all possible = subst (λ (ts : List Told). MayBegin frames ts) (all_told-same lines possible.tells tells possible.told_are all) possible.begins

pub whole_from : (frames : ℕ) (lines : List (List ℕ)) (tells : List Told) → AllTold lines tells → (last : Machine) → IsWhole frames tells last → AreWhole frames lines
whole_from frames lines tells all last whole = record { tells = tells; told_are = all; last = last; whole = whole }

pub is_whole : (frames : ℕ) (lines : List (List ℕ)) (tells : List Told) → AllTold lines tells → AreWhole frames lines → (last : Machine) × IsWhole frames tells last
is_whole frames lines tells all whole = (whole.last, subst (λ (ts : List Told). IsWhole frames ts whole.last) (all_told-same lines whole.tells tells whole.told_are all) whole.whole)

-- ---- lines of a script that say nothing

-- a line that is not too long is read by its words
by_words : (line : List ℕ) → length line ≤ LINE_BYTES → reading line ≡ reading_of_words (words line)
unfolding reading
by_words line short = ap (λ (over : Bool). cond over Outside (reading_of_words (words line))) (le-ltb LINE_BYTES (length line) short)

-- one with no word says nothing
pub blank_none : (line : List ℕ) → length line ≤ LINE_BYTES → words line ≡ [] → reading line ≡ Blank
blank_none line short none = by_words line short ∙ ap reading_of_words none

-- and one with a word says nothing exactly if this begins a comment
pub blank_first : (line word : List ℕ) (rest : List (List ℕ)) (r : Bool) → length line ≤ LINE_BYTES → words line ≡ word ∷ rest → r ≡ is_comment word
    → (r ≡ true → reading line ≡ Blank) × (reading line ≡ Blank → r ≡ true)
blank_first line word rest r short first = go r where
  read : reading line ≡ cond (is_comment word) Blank (order_or_outside (command word rest))
  read = by_words line short ∙ ap reading_of_words first

  no_blank : (o : Option Command) → order_or_outside o ≡ Blank → ⊥
  no_blank None e = cc
  no_blank (Some c) e = cc

  as_read : (b : Bool) → b ≡ is_comment word → reading line ≡ cond b Blank (order_or_outside (command word rest))
  as_read b e = read ∙ ap (λ (c : Bool). cond c Blank (order_or_outside (command word rest))) (sym e)

  go : (b : Bool) → b ≡ is_comment word → (b ≡ true → reading line ≡ Blank) × (reading line ≡ Blank → b ≡ true)
  go true e = (λ h. as_read true e, λ h. refl)
  go false e = (λ h. absurd cc, λ blank. absurd (no_blank (command word rest) (sym (as_read false e) ∙ blank)))
