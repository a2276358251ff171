-- Laws of a check of which one line more was read.
use Rattle.std.proofs.Common.{◌≡◌, ℕ, ◌+◌, ◌<◌, ◌≤◌, ◌^◌, ltb, List, [], ◌∷◌, ◌++◌, length, Option, None, Some, refl, sym, ap, subst, ◌∙◌, inr, append_assoc, arith}
use Rattle.std.proofs.lemmas.Bool.{cond-true, lt-ltb}
use Rattle.std.proofs.lemmas.List.{length-append}
use Rattle.vm_base.specs.declared.limits.TheConstants.{LINE_BYTES}
use Rattle.moving_model.specs.Transcript.{Told, Asked, Answered, told, told_by, AreWhole}
use Rattle.transcript.specs.declared.checker.Checker.{Checker}
use Rattle.transcript.specs.declared.verdict.Verdict.{Verdict}
use Rattle.transcript.specs.declared.verdict.Verdict.TheVariants.{Illegal as IllegalLine, Malformed as MalformedLine}
use Rattle.transcript.specs.declared.reports.Report.{Report}
use Rattle.transcript.specs.declared.reports.Report.TheVariants.{Legal, Illegal, Malformed}
use Rattle.transcript.specs.declared.reports.Check.{Check}
use Rattle.transcript.specs.Verdicts.{HasRead, IsVerdict}
use Rattle.transcript.specs.Reports.{is_asked, asked_count, IsFirstVerdict, IsReport, HasFound, IsChecked}
use Rattle.transcript.proofs.LineLaws.{possible_from}
use Rattle.transcript.proofs.CheckLaws.{at_may}

-- ---- counts

pub asked_more : (lines : List (List ℕ)) (line : List ℕ) → asked_count (lines ++ line ∷ []) ≡ asked_count lines + is_asked (told line)
asked_more [] line = omega arith
asked_more (first ∷ lines) line = omega (arith, asked_more lines line)

one_at_most : (o : Option Told) → is_asked o ≤ 1
one_at_most None = omega arith
one_at_most (Some (Asked line)) = omega arith
one_at_most (Some (Answered line)) = omega arith

asked_few : (lines : List (List ℕ)) → asked_count lines ≤ length lines
asked_few [] = omega arith
asked_few (line ∷ lines) = omega (arith, asked_few lines, one_at_most (told line))

length_more : (lines : List (List ℕ)) (line : List ℕ) (n : ℕ) → n ≡ length lines → n + 1 ≡ length (lines ++ line ∷ [])
length_more lines line n e = omega (arith, e, length-append lines (line ∷ []))

pub asked_short : (frames : ℕ) (check : Check) (lines : List (List ℕ)) → IsChecked frames check lines → check.bad ≡ None → length lines < 2 ^ 63 → check.asked < 2 ^ 63
asked_short frames check lines checked none h =
    let found : HasFound None frames check lines = subst (λ (bad : Option Report). HasFound bad frames check lines) none checked.found in
    omega (arith, found.1, asked_few lines, h)

pub read_so : (frames : ℕ) (check : Check) (lines : List (List ℕ)) → IsChecked frames check lines → check.bad ≡ None → HasRead frames check.checker lines
read_so frames check lines checked none = let found : HasFound None frames check lines = subst (λ (bad : Option Report). HasFound bad frames check lines) none checked.found in found.0

-- ---- the first bad line

first_more : (frames : ℕ) (lines : List (List ℕ)) (line : List ℕ) (verdict : Verdict) (k : ℕ) → IsFirstVerdict frames lines verdict k → IsFirstVerdict frames (lines ++ line ∷ []) verdict k
first_more frames lines line verdict k first = record {
  before = first.before;
  line = first.line;
  after = first.after ++ line ∷ [];
  is = ap (λ (ls : List (List ℕ)). ls ++ line ∷ []) first.is ∙ append_assoc first.before (first.line ∷ first.after) (line ∷ []);
  number = first.number;
  possible = first.possible;
  said = first.said;
}

found_more : (bad : Option Report) (r : Report) (frames : ℕ) (old new : Check) (lines : List (List ℕ)) (line : List ℕ) → bad ≡ Some r → HasFound bad frames old lines → HasFound bad frames new (lines ++ line ∷ [])
found_more None r frames old new lines line e found = absurd cc
found_more (Some (Legal n)) r frames old new lines line e found = absurd found
found_more (Some (Illegal k)) r frames old new lines line e found = first_more frames lines line IllegalLine k found
found_more (Some (Malformed k)) r frames old new lines line e found = first_more frames lines line MalformedLine k found

pub bad_more : (frames : ℕ) (old : Check) (r : Report) (lines : List (List ℕ)) (line : List ℕ) → old.bad ≡ Some r → IsChecked frames old lines → IsChecked frames (record old { lines = old.lines + 1 }) (lines ++ line ∷ [])
bad_more frames old r lines line e checked = record {
  count = length_more lines line old.lines checked.count;
  found = found_more old.bad r frames old (record old { lines = old.lines + 1 }) lines line e checked.found;
}

pub fine_more : (frames : ℕ) (old : Check) (checker : Checker) (asks : ℕ) (lines : List (List ℕ)) (line : List ℕ) → old.bad ≡ None → IsChecked frames old lines → HasRead frames checker (lines ++ line ∷ []) → asks ≡ is_asked (told line)
    → IsChecked frames (record old { checker = checker; lines = old.lines + 1; asked = old.asked + asks }) (lines ++ line ∷ [])
fine_more frames old checker asks lines line e checked read is =
    let new : Check = record old { checker = checker; lines = old.lines + 1; asked = old.asked + asks } in
    let found : HasFound None frames old lines = subst (λ (bad : Option Report). HasFound bad frames old lines) e checked.found in
    record {
      count = length_more lines line old.lines checked.count;
      found = subst (λ (bad : Option Report). HasFound bad frames new (lines ++ line ∷ [])) (sym e) (read, omega (arith, found.1, is, asked_more lines line));
    }

first_here : (frames : ℕ) (lines : List (List ℕ)) (line : List ℕ) (verdict : Verdict) (checker : Checker) (k n : ℕ) → HasRead frames checker lines → IsVerdict frames lines line verdict → n ≡ length lines → k ≡ n + 1 → IsFirstVerdict frames (lines ++ line ∷ []) verdict k
first_here frames lines line verdict checker k n read said e is = record {
  before = lines;
  line = line;
  after = [];
  is = refl;
  number = omega (arith, e, is);
  possible = possible_from frames lines read.tells read.told_are (at_may frames checker read.tells read.is_at);
  said = said;
}

pub illegal_more : (frames : ℕ) (old : Check) (checker : Checker) (lines : List (List ℕ)) (line : List ℕ) → old.bad ≡ None → IsChecked frames old lines → IsVerdict frames lines line IllegalLine
    → IsChecked frames (record old { checker = checker; lines = old.lines + 1; bad = Some (Illegal (old.lines + 1)) }) (lines ++ line ∷ [])
illegal_more frames old checker lines line e checked said = record {
  count = length_more lines line old.lines checked.count;
  found = first_here frames lines line IllegalLine old.checker (old.lines + 1) old.lines (read_so frames old lines checked e) said checked.count refl;
}

pub malformed_more : (frames : ℕ) (old : Check) (checker : Checker) (lines : List (List ℕ)) (line : List ℕ) → old.bad ≡ None → IsChecked frames old lines → IsVerdict frames lines line MalformedLine
    → IsChecked frames (record old { checker = checker; lines = old.lines + 1; bad = Some (Malformed (old.lines + 1)) }) (lines ++ line ∷ [])
malformed_more frames old checker lines line e checked said = record {
  count = length_more lines line old.lines checked.count;
  found = first_here frames lines line MalformedLine old.checker (old.lines + 1) old.lines (read_so frames old lines checked e) said checked.count refl;
}

-- a line that is too long
pub long_told : (line : List ℕ) → LINE_BYTES < length line → told line ≡ None
unfolding told
long_told line h = cond-true (ltb LINE_BYTES (length line)) None (told_by line) (lt-ltb LINE_BYTES (length line) h)

-- ---- the report

pub missing_report : (frames : ℕ) (check : Check) (lines : List (List ℕ)) → check.bad ≡ None → IsChecked frames check lines → (AreWhole frames lines → ⊥) → IsReport frames lines (Illegal (check.lines + 1))
missing_report frames check lines e checked part =
    let read = read_so frames check lines checked e in
    inr (record { possible = possible_from frames lines read.tells read.told_are (at_may frames check.checker read.tells read.is_at); part = part; number = ap (λ (n : ℕ). n + 1) checked.count })
