-- What the answering of a line into a sink over the caller's bytes says of these bytes.
use Rattle.std.proofs.Common.{◌≡◌, ℕ, ◌+◌, ◌≤◌, List, [], ◌++◌, length, drop, Some, Result, Ok, Err, refl, sym, ap, subst, ◌∙◌, take_at, drop_at, arith}
use Rattle.std.proofs.lemmas.List.{length-append}
use Rattle.script_io.specs.Faults.{HasCause}
use Rattle.script_io.specs.Memory.{Lent, lent_bytes, lent_contents, lent_faults}
use Rattle.script_io.proofs.Lending.{same_name, same_before, is_taken, is_full, lent_full}
use Rattle.line_server.specs.Answering.{Answering}
use Rattle.line_server.specs.Outcome.{AnswersLine}
use Rattle.held_vm.specs.Held.{HasKoidLeft, FitsIn, IsLonger}

-- ---- of a line that was answered into a sink over these bytes, which are now what the sink leaves
module _ {S A E : Type 0} (m : Answering S) (line : List ℕ) (old new : S) (was now : Lent) (pushed : Result A E) (koid : HasKoidLeft m old)
    (name : ℕ) (before : List ℕ) (begun : was ≡ record { name = name; before = before; taken = []; faults = 0 }) (answer : AnswersLine m line old new (Some (lent_contents was)) (Some (lent_contents now)) pushed) where
  none : was.taken ≡ []
  none = ap (λ (s : Lent). s.taken) begun

  were : was.before ≡ before
  were = ap (λ (s : Lent). s.before) begun

  as_pushed : (is : Result A E) → pushed ≡ is → AnswersLine m line old new (Some (lent_contents was)) (Some (lent_contents now)) is
  as_pushed is same = subst (λ (r : Result A E). AnswersLine m line old new (Some (lent_contents was)) (Some (lent_contents now)) r) same answer

  -- the sink still lends the same bytes
  name_by : (is : Result A E) → pushed ≡ is → now.name ≡ name
  name_by (Ok u) is = let all = as_pushed (Ok u) is in same_name was now all.text none all.written ∙ ap (λ (s : Lent). s.name) begun
  name_by (Err e) is = let cut = (as_pushed (Err e) is).written in same_name was now cut.part none cut.taken ∙ ap (λ (s : Lent). s.name) begun

  ended : (given : List ℕ) (given_name : ℕ) (after : List ℕ) → given_name ≡ now.name → given ≡ lent_bytes now → (name ≡ given_name → after ≡ given)
      → after ≡ lent_bytes now
  ended given given_name after same left ends = ends (sym (name_by pushed refl) ∙ sym same) ∙ left

  -- the whole text stands at the front of the bytes
  at_front : (u : A) → pushed ≡ Ok u → FitsIn m (length now.taken) line old new before (lent_bytes now)
  at_front u is =
      let all = as_pushed (Ok u) is in
      let behind = drop (length now.taken) now.before in
      let added : length (lent_bytes now) ≡ length now.taken + length behind = length-append now.taken behind in
      record {
        koid = koid;
        bound = omega (arith, added);
        gives = subst (λ xs. m.Gives line old xs new)
            (sym (is_taken was now all.text none all.written) ∙ sym (take_at now.taken behind (length now.taken) refl)) all.gives;
        kept = drop_at now.taken behind (length now.taken) refl ∙ ap (drop (length now.taken)) (same_before was now all.text none all.written ∙ were);
      }

  -- the text is longer than the bytes, which have the front of it
  all_front : (e : E) → pushed ≡ Err e → HasCause (lent_faults was) (lent_faults now) pushed → length now.taken ≤ length now.before
      → IsLonger m line old new before (lent_bytes now)
  all_front e is cause bound =
      let cut = as_pushed (Err e) is in
      let failed = (subst (λ (r : Result A E). HasCause (lent_faults was) (lent_faults now) r) is cause).failed in
      let full = is_full was now (ap (λ (s : Lent). s.faults) begun) failed in
      let many : length now.taken ≡ length now.before = omega (arith, full, bound) in
      let whole = lent_full now many in
      let out : now.taken ≡ cut.written.part = is_taken was now cut.written.part none cut.written.taken in
      let text = cut.written.whole ∙ ap (λ xs. xs ++ cut.written.rest) (sym out ∙ sym whole) in
      record {
        koid = koid;
        rest = cut.written.rest;
        left = cut.written.left;
        gives = subst (λ xs. m.Gives line old xs new) text cut.gives;
        as_many = ap length whole ∙ (many ∙ ap length (same_before was now cut.written.part none cut.written.taken ∙ were));
      }

  -- ---- the same of the caller's bytes, which the sink gave back
  module _ (given : List ℕ) (given_name : ℕ) (after : List ℕ) (same : given_name ≡ now.name) (left : given ≡ lent_bytes now) (ends : name ≡ given_name → after ≡ given) where
    pub fits_in : (len : ℕ) → len ≡ length now.taken → (u : A) → pushed ≡ Ok u → FitsIn m len line old new before after
    fits_in len many u is =
        subst (λ n. FitsIn m n line old new before after) (sym many)
        (subst (FitsIn m (length now.taken) line old new before) (sym (ended given given_name after same left ends)) (at_front u is))

    pub is_longer : length now.taken ≤ length now.before → (e : E) → pushed ≡ Err e
        → HasCause (lent_faults was) (lent_faults now) pushed → IsLonger m line old new before after
    is_longer bound e is cause =
        subst (IsLonger m line old new before) (sym (ended given given_name after same left ends)) (all_front e is cause bound)
