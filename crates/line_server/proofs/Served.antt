-- One more line of a source was read, or reading ends there.
use Rattle.std.proofs.Common.{◌≡◌, ℕ, zero, suc, ◌+◌, ◌-◌, ◌<◌, ◌≤◌, ◌⊎◌, inl, inr, Bool, true, List, [], ◌∷◌, ◌++◌, length, take, Option, Some, refl, sym, ap, subst, ◌∙◌, append_assoc, append-nil, arith, Result, Ok, Err}
use Rattle.std.specs.Prelude.{slice_get, MatchOption, MatchResult}
use Rattle.std.specs.Io.KnownBytes.{Consumes, IsAtEnd}
use Rattle.std.proofs.KnownBytes.{Consumes-trans}
use Rattle.std.proofs.lemmas.List.{length-append}
use Rattle.script_io.specs.Reader.{Reader, HasNoFeed}
use Rattle.script_io.specs.Fetching.{IsPending, IsFirstLine}
use Rattle.vm_model.specs.Scripts.Run.{lines_of, whole_lines}
use Rattle.line_server.specs.Reading.{LineTurns, TakesAll, TakesPart, HaltsReading, ReadsAs}
use Rattle.line_server.proofs.RunLaws.{lines_of-line, lines_of-piece, lines_of-nil, whole_lines-line, whole_lines-none}
use Rattle.line_server.specs.Outcome.{Completes, StopsReading, ReachesLimit}
use Rattle.line_server.specs.Serving.{AreLines, AreAll, IsBeingRead, halt}

-- ---- lists

-- the element behind a list, and those before it
pub get_behind : {A : Type 0} (xs : List A) (x : A) (ys : List A) → slice_get (xs ++ x ∷ ys) (length xs) ≡ Some x
get_behind [] x ys = refl
get_behind (y ∷ xs) x ys = get_behind xs x ys

pub take_front : {A : Type 0} (xs ys : List A) → take (length xs) (xs ++ ys) ≡ xs
take_front [] ys = refl
take_front {A} (x ∷ xs) ys = ap (λ (zs : List A). x ∷ zs) (take_front xs ys)

-- the first bytes of two parts, where the first part is no longer
pub take_behind : (k n : ℕ) (xs ys : List ℕ) → k ≡ length xs + n → take k (xs ++ ys) ≡ xs ++ take n ys
take_behind k n [] ys e = let same : k ≡ n = omega (arith, e) in ap (λ (m : ℕ). take m ys) same
take_behind zero n (x ∷ xs) ys e = absurd (omega (arith, e))
take_behind (suc k) n (x ∷ xs) ys e = let same : k ≡ length xs + n = omega (arith, e) in ap (λ (zs : List ℕ). x ∷ zs) (take_behind k n xs ys same)

-- ---- lines, each with its line feed

pub AreLines-none : AreLines [] []
AreLines-none = record { each = λ rest. refl; whole = λ rest. refl }

line_behind : (front line rest : List ℕ) → (front ++ (line ++ 10 ∷ [])) ++ rest ≡ front ++ (line ++ 10 ∷ rest)
line_behind front line rest = append_assoc front (line ++ 10 ∷ []) rest ∙ ap (λ (xs : List ℕ). front ++ xs) (append_assoc line (10 ∷ []) rest)

one_more : (lines : List (List ℕ)) (line : List ℕ) (rest : List (List ℕ)) → lines ++ line ∷ rest ≡ (lines ++ line ∷ []) ++ rest
one_more lines line rest = sym (append_assoc lines (line ∷ []) rest)

-- one line more
pub AreLines-more : (front line : List ℕ) (lines : List (List ℕ)) → AreLines front lines → HasNoFeed line → AreLines (front ++ (line ++ 10 ∷ [])) (lines ++ line ∷ [])
AreLines-more front line lines so_far none = record {
  each = λ rest. ap lines_of (line_behind front line rest) ∙ (so_far.each (line ++ 10 ∷ rest)
      ∙ (ap (λ (ls : List (List ℕ)). lines ++ ls) (lines_of-line line rest (λ k l. none k 0 l)) ∙ one_more lines line (lines_of rest)));
  whole = λ rest. ap whole_lines (line_behind front line rest) ∙ (so_far.whole (line ++ 10 ∷ rest)
      ∙ (ap (λ (ls : List (List ℕ)). lines ++ ls) (whole_lines-line line rest (λ k l. none k 0 l)) ∙ one_more lines line (whole_lines rest)));
}

-- a last piece more
pub lines_of-more : (front line : List ℕ) (lines : List (List ℕ)) → AreLines front lines → HasNoFeed line → 0 < length line → lines_of (front ++ line) ≡ lines ++ line ∷ []
lines_of-more front line lines so_far none some = so_far.each line ∙ ap (λ (ls : List (List ℕ)). lines ++ ls) (lines_of-piece line some (λ k l. none k 0 l))

-- nothing more
pub lines_of-all : (front : List ℕ) (lines : List (List ℕ)) → AreLines front lines → lines_of front ≡ lines
lines_of-all front lines so_far = ap lines_of (sym (append-nil front)) ∙ (so_far.each [] ∙ (ap (λ (ls : List (List ℕ)). lines ++ ls) lines_of-nil ∙ append-nil lines))

-- bytes that begin a line
pub whole_lines-rest : (front rest : List ℕ) (lines : List (List ℕ)) → AreLines front lines → HasNoFeed rest → whole_lines (front ++ rest) ≡ lines
whole_lines-rest front rest lines so_far none = so_far.whole rest ∙ (ap (λ (ls : List (List ℕ)). lines ++ ls) (whole_lines-none rest (λ k l. none k 0 l)) ∙ append-nil lines)

-- ---- the next line

-- Where the next bytes begin with a line, the lines that were answered leave more: they are no whole script.
still_lines : (old : Reader) (front pending part line left : List ℕ) (lines : List (List ℕ)) (ended : Bool) → (old.ended ≡ true → length part ≡ 0)
    → AreLines front lines ⊎ AreAll old front pending lines → IsFirstLine ended (pending ++ part) line left → AreLines front lines
still_lines old front pending part line left lines ended none (inl so_far) first = so_far
still_lines old front pending part line left lines ended none (inr all) first =
    let empty : length (pending ++ part) ≡ 0 = omega (arith, length-append pending part, ap (λ (xs : List ℕ). length xs) all.behind, none all.ended) in
    absurd (go first.parts empty) where
      go : ((pending ++ part ≡ line ++ 10 ∷ left) ⊎ ((pending ++ part ≡ line) × (left ≡ []) × (0 < length line) × (ended ≡ true))) → length (pending ++ part) ≡ 0 → ⊥
      go (inl e) z = omega (arith, z, ap (λ (xs : List ℕ). length xs) e, length-append line (10 ∷ left))
      go (inr h) z = omega (arith, z, ap (λ (xs : List ℕ). length xs) h.0, h.2)

-- ---- lines that lead on

-- lines, and one line more
TakesAll-more : {S : Type 0} (t : LineTurns S) (old mid new : S) (lines : List (List ℕ)) (line : List ℕ) → TakesAll t old lines mid → t.Takes line mid new →
    TakesAll t old (lines ++ line ∷ []) new
TakesAll-more t old mid new [] line all takes = (new, subst (λ s. t.Takes line s new) all takes, refl)
TakesAll-more t old mid new (first ∷ lines) line all takes = (all.0, all.1, TakesAll-more t all.0 mid new lines line all.2 takes)

-- ---- bytes that were taken behind those of the lines that were read

no_bytes : (xs : List ℕ) → length xs ≡ 0 → xs ≡ []
no_bytes [] e = refl
no_bytes (x ∷ xs) e = absurd (omega (arith, e))

-- Whatever holds of the lines that were read holds of those of the script, where it ends there.
module _ {S : Type 0} (t : LineTurns S) (limit : ℕ) (old new : Reader) (source_old source_mid source_new : Option (List ℕ)) (start now : S)
    (s : IsBeingRead t limit old source_old source_mid start now) (part : List ℕ) (consumes : Consumes source_mid source_new part)
    (taken : new.taken ≡ old.taken + length part) (same : new.limit ≡ old.limit) where
  abbrev All : List (List ℕ) → Type 0
  All lines = TakesAll t start lines now

  all_of : (lines : List (List ℕ)) → lines ≡ s.lines → All lines
  all_of lines e = subst All (sym e) s.all

  abbrev script : List ℕ
  script = (s.front ++ s.pending) ++ part

  given : Consumes source_old source_new script
  given = Consumes-trans source_old source_mid source_new (s.front ++ s.pending) part s.given consumes

  size : new.taken ≡ length script
  size = omega (arith, taken, s.taken, length-append (s.front ++ s.pending) part)

  -- nothing is pending, and nothing comes
  pub Completes-end : IsAtEnd source_new → s.pending ++ part ≡ [] → Completes All limit source_old source_new
  Completes-end at_end none =
      let empty : length s.pending + length part ≡ 0 = omega (arith, length-append s.pending part, ap (λ (xs : List ℕ). length xs) none) in
      let no_part : part ≡ [] = no_bytes part (omega (arith, empty)) in
      let no_pending : s.pending ≡ [] = no_bytes s.pending (omega (arith, empty)) in
      let all : s.front ++ s.pending ≡ s.front = ap (λ (xs : List ℕ). s.front ++ xs) no_pending ∙ append-nil s.front in
      record {
        script = s.front;
        given = subst (Consumes source_old source_new) (ap (λ (xs : List ℕ). (s.front ++ s.pending) ++ xs) no_part ∙ (append-nil (s.front ++ s.pending) ∙ all)) given;
        ended = at_end;
        short = s.within;
        answers = all_of (lines_of s.front) (go s.split);
      } where
        go : (AreLines s.front s.lines ⊎ AreAll old s.front s.pending s.lines) → lines_of s.front ≡ s.lines
        go (inl so_far) = lines_of-all s.front s.lines so_far
        go (inr whole) = whole.each

  -- the bytes that are left hold no line feed, and the script doesn't end there
  pub StopsReading-there : HasNoFeed (s.pending ++ part) → (old.ended ≡ true → ⊥) → new.taken ≤ new.limit
      → StopsReading All limit source_old source_new
  StopsReading-there none going within = record {
    script = script;
    given = given;
    short = omega (arith, within, size, same, s.bounded);
    answers = all_of (whole_lines script)
        (ap whole_lines (append_assoc s.front s.pending part) ∙ whole_lines-rest s.front (s.pending ++ part) s.lines (go s.split) none);
  } where
    go : (AreLines s.front s.lines ⊎ AreAll old s.front s.pending s.lines) → AreLines s.front s.lines
    go (inl so_far) = so_far
    go (inr whole) = absurd (going whole.ended)

  -- one byte over the limit was taken, and no line feed is left before it
  pub ReachesLimit-there : HasNoFeed (take (length (s.pending ++ part) - 1) (s.pending ++ part)) → (old.ended ≡ true → new.taken ≡ old.taken) → new.taken ≡ new.limit + 1
      → ReachesLimit All limit source_old source_new
  ReachesLimit-there none going over = record {
    script = script;
    given = given;
    long = long;
    answers = all_of (whole_lines (take limit script))
        (ap whole_lines (ap (take limit) (append_assoc s.front s.pending part) ∙ take_behind limit (length bytes - 1) s.front bytes room) ∙ whole_lines-rest s.front (take (length bytes - 1) bytes) s.lines (go s.split) none);
  } where
    bytes : List ℕ
    bytes = s.pending ++ part

    long : length script ≡ limit + 1
    long = omega (arith, size, same, s.bounded, over)

    room : limit ≡ length s.front + (length bytes - 1)
    room = omega (arith, long, s.within, length-append s.front bytes, ap (λ (xs : List ℕ). length xs) (append_assoc s.front s.pending part))

    go : (AreLines s.front s.lines ⊎ AreAll old s.front s.pending s.lines) → AreLines s.front s.lines
    go (inl so_far) = so_far
    go (inr whole) = absurd (omega (arith, going whole.ended, over, same, s.bounded, s.taken, s.within, length-append s.front s.pending, ap (λ (xs : List ℕ). length xs) whole.behind))

-- ---- one line more

-- From these pending bytes a line was fetched.
pub record IsFetched (old new : Reader) (source_old source_new : Option (List ℕ)) (pending line : List ℕ) : Type 0 where
  pub part : List ℕ
  pub left : List ℕ
  pub consumes : Consumes source_old source_new part
  pub taken : new.taken ≡ old.taken + length part
  pub still : IsPending new source_new left
  pub first : IsFirstLine new.ended (pending ++ part) line left
  pub within : new.taken ≤ new.limit

module _ {S : Type 0} (t : LineTurns S) (limit : ℕ) (old new : Reader) (source_old source_mid source_new : Option (List ℕ)) (start before after : S) (line : List ℕ)
    (s : IsBeingRead t limit old source_old source_mid start before) (a : IsFetched old new source_mid source_new s.pending line)
    (same : new.limit ≡ old.limit) (none : old.ended ≡ true → new.taken ≡ old.taken) where
  so_far : AreLines s.front s.lines
  so_far = still_lines old s.front s.pending a.part line a.left s.lines new.ended (λ e. omega (arith, a.taken, none e)) s.split a.first

  abbrev taken_all : List ℕ
  taken_all = (s.front ++ s.pending) ++ a.part

  given_all : Consumes source_old source_new taken_all
  given_all = Consumes-trans source_old source_mid source_new (s.front ++ s.pending) a.part s.given a.consumes

  size_all : new.taken ≡ length taken_all
  size_all = omega (arith, a.taken, s.taken, length-append (s.front ++ s.pending) a.part)

  abbrev Parts : Type 0
  Parts = (s.pending ++ a.part ≡ line ++ 10 ∷ a.left) ⊎ ((s.pending ++ a.part ≡ line) × (a.left ≡ []) × (0 < length line) × (new.ended ≡ true))

  -- reading goes on behind it
  more : t.Takes line before after → IsBeingRead t limit new source_old source_new start after
  more takes = go a.first.parts where
    read : (front : List ℕ) → taken_all ≡ front ++ a.left → (AreLines front (s.lines ++ line ∷ []) ⊎ AreAll new front a.left (s.lines ++ line ∷ [])) →
        IsBeingRead t limit new source_old source_new start after
    read front parts split = record {
      front = front;
      pending = a.left;
      lines = s.lines ++ line ∷ [];
      given = subst (Consumes source_old source_new) parts given_all;
      still = a.still;
      bounded = same ∙ s.bounded;
      taken = size_all ∙ ap (λ (xs : List ℕ). length xs) parts;
      within = omega (arith, a.within, size_all, ap (λ (xs : List ℕ). length xs) parts, length-append front a.left, same, s.bounded);
      split = split;
      all = TakesAll-more t start before after s.lines line s.all takes;
    }

    go : Parts → IsBeingRead t limit new source_old source_new start after
    go (inl e) = read (s.front ++ (line ++ 10 ∷ []))
        (append_assoc s.front s.pending a.part ∙ (ap (λ (xs : List ℕ). s.front ++ xs) e ∙ sym (line_behind s.front line a.left)))
        (inl (AreLines-more s.front line s.lines so_far a.first.no_feed))
    go (inr h) = read (s.front ++ line)
        (append_assoc s.front s.pending a.part ∙ (ap (λ (xs : List ℕ). s.front ++ xs) h.0 ∙ (sym (append-nil (s.front ++ line)) ∙ ap (λ (xs : List ℕ). (s.front ++ line) ++ xs) (sym h.1))))
        (inr (record { each = lines_of-more s.front line s.lines so_far a.first.no_feed h.2; behind = h.1; ended = h.3 }))

  abbrev Part : List (List ℕ) → Type 0
  Part lines = TakesPart t start lines after

  -- reading ends with it
  ends : t.Halts line before after → HaltsReading Part limit source_old source_new
  ends halts = go a.first.parts where
    -- the lines up to this one
    answers : (lines : List (List ℕ)) (rest : List (List ℕ)) → lines ≡ s.lines ++ line ∷ rest → Part lines
    answers lines rest e = record {
      count = length s.lines;
      line = line;
      next = ap (λ (ls : List (List ℕ)). slice_get ls (length s.lines)) e ∙ get_behind s.lines line rest;
      mid = before;
      before = subst (λ (ls : List (List ℕ)). TakesAll t start ls before) (sym (ap (take (length s.lines)) e ∙ take_front s.lines (line ∷ rest))) s.all;
      halts = halts;
    }

    breaks : (Part (whole_lines taken_all) ⊎ (Part (lines_of taken_all) × IsAtEnd source_new)) → HaltsReading Part limit source_old source_new
    breaks parts = record { script = taken_all; given = given_all; short = omega (arith, a.within, size_all, same, s.bounded); answers = parts }

    go : Parts → HaltsReading Part limit source_old source_new
    go (inl e) =
        let parts : taken_all ≡ s.front ++ (line ++ 10 ∷ a.left) = append_assoc s.front s.pending a.part ∙ ap (λ (xs : List ℕ). s.front ++ xs) e in
        breaks (inl (answers (whole_lines taken_all) (whole_lines a.left)
        (ap whole_lines parts ∙ (so_far.whole (line ++ 10 ∷ a.left) ∙ ap (λ (ls : List (List ℕ)). s.lines ++ ls) (whole_lines-line line a.left (λ k l. a.first.no_feed k 0 l))))))
    go (inr h) =
        let parts : taken_all ≡ s.front ++ line = append_assoc s.front s.pending a.part ∙ ap (λ (xs : List ℕ). s.front ++ xs) h.0 in
        breaks (inr (answers (lines_of taken_all) [] (ap lines_of parts ∙ lines_of-more s.front line s.lines so_far a.first.no_feed h.2), a.still.at_end h.3))

  pub way-after : {T E : Type 0} (result : Result T E) → MatchResult result (λ x. t.Takes line before after) (λ e. t.Halts line before after) →
      MatchOption (halt result) (IsBeingRead t limit new source_old source_new start after) (λ end. ReadsAs t end limit source_old source_new start after)
  way-after (Ok x) takes = more takes
  way-after (Err e) halts = ends halts
