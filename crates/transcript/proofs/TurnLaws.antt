-- Laws of what may come next in a transcript, by how far a checker has come.
use Rattle.std.proofs.Common.{◌≡◌, ◌≢◌, ℕ, zero, suc, ◌<◌, ◌≤◌, List, [], ◌∷◌, ◌++◌, length, map, take, Option, refl, sym, ap, subst, ◌∙◌, append_assoc, append-nil, arith}
use Rattle.std.specs.List.{flat_map}
use Rattle.vm_base.specs.declared.refusal.Refusal.TheVariants.{Syntax}
use Rattle.vm_model.specs.Machine.Words.{Reply}
use Rattle.vm_model.specs.declared.reply.Reply.TheVariants.{Refused, Runs as RunsReply}
use Rattle.vm_model.specs.Language.Reading.{Reading, Blank, Order, Outside, reading}
use Rattle.vm_model.specs.Language.Text.{reply_lines}
use Rattle.vm_model.specs.Machine.Machine.{Machine, empty_machine, IsGoodMachine}
use Rattle.moving_model.specs.Moving.{MovingGivesAs, MovingGives}
use Rattle.moving_model.specs.Transcript.{Told, Asked, Answered, Turn, turns_told, Turns, IsWhole, MayBegin}
use Rattle.moving_model.specs.Standing.{StandsFor}
use Rattle.moving_model.specs.Following.{Follows, MayAnswer, first_line}
use Rattle.moving_model.proofs.RunLaws.{MovingStep-from}
use Rattle.moving_model.proofs.TranscriptLaws.{turns-append, told-append, turns_keep}
use Rattle.moving_model.proofs.AnswerLaws.{has_reply}
use Rattle.vm_model.proofs.MachineLaws.{IsGoodMachine-empty}
use Rattle.transcript.specs.Checking.{Stands, IsListing}

-- ---- lists of what is told

told_same : (a b : Told) (xs ys : List Told) → ◌≡◌ {A = List Told} (a ∷ xs) (b ∷ ys) → (a ≡ b) × (xs ≡ ys)
told_same a b xs ys e = (cc, cc)

asked_same : {a b : List ℕ} → ◌≡◌ {A = Told} (Asked a) (Asked b) → a ≡ b
asked_same e = cc

pub answered_same : {a b : List ℕ} → ◌≡◌ {A = Told} (Answered a) (Answered b) → a ≡ b
answered_same e = cc

-- turns begin with a line of the script
turns_asked : (turns : List Turn) (line : List ℕ) (rest : List Told) → turns_told turns ≢ Answered line ∷ rest
turns_asked [] line rest e = absurd cc
turns_asked (turn ∷ turns) line rest e = absurd (let same = (told_same _ _ _ _ e).0 in cc)

-- each reply has a line
pub reply_first : (reply : Reply) → (lines : List (List ℕ)) × (reply_lines reply ≡ first_line reply ∷ lines)
unfolding reply_lines
reply_first (RunsReply runs) = (_, refl)
reply_first reply = ([], refl)

-- so a line that asks has one
gives_line : (line : List ℕ) (how : Reading) → reading line ≡ how → how ≢ Blank → (other : Machine) (replies : List Reply) (new : Machine) → MovingGivesAs how other replies new
    → (first : List ℕ) × (rest : List (List ℕ)) × (flat_map reply_lines replies ≡ first ∷ rest)
gives_line line Blank e asks other replies new gives = absurd (asks refl)
gives_line line (Order command) e asks other replies new gives =
    let first = reply_first gives.0 in
    (first_line gives.0, first.0, ap (flat_map reply_lines) gives.1 ∙ (append-nil (reply_lines gives.0) ∙ first.1))
gives_line line Outside e asks other replies new gives =
    let first = reply_first (Refused Syntax) in
    (first_line (Refused Syntax), first.0, ap (flat_map reply_lines) gives.0 ∙ (append-nil (reply_lines (Refused Syntax)) ∙ first.1))

-- ---- a line of the script that asks, and behind it more

-- The first turn behind whole turns, where a line asks and `more` was told behind it.
pub record FirstTurn (own : Machine) (numbers : ℕ → Option ℕ) (line : List ℕ) (more : List Told) : Type 0 where
  pub other : Machine
  pub stands : StandsFor own numbers other
  pub replies : List Reply
  pub new : Machine
  pub gives : MovingGives line other replies new
  pub turns : List Turn
  pub is : map Answered (flat_map reply_lines replies) ++ turns_told turns ≡ more

pub first_turn : (frames : ℕ) (own : Machine) (numbers : ℕ → Option ℕ) (tells : List Told) (line : List ℕ) (more : List Told) (last : Machine) → Follows frames own numbers tells
    → IsWhole frames (tells ++ Asked line ∷ more) last → FirstTurn own numbers line more
first_turn frames own numbers tells line more last follows whole =
    let on = follows.only whole.turns last (Asked line ∷ more) whole.run whole.is in
    go on.0 on.1 on.2 on.3 on.4 where
      go : (turns : List Turn) (other : Machine) → StandsFor own numbers other → Turns other turns last → turns_told turns ≡ Asked line ∷ more → FirstTurn own numbers line more
      go [] other stands run e = absurd cc
      go (turn ∷ turns) other stands run e =
          let parts = told_same _ _ _ _ e in
          record {
            other = other;
            stands = stands;
            replies = turn.replies;
            new = run.0;
            gives = subst (λ (l : List ℕ). MovingGives l other turn.replies run.0) (asked_same parts.0) run.1;
            turns = turns;
            is = parts.1;
          }

-- Behind a line that asks comes the first line of a reply that may be.
pub due_next : (frames : ℕ) (own : Machine) (numbers : ℕ → Option ℕ) (before : List Told) (pending : List ℕ) (more : List Told) (last : Machine) → Follows frames own numbers before → reading pending ≢ Blank
    → IsWhole frames ((before ++ Asked pending ∷ []) ++ more) last → (first : List ℕ) × (rest : List Told) × (more ≡ Answered first ∷ rest) × MayAnswer own numbers pending first
due_next frames own numbers before pending more last follows asks whole =
    let turn = first_turn frames own numbers before pending more last follows (subst (λ (ts : List Told). IsWhole frames ts last) (append_assoc before (Asked pending ∷ []) more) whole) in
    let line = gives_line pending (reading pending) refl asks turn.other turn.replies turn.new turn.gives.answer in (
      line.0,
      map Answered line.1 ++ turns_told turn.turns,
      sym turn.is ∙ ap (λ (ls : List (List ℕ)). map Answered ls ++ turns_told turn.turns) line.2,
      record { other = turn.other; stands = turn.stands; replies = turn.replies; new = turn.new; gives = turn.gives; lines = line.1; begins = line.2 },
    )

-- ---- a reply of which a part was told

split_at : (count : ℕ) (lines : List (List ℕ)) → count < length lines → (line : List ℕ) × (rest : List (List ℕ)) × (lines ≡ take count lines ++ line ∷ rest)
split_at count [] h = absurd (omega (arith, h))
split_at zero (line ∷ lines) h = (line, lines, refl)
split_at (suc count) (line ∷ lines) h = let more = split_at count lines (omega (arith, h)) in (more.0, more.1, ap (λ (ls : List (List ℕ)). line ∷ ls) more.2)

map_append : (xs ys : List (List ℕ)) → map Answered (xs ++ ys) ≡ map Answered xs ++ map Answered ys
map_append [] ys = refl
map_append (x ∷ xs) ys = ap (λ (ts : List Told). Answered x ∷ ts) (map_append xs ys)

rest_same : (xs ys zs : List Told) → xs ++ ys ≡ xs ++ zs → ys ≡ zs
rest_same [] ys zs e = e
rest_same (x ∷ xs) ys zs e = rest_same xs ys zs (told_same _ _ _ _ e).1

-- The line at `count` of the lines of a reply, and what is told behind a part of them that has the first.
module _ (frames : ℕ) (own : Machine) (numbers : ℕ → Option ℕ) (pending : List ℕ) (reply : Reply) (count : ℕ) (tells : List Told) (listing : IsListing frames own numbers pending reply count tells) where
  abbrev lines : List (List ℕ)
  lines = reply_lines reply

  -- the first line was told
  begins_so : (k : ℕ) → 1 ≤ k → (rest : List (List ℕ)) × (take k lines ≡ first_line reply ∷ rest)
  begins_so zero h = absurd (omega (arith, h))
  begins_so (suc k) h = let first = reply_first reply in (take k first.0, ap (take (suc k)) first.1)

  -- Where whole turns go on from here, the next line of the reply is the next.
  pub listing_next : (more : List Told) (last : Machine) → IsWhole frames (tells ++ more) last → (line : List ℕ) × (left : List (List ℕ)) × (lines ≡ take count lines ++ line ∷ left) × (rest : List Told) × (more ≡ Answered line ∷ rest)
  listing_next more last whole =
      let before = listing.before in
      let part = map Answered (take count lines) in
      let a = listing.answered in
      let shape : tells ++ more ≡ before ++ Asked pending ∷ (part ++ more) = ap (λ (ts : List Told). ts ++ more) listing.is ∙ append_assoc before (Asked pending ∷ part) more in
      let turn = first_turn frames a.old a.was before pending (part ++ more) last a.stands.follows (subst (λ (ts : List Told). IsWhole frames ts last) shape whole) in
      let begin = begins_so count listing.some in
      go turn (flat_map reply_lines turn.replies) refl begin where
        go : (turn : FirstTurn listing.answered.old listing.answered.was pending (map Answered (take count lines) ++ more)) (gs : List (List ℕ)) → flat_map reply_lines turn.replies ≡ gs
            → (rest : List (List ℕ)) × (take count lines ≡ first_line reply ∷ rest) → (line : List ℕ) × (left : List (List ℕ)) × (lines ≡ take count lines ++ line ∷ left) × (rest : List Told) × (more ≡ Answered line ∷ rest)
        go turn [] e begin = absurd (turns_asked turn.turns (first_line reply) (map Answered begin.0 ++ more)
            (ap (λ (ls : List (List ℕ)). map Answered ls ++ turns_told turn.turns) (sym e) ∙ (turn.is ∙ ap (λ (ls : List (List ℕ)). map Answered ls ++ more) begin.1)))
        go turn (g ∷ gs) e begin =
            let agree = ap (λ (ls : List (List ℕ)). map Answered ls ++ turns_told turn.turns) (sym e) ∙ (turn.is ∙ ap (λ (ls : List (List ℕ)). map Answered ls ++ more) begin.1) in
            let first : g ≡ first_line reply = answered_same (told_same _ _ _ _ agree).0 in
            let all : flat_map reply_lines turn.replies ≡ lines = listing.answered.only turn.other turn.new turn.replies gs turn.stands turn.gives (e ∙ ap (λ (l : List ℕ). l ∷ gs) first) in
            let parts = split_at count lines listing.left in
            let whole_lines : map Answered lines ≡ map Answered (take count lines) ++ (Answered parts.0 ∷ map Answered parts.1) = ap (map Answered) parts.2 ∙ map_append (take count lines) (parts.0 ∷ parts.1) in
            let told_so : map Answered (take count lines) ++ ((Answered parts.0 ∷ map Answered parts.1) ++ turns_told turn.turns) ≡ map Answered (take count lines) ++ more =
            sym (append_assoc (map Answered (take count lines)) (Answered parts.0 ∷ map Answered parts.1) (turns_told turn.turns))
            ∙ (ap (λ (ts : List Told). ts ++ turns_told turn.turns) (sym whole_lines) ∙ (ap (λ (ls : List (List ℕ)). map Answered ls ++ turns_told turn.turns) (sym all) ∙ turn.is)) in
            (parts.0, parts.1, parts.2, map Answered parts.1 ++ turns_told turn.turns, sym (rest_same (map Answered (take count lines)) _ _ told_so))

  -- And such turns there are.
  pub listing_may : MayBegin frames tells
  listing_may =
      let parts = split_at count lines listing.left in
      let a = listing.answered in
      let whole = a.ends.follows.reach a.ends.follows.some.0 a.ends.follows.some.1 in
      record {
        rest = Answered parts.0 ∷ map Answered parts.1;
        last = a.ends.follows.some.0;
        whole = subst (λ (ts : List Told). IsWhole frames ts a.ends.follows.some.0)
            (ap (λ (ts : List Told). listing.before ++ Asked pending ∷ ts) (ap (map Answered) parts.2 ∙ map_append (take count lines) (parts.0 ∷ parts.1))
            ∙ (sym (append_assoc listing.before (Asked pending ∷ map Answered (take count lines)) (Answered parts.0 ∷ map Answered parts.1))
            ∙ ap (λ (ts : List Told). ts ++ Answered parts.0 ∷ map Answered parts.1) (sym listing.is))) whole;
      }

-- ---- a line of the script behind whole turns

has_turn : (line : List ℕ) (how : Reading) → reading line ≡ how → (old : Machine) → IsGoodMachine old → (replies : List Reply) × (new : Machine) × MovingGivesAs how old replies new
has_turn line Blank e old good = ([], old, (refl, refl))
has_turn line (Order command) e old good =
    let step = has_reply old command good in
    (step.0 ∷ [], step.1, (step.0, refl, MovingStep-from old step.1 command step.0 step.2))
has_turn line Outside e old good = (Refused Syntax ∷ [], old, (refl, refl))

pub due_may : (frames : ℕ) (own : Machine) (numbers : ℕ → Option ℕ) (before : List Told) (line : List ℕ) → Stands frames own numbers before → MayBegin frames (before ++ Asked line ∷ [])
due_may frames own numbers before line stands =
    let last = stands.follows.some.0 in
    let whole = stands.follows.reach last stands.follows.some.1 in
    let good = turns_keep whole.turns (empty_machine frames) last (IsGoodMachine-empty frames) whole.run in
    let next = has_turn line (reading line) refl last good in
    let turn : Turn = record { line = line; replies = next.0 } in
    let behind : List Told = map Answered (flat_map reply_lines next.0) in
    record {
      rest = behind;
      last = next.1;
      whole = record {
        turns = whole.turns ++ turn ∷ [];
        run = turns-append whole.turns (empty_machine frames) last turn next.1 whole.run (record { answer = next.2 });
        is = told-append whole.turns turn ∙ (ap (λ (tells : List Told). tells ++ Asked line ∷ behind) whole.is ∙ sym (append_assoc before (Asked line ∷ []) behind));
      };
    }

pub stands_may : (frames : ℕ) (own : Machine) (numbers : ℕ → Option ℕ) (tells : List Told) → Stands frames own numbers tells → MayBegin frames tells
stands_may frames own numbers tells stands =
    let last = stands.follows.some.0 in
    record { rest = []; last = last; whole = subst (λ (ts : List Told). IsWhole frames ts last) (sym (append-nil tells)) (stands.follows.reach last stands.follows.some.1) }
