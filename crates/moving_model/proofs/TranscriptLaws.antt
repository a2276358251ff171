-- Laws of transcripts: a whole one stands for a script and a text that are legal where pages move, and what may come next.
use Rattle.std.proofs.Common.{◌≡◌, ℕ, List, [], ◌∷◌, ◌++◌, map, Some, refl, sym, ap, subst, ◌∙◌, append-nil, append_assoc}
use Rattle.std.specs.List.{flat_map, concat}
use Rattle.vm_base.specs.declared.refusal.Refusal.TheVariants.{Syntax}
use Rattle.vm_model.specs.Machine.Words.{Reply}
use Rattle.vm_model.specs.declared.reply.Reply.TheVariants.{Refused}
use Rattle.vm_model.specs.Language.Reading.{Reading, Blank, Order, Outside, reading}
use Rattle.vm_model.specs.Language.Text.{reply_lines, text, texts}
use Rattle.vm_model.specs.Machine.Machine.{Machine, empty_machine, IsGoodMachine}
use Rattle.vm_model.proofs.MachineLaws.{IsGoodMachine-empty}
use Rattle.moving_model.specs.Moving.{MovingGivesAs, MovingGives, MovingRun, MovingLegal}
use Rattle.moving_model.specs.Transcript.{Told, Asked, Answered, told, Turn, turn_told, turns_told, Turns, IsWhole, MayBegin, script_of, answers_of, AllTold, ArePossible, AreWhole}
use Rattle.moving_model.proofs.ReadingLaws.{reading_gives}
use Rattle.moving_model.proofs.RunLaws.{MovingStep-from}
use Rattle.moving_model.proofs.MovingLaws.{MovingStep-keeps}
use Rattle.moving_model.proofs.AnswerLaws.{has_reply}

-- ---- what whole turns stand for

script-answered : (lines : List (List ℕ)) (rest : List Told) → script_of (map Answered lines ++ rest) ≡ script_of rest
script-answered [] rest = refl
script-answered (line ∷ lines) rest = script-answered lines rest

answers-answered : (lines : List (List ℕ)) (rest : List Told) → answers_of (map Answered lines ++ rest) ≡ concat lines ++ answers_of rest
answers-answered [] rest = refl
answers-answered (line ∷ lines) rest = ap (λ (bytes : List ℕ). line ++ bytes) (answers-answered lines rest) ∙ sym (append_assoc line (concat lines) (answers_of rest))

concat-append : (xs ys : List (List ℕ)) → concat (xs ++ ys) ≡ concat xs ++ concat ys
concat-append [] ys = refl
concat-append (x ∷ xs) ys = ap (λ (bytes : List ℕ). x ++ bytes) (concat-append xs ys) ∙ sym (append_assoc x (concat xs) (concat ys))

texts-lines : (replies : List Reply) → concat (flat_map reply_lines replies) ≡ texts replies
unfolding text
texts-lines [] = refl
texts-lines (reply ∷ replies) = concat-append (reply_lines reply) (flat_map reply_lines replies) ∙ ap (λ (bytes : List ℕ). concat (reply_lines reply) ++ bytes) (texts-lines replies)

texts-append : (now later : List Reply) → texts (now ++ later) ≡ texts now ++ texts later
texts-append [] later = refl
texts-append (reply ∷ now) later = ap (λ (bytes : List ℕ). text reply ++ bytes) (texts-append now later) ∙ sym (append_assoc (text reply) (texts now) (texts later))

-- the script and the replies of turns
abbrev pub turn_lines : List Turn → List (List ℕ)
turn_lines turns = map (λ (turn : Turn). turn.line) turns

abbrev pub turn_replies : List Turn → List Reply
turn_replies turns = flat_map (λ (turn : Turn). turn.replies) turns

script-turns : (turns : List Turn) → script_of (turns_told turns) ≡ turn_lines turns
script-turns [] = refl
script-turns (turn ∷ turns) = ap (λ (lines : List (List ℕ)). turn.line ∷ lines) (script-answered (flat_map reply_lines turn.replies) (turns_told turns) ∙ script-turns turns)

answers-turns : (turns : List Turn) → answers_of (turns_told turns) ≡ texts (turn_replies turns)
answers-turns [] = refl
answers-turns (turn ∷ turns) =
    answers-answered (flat_map reply_lines turn.replies) (turns_told turns)
    ∙ ((λ i. texts-lines turn.replies i ++ answers-turns turns i) ∙ sym (texts-append turn.replies (turn_replies turns)))

run-turns : (turns : List Turn) (old last : Machine) → Turns old turns last → MovingRun old (turn_lines turns) (turn_replies turns) last
run-turns [] old last run = (refl, run)
run-turns (turn ∷ turns) old last run = (run.0, turn.replies, turn_replies turns, run.1, run-turns turns run.0 last run.2, refl)

-- A whole transcript stands for a script and a text that are legal.
pub whole-legal : (frames : ℕ) (lines : List Told) (last : Machine) → IsWhole frames lines last → MovingLegal frames (script_of lines) (answers_of lines)
whole-legal frames lines last whole = subst (λ (tells : List Told). MovingLegal frames (script_of tells) (answers_of tells)) whole.is (record {
  last = last;
  replies = turn_replies whole.turns;
  run = subst (λ (script : List (List ℕ)). MovingRun (empty_machine frames) script (turn_replies whole.turns) last) (sym (script-turns whole.turns)) (run-turns whole.turns (empty_machine frames) last whole.run);
  text = answers-turns whole.turns;
})

-- a run, turn by turn
record InTurns (old : Machine) (lines : List (List ℕ)) (replies : List Reply) (last : Machine) : Type 0 where
  pub turns : List Turn
  pub run : Turns old turns last
  pub lines_are : turn_lines turns ≡ lines
  pub replies_are : turn_replies turns ≡ replies

turns-run : (lines : List (List ℕ)) (old : Machine) (replies : List Reply) (last : Machine) → MovingRun old lines replies last → InTurns old lines replies last
turns-run [] old replies last run = record { turns = []; run = run.1; lines_are = refl; replies_are = sym run.0 }
turns-run (line ∷ lines) old replies last run =
    let rest = turns-run lines run.0 run.2 last run.4 in
    record {
      turns = record { line = line; replies = run.1 } ∷ rest.turns;
      run = (run.0, run.3, rest.run);
      lines_are = ap (λ (more : List (List ℕ)). line ∷ more) rest.lines_are;
      replies_are = ap (λ (more : List Reply). run.1 ++ more) rest.replies_are ∙ sym run.5;
    }

-- And what is legal is told by a whole transcript.
pub legal-whole : (frames : ℕ) (lines : List (List ℕ)) (out : List ℕ) → MovingLegal frames lines out
    → (tells : List Told) × (last : Machine) × IsWhole frames tells last × (script_of tells ≡ lines) × (answers_of tells ≡ out)
legal-whole frames lines out legal =
    let all = turns-run lines (empty_machine frames) legal.replies legal.last legal.run in (
      turns_told all.turns,
      legal.last,
      record { turns = all.turns; run = all.run; is = refl },
      script-turns all.turns ∙ all.lines_are,
      answers-turns all.turns ∙ (ap texts all.replies_are ∙ sym legal.text),
    )

-- ---- one turn more

gives_keeps : (line : List ℕ) (how : Reading) → reading line ≡ how → (old : Machine) (replies : List Reply) (new : Machine) → IsGoodMachine old → MovingGivesAs how old replies new → IsGoodMachine new
gives_keeps line Blank e old replies new good gives = subst IsGoodMachine (sym gives.1) good
gives_keeps line (Order command) e old replies new good gives = (MovingStep-keeps old new command gives.0 good (reading_gives line command e) gives.2).good
gives_keeps line Outside e old replies new good gives = subst IsGoodMachine (sym gives.1) good

pub turns_keep : (turns : List Turn) (old last : Machine) → IsGoodMachine old → Turns old turns last → IsGoodMachine last
turns_keep [] old last good run = subst IsGoodMachine (sym run) good
turns_keep (turn ∷ turns) old last good run =
    turns_keep turns run.0 last (gives_keeps turn.line (reading turn.line) refl old turn.replies run.0 good run.1.answer) run.2

-- each line may be answered
has_turn : (line : List ℕ) (how : Reading) → reading line ≡ how → (old : Machine) → IsGoodMachine old → (replies : List Reply) × (new : Machine) × MovingGivesAs how old replies new
has_turn line Blank e old good = ([], old, (refl, refl))
has_turn line (Order command) e old good =
    let step = has_reply old command good in
    (step.0 ∷ [], step.1, (step.0, refl, MovingStep-from old step.1 command step.0 step.2))
has_turn line Outside e old good = (Refused Syntax ∷ [], old, (refl, refl))

pub turns-append : (turns : List Turn) (old mid : Machine) (turn : Turn) (new : Machine) → Turns old turns mid → MovingGives turn.line mid turn.replies new → Turns old (turns ++ turn ∷ []) new
turns-append [] old mid turn new run gives = (new, subst (λ (m : Machine). MovingGives turn.line m turn.replies new) run gives, refl)
turns-append (first ∷ turns) old mid turn new run gives = (run.0, run.1, turns-append turns run.0 mid turn new run.2 gives)

pub told-append : (turns : List Turn) (turn : Turn) → turns_told (turns ++ turn ∷ []) ≡ turns_told turns ++ turn_told turn
told-append [] turn = append-nil (turn_told turn)
told-append (first ∷ turns) turn = ap (λ (rest : List Told). turn_told first ++ rest) (told-append turns turn) ∙ sym (append_assoc (turn_told first) (turns_told turns) (turn_told turn))

-- Behind whole turns any line of a script may come.
asked_may : (frames : ℕ) (lines : List Told) (last : Machine) (line : List ℕ) → IsWhole frames lines last → MayBegin frames (lines ++ Asked line ∷ [])
asked_may frames lines last line whole =
    let good = turns_keep whole.turns (empty_machine frames) last (IsGoodMachine-empty frames) whole.run in
    let next = has_turn line (reading line) refl last good in
    let turn : Turn = record { line = line; replies = next.0 } in
    let behind : List Told = map Answered (flat_map reply_lines next.0) in
    record {
      rest = behind;
      last = next.1;
      whole = record {
        turns = whole.turns ++ turn ∷ [];
        run = turns-append whole.turns (empty_machine frames) last turn next.1 whole.run (record { answer = next.2 });
        is = told-append whole.turns turn ∙ (ap (λ (tells : List Told). tells ++ turn_told turn) whole.is ∙ sym (append_assoc lines (Asked line ∷ []) behind));
      };
    }

-- ---- lines of bytes

AllTold-append : (lines more : List (List ℕ)) (tells rest : List Told) → AllTold lines tells → AllTold more rest → AllTold (lines ++ more) (tells ++ rest)
AllTold-append [] more [] rest all too = too
AllTold-append [] more (one ∷ tells) rest all too = absurd all
AllTold-append (line ∷ lines) more [] rest all too = absurd all
AllTold-append (line ∷ lines) more (one ∷ tells) rest all too = (all.0, AllTold-append lines more tells rest all.1 too)

AllTold-split : (lines more : List (List ℕ)) (all : List Told) → AllTold (lines ++ more) all → (tells rest : List Told) × (all ≡ tells ++ rest) × AllTold lines tells × AllTold more rest
AllTold-split [] more all told_are = ([], all, refl, tt, told_are)
AllTold-split (line ∷ lines) more [] told_are = absurd told_are
AllTold-split (line ∷ lines) more (one ∷ all) told_are =
    let parts = AllTold-split lines more all told_are.1 in
    (one ∷ parts.0, parts.1, ap (λ (tells : List Told). one ∷ tells) parts.2, (told_are.0, parts.3), parts.4)

pub line_may : (frames : ℕ) (lines : List (List ℕ)) (line script : List ℕ) → AreWhole frames lines → told line ≡ Some (Asked script) → ArePossible frames (lines ++ line ∷ [])
line_may frames lines line script whole e = record {
  tells = whole.tells ++ Asked script ∷ [];
  told_are = AllTold-append lines (line ∷ []) whole.tells (Asked script ∷ []) whole.told_are (e, tt);
  begins = asked_may frames whole.tells whole.last script whole.whole;
}

-- what is possible was so before
pub was_possible : (frames : ℕ) (lines more : List (List ℕ)) → ArePossible frames (lines ++ more) → ArePossible frames lines
was_possible frames lines more possible =
    let parts = AllTold-split lines more possible.tells possible.told_are in
    record {
      tells = parts.0;
      told_are = parts.3;
      begins = record {
        rest = parts.1 ++ possible.begins.rest;
        last = possible.begins.last;
        whole = subst (λ (all : List Told). IsWhole frames all possible.begins.last)
            (ap (λ (all : List Told). all ++ possible.begins.rest) parts.2 ∙ append_assoc parts.0 parts.1 possible.begins.rest) possible.begins.whole;
      };
    }

-- and a transcript is possible
pub whole_possible : (frames : ℕ) (lines : List (List ℕ)) → AreWhole frames lines → ArePossible frames lines
whole_possible frames lines whole = record {
  tells = whole.tells;
  told_are = whole.told_are;
  begins = record { rest = []; last = whole.last; whole = subst (λ (all : List Told). IsWhole frames all whole.last) (sym (append-nil whole.tells)) whole.whole };
}

-- no lines are one
pub none_whole : (frames : ℕ) → AreWhole frames []
none_whole frames = record { tells = []; told_are = tt; last = empty_machine frames; whole = record { turns = []; run = refl; is = refl } }
