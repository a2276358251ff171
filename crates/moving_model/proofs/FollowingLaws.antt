-- Laws of following a transcript: what an own machine stands for after each turn, and what may come next.
use Rattle.std.proofs.Common.{◌≡◌, ◌≢◌, ℕ, ◌<◌, ◌≤◌, ◌^◌, true, false, List, [], ◌∷◌, ◌++◌, map, Option, None, Some, refl, sym, ap, subst, ◌∙◌, inl, inr, append-nil, append_assoc, arith}
use Rattle.std.specs.List.{AllByRecursion, flat_map}
use Rattle.vm_base.specs.declared.refusal.Refusal.{Refusal}
use Rattle.vm_base.specs.declared.refusal.Refusal.TheVariants.{Syntax, HostMemory}
use Rattle.vm_base.specs.declared.names.PinName.{PinName}
use Rattle.vm_base.specs.declared.names.VmoName.{VmoName}
use Rattle.vm_model.specs.Machine.Words.{Command, Reply}
use Rattle.vm_model.specs.declared.command.Command.TheVariants.{VmoChild, VmoPin, VmarAllocate, VmarMap, MemRead, MemWrite}
use Rattle.vm_model.specs.declared.command.ChildKind.TheVariants.{Snapshot}
use Rattle.vm_model.specs.declared.reply.Reply.TheVariants.{Address, Pins, Runs as RunsReply, Refused}
use Rattle.vm_model.specs.Contents.Content.{nothing}
use Rattle.vm_model.specs.Naming.Pins.{is_pinned, covers}
use Rattle.vm_model.specs.Language.Reading.{Reading, Blank, Order, Outside, reading}
use Rattle.vm_model.specs.Language.Text.{reply_lines}
use Rattle.vm_model.specs.Machine.State.{empty_state}
use Rattle.vm_model.specs.Machine.Refusals.{refusals, first_of}
use Rattle.vm_model.specs.Machine.Machine.{Machine, empty_machine, IsGoodMachine}
use Rattle.vm_model.specs.Machine.MachineStep.{MachineEffect, MachineStepAfter, MachineStep}
use Rattle.vm_base.specs.declared.limits.TheConstants.{NAMES}
use Rattle.vm_base.proofs.EntryLaws.{any_entry_found}
use Rattle.moving_model.specs.Renaming.{Renaming, machine_renamed}
use Rattle.moving_model.specs.Moving.{MovingStep, MovingGivesAs, MovingGives, TellsNoFrames, tells_choice, tells_place}
use Rattle.moving_model.specs.Transcript.{Told, Asked, Answered, Turn, turns_told, Turns, MayBegin}
use Rattle.moving_model.specs.Standing.{StandsFor, with_seen, Fits, AreSeen, AreLeft}
use Rattle.moving_model.specs.Following.{Follows, MayAnswer, first_line}
use Rattle.moving_model.proofs.ReadingLaws.{reading_gives}
use Rattle.moving_model.proofs.OutcomeLaws.{one_reply}
use Rattle.moving_model.proofs.ReplyTextLaws.{refused_text}
use Rattle.moving_model.proofs.PinTextLaws.{pins_text, pin_cases}
use Rattle.moving_model.proofs.NumberLaws.{to_below}
use Rattle.moving_model.proofs.GoodLaws.{IsGoodMachine-renamed}
use Rattle.moving_model.proofs.RowLaws.{all_map, all_over}
use Rattle.moving_model.proofs.PlaceLaws.{place_cases, address_text, step_address}
use Rattle.moving_model.proofs.StandingLaws.{stands_left, stands_all, stands_same, other_step, stands_forth, stands_back, stands_step, stands_good}
use Rattle.moving_model.proofs.StandingPinLaws.{pins_same, pins_forth, pins_back, pins_some}
use Rattle.moving_model.proofs.TranscriptLaws.{turns-append, told-append}

-- ---- the beginning

empty_renamed : (frames : ℕ) (r : Renaming) → machine_renamed r (empty_machine frames) ≡ empty_machine frames
unfolding empty_machine empty_state nothing
empty_renamed frames r = refl

no_pin : (frames v p : ℕ) → is_pinned (empty_machine frames).state.pins v p ≢ true
unfolding empty_machine empty_state
no_pin frames v p e = let found = any_entry_found NAMES (covers v p) (λ n. None) e in absurd (let none = found.3 in cc)

-- nothing was seen of it
pub seen_begin : (frames : ℕ) → AreSeen (empty_machine frames) (λ t. None)
seen_begin frames = record {
  below = λ t k e. absurd cc;
  one = λ t u k e f. absurd cc;
  each = λ v p held pinned e. absurd (no_pin frames v p pinned);
  only = λ t k e. absurd cc;
}

-- A machine with frames and nothing else stands for what no lines have led to.
pub follows_begin : (frames : ℕ) (numbers : ℕ → Option ℕ) → Follows frames (empty_machine frames) numbers []
follows_begin frames numbers =
    let begin = empty_machine frames in
    record {
      some = (begin, stands_same begin numbers (no_pin frames));
      reach = λ other stands. record { turns = []; run = stands.is ∙ empty_renamed frames stands.by; is = refl };
      only = λ turns last rest run told. (turns, begin, stands_same begin numbers (no_pin frames), run, told);
    }

-- ---- lists of what is told

told_same : (a b : Told) (xs ys : List Told) → ◌≡◌ {A = List Told} (a ∷ xs) (b ∷ ys) → (a ≡ b) × (xs ≡ ys)
told_same a b xs ys e = (cc, cc)

asked_same : {a b : List ℕ} → ◌≡◌ {A = Told} (Asked a) (Asked b) → a ≡ b
asked_same e = cc

answered_same : {a b : List ℕ} → ◌≡◌ {A = Told} (Answered a) (Answered b) → a ≡ b
answered_same e = cc

-- turns begin with a line of the script
turns_asked : (turns : List Turn) (line : List ℕ) (rest : List Told) → turns_told turns ≢ Answered line ∷ rest
turns_asked [] line rest e = absurd cc
turns_asked (turn ∷ turns) line rest e = absurd (let same = (told_same _ _ _ _ e).0 in cc)

-- the same lines in front, the same rest
rest_same : (lines : List (List ℕ)) (xs ys : List Told) → map Answered lines ++ xs ≡ map Answered lines ++ ys → xs ≡ ys
rest_same [] xs ys e = e
rest_same (line ∷ lines) xs ys e = rest_same lines xs ys (told_same _ _ _ _ e).1

-- ---- one turn more

-- What a line may be answered by: replies whose first lines agree with what was told are these lines, and lead on to machines that
-- next stands for. And each of those is come to so.
pub record LeadsTo (own : Machine) (numbers : ℕ → Option ℕ) (line : List ℕ) (lines : List (List ℕ)) (next : Machine) (later : ℕ → Option ℕ) : Type 0 where
  pub forth : (other new : Machine) (replies : List Reply) (more rest : List Told) → StandsFor own numbers other → MovingGives line other replies new
      → map Answered (flat_map reply_lines replies) ++ more ≡ map Answered lines ++ rest → ((x : List ℕ) (xs : List Told) → more ≢ Answered x ∷ xs)
      → StandsFor next later new × (flat_map reply_lines replies ≡ lines)
  pub back : (new : Machine) → StandsFor next later new → (other : Machine) × StandsFor own numbers other × (replies : List Reply) × MovingGives line other replies new × (flat_map reply_lines replies ≡ lines)
  pub some : (new : Machine) × StandsFor next later new

pub follows_turn : (frames : ℕ) (own : Machine) (numbers : ℕ → Option ℕ) (tells : List Told) (line : List ℕ) (lines : List (List ℕ)) (next : Machine) (later : ℕ → Option ℕ)
    → Follows frames own numbers tells → LeadsTo own numbers line lines next later → Follows frames next later (tells ++ Asked line ∷ map Answered lines)
follows_turn frames own numbers tells line lines next later follows leads = record {
  some = leads.some;
  reach = λ new stands.
      let from = leads.back new stands in
      let whole = follows.reach from.0 from.1 in
      let turn : Turn = record { line = line; replies = from.2 } in
      record {
        turns = whole.turns ++ turn ∷ [];
        run = turns-append whole.turns (empty_machine frames) from.0 turn new whole.run from.3;
        is = told-append whole.turns turn ∙ (λ i. whole.is i ++ Asked line ∷ map Answered (from.4 i));
      };
  only = λ turns last rest run told.
      let before = follows.only turns last (Asked line ∷ (map Answered lines ++ rest)) run (told ∙ append_assoc tells (Asked line ∷ map Answered lines) rest) in
      go rest before.1 before.2 before.0 last before.3 before.4;
} where
  go : (rest : List Told) (other : Machine) → StandsFor own numbers other → (turns : List Turn) (last : Machine) → Turns other turns last → turns_told turns ≡ Asked line ∷ (map Answered lines ++ rest)
      → (behind : List Turn) × (new : Machine) × StandsFor next later new × Turns new behind last × (turns_told behind ≡ rest)
  go rest other stands [] last run e = absurd cc
  go rest other stands (turn ∷ turns) last run e =
      let parts = told_same _ _ _ _ e in
      let same : turn.line ≡ line = asked_same parts.0 in
      let gives : MovingGives line other turn.replies run.0 = subst (λ (l : List ℕ). MovingGives l other turn.replies run.0) same run.1 in
      let on = leads.forth other run.0 turn.replies (turns_told turns) rest stands gives parts.1 (turns_asked turns) in
      (turns, run.0, on.0, run.2, rest_same lines (turns_told turns) rest (subst (λ (ls : List (List ℕ)). map Answered ls ++ turns_told turns ≡ map Answered lines ++ rest) on.1 parts.1))

-- ---- lines without a step

pub turns_blank : (own : Machine) (numbers : ℕ → Option ℕ) (line : List ℕ) → reading line ≡ Blank → (other : Machine) × StandsFor own numbers other → LeadsTo own numbers line [] own numbers
turns_blank own numbers line e some = record {
  forth = λ other new replies more rest stands gives told asked.
      let answer = subst (λ (how : Reading). MovingGivesAs how other replies new) e gives.answer in
      (subst (StandsFor own numbers) (sym answer.1) stands, ap (flat_map reply_lines) answer.0);
  back = λ new stands. (new, stands, [], record { answer = subst (λ (how : Reading). MovingGivesAs how new [] new) (sym e) (refl, refl) }, refl);
  some = some;
}

pub turns_outside : (own : Machine) (numbers : ℕ → Option ℕ) (line : List ℕ) → reading line ≡ Outside → (other : Machine) × StandsFor own numbers other
    → LeadsTo own numbers line (reply_lines (Refused Syntax)) own numbers
turns_outside own numbers line e some = record {
  forth = λ other new replies more rest stands gives told asked.
      let answer = subst (λ (how : Reading). MovingGivesAs how other replies new) e gives.answer in
      (subst (StandsFor own numbers) (sym answer.1) stands, ap (flat_map reply_lines) answer.0 ∙ append-nil (reply_lines (Refused Syntax)));
  back = λ new stands. (new, stands, Refused Syntax ∷ [], record { answer = subst (λ (how : Reading). MovingGivesAs how new (Refused Syntax ∷ []) new) (sym e) (refl, refl) }, append-nil (reply_lines (Refused Syntax)));
  some = some;
}

-- ---- lines with a step

-- each reply has a line
reply_first : (reply : Reply) → (lines : List (List ℕ)) × (reply_lines reply ≡ first_line reply ∷ lines)
unfolding reply_lines
reply_first (RunsReply runs) = (_, refl)
reply_first reply = ([], refl)

-- replies whose lines agree with those of a reply have its first line
first_same : (reply told : Reply) (more rest : List Told) → map Answered (reply_lines reply) ++ more ≡ map Answered (reply_lines told) ++ rest → first_line reply ≡ first_line told
first_same reply told more rest e =
    let a = reply_first reply in
    let b = reply_first told in
    answered_same (told_same (Answered (first_line reply)) (Answered (first_line told)) (map Answered a.0 ++ more) (map Answered b.0 ++ rest)
    (ap (λ (ls : List (List ℕ)). map Answered ls ++ more) (sym a.1) ∙ (e ∙ ap (λ (ls : List (List ℕ)). map Answered ls ++ rest) b.1))).0

-- A step of the own machine whose reply tells no frames, and is told apart from all other replies by its first line.
pub turns_order : (own next : Machine) (numbers : ℕ → Option ℕ) (line : List ℕ) (command : Command) (reply : Reply) → reading line ≡ Order command → IsGoodMachine own → TellsNoFrames reply
    → MachineStep own command reply next → ((other : Machine) × StandsFor own numbers other)
    → ((other new : Machine) (again : Reply) → StandsFor own numbers other → MovingStep other command again new → first_line again ≡ first_line reply → again ≡ reply)
    → LeadsTo own numbers line (reply_lines reply) next numbers
turns_order own next numbers line command reply e good none step some unique = record {
  forth = λ other new replies more rest stands gives told asked.
      let answer = subst (λ (how : Reading). MovingGivesAs how other replies new) e gives.answer in
      let lines : flat_map reply_lines replies ≡ reply_lines answer.0 = ap (flat_map reply_lines) answer.1 ∙ append-nil (reply_lines answer.0) in
      let agree = ap (λ (ls : List (List ℕ)). map Answered ls ++ more) (sym lines) ∙ told in
      let same : answer.0 ≡ reply = unique other new answer.0 stands answer.2 (first_same answer.0 reply more rest agree) in
      let moving : MovingStep other command reply new = subst (λ (a : Reply). MovingStep other command a new) same answer.2 in
      (stands_forth own next command reply good (reading_gives line command e) none step numbers other stands new moving, lines ∙ ap reply_lines same);
  back = λ new stands.
      let moving = stands_back own next command reply good (reading_gives line command e) none step numbers some.0 some.1 new stands in
      (some.0, some.1, reply ∷ [], record { answer = subst (λ (how : Reading). MovingGivesAs how some.0 (reply ∷ []) new) (sym e) (reply, refl, moving) }, append-nil (reply_lines reply));
  some = stands_step own next command reply good (reading_gives line command e) none step numbers some.0 some.1;
}

-- ---- commands that tell no choice

effect_tells : (old new : Machine) (command : Command) (reply : Reply) → tells_choice command ≡ false → MachineEffect old command reply new → TellsNoFrames reply
effect_tells old new (VmoPin pin name offset len) reply told e = absurd cc
effect_tells old new (VmarAllocate region parent offset len flags caps) reply told e = absurd cc
effect_tells old new (VmarMap region offset name vmo_offset len perm flags) reply told e = absurd cc
effect_tells old new (VmoChild name parent Snapshot offset size resizable no_write) reply told e = λ numbers f. absurd (let both = sym e.0.0 ∙ f in cc)
effect_tells old new (MemRead region addr len) reply told e = λ numbers f. absurd (let both = sym e.0 ∙ f in cc)
effect_tells old new (MemWrite region addr bytes) reply told e = λ numbers f. absurd (let both = sym e.1 ∙ f in cc)
effect_tells old new command reply told e = λ numbers f. absurd (let both = sym e.0.0 ∙ f in cc)

refused_tells : (reply : Reply) (refusal : Refusal) → reply ≡ Refused refusal → TellsNoFrames reply
refused_tells reply refusal e = λ numbers f. absurd (let both = sym e ∙ f in cc)

step_tells : (old new : Machine) (command : Command) (reply : Reply) → tells_choice command ≡ false → MachineStep old command reply new → TellsNoFrames reply
step_tells old new command reply told step = go (first_of (refusals old.state command)) step.outcome where
  go : (o : Option Refusal) → MachineStepAfter o old command reply new → TellsNoFrames reply
  go (Some refusal) e = refused_tells reply refusal e.answer
  go None (inl e) = effect_tells old new command reply told e
  go None (inr e) = refused_tells reply HostMemory e.0.answer

-- After a step of a command that tells no choice, the own machine stands for what may have come of it.
pub follows_plain : (frames : ℕ) (own next : Machine) (numbers : ℕ → Option ℕ) (tells : List Told) (line : List ℕ) (command : Command) (reply : Reply) → Follows frames own numbers tells
    → IsGoodMachine own → reading line ≡ Order command → tells_choice command ≡ false → MachineStep own command reply next
    → Follows frames next numbers (tells ++ Asked line ∷ map Answered (reply_lines reply))
follows_plain frames own next numbers tells line command reply follows good e told step =
    let none = step_tells own next command reply told step in
    let gives = reading_gives line command e in
    follows_turn frames own numbers tells line (reply_lines reply) next numbers follows
    (turns_order own next numbers line command reply e good none step follows.some (λ other new again stands moving first.
    let mine = other_step own next command reply good gives none step numbers other stands in
    elim (one_reply other moving.mid (machine_renamed stands.by next) command again reply (stands_good own next command reply good gives none step numbers other stands) told moving.step mine) [
      | inl same ↦ same
      | inr lacks ↦ elim lacks [
        | inl lack ↦ lack ∙ sym (refused_text reply HostMemory (sym first ∙ ap first_line lack))
        | inr lack ↦ refused_text again HostMemory (first ∙ ap first_line lack) ∙ sym lack
      ]
    ]))

-- After a refusal of any command it stays as it is.
pub follows_refused : (frames : ℕ) (own : Machine) (numbers : ℕ → Option ℕ) (tells : List Told) (line : List ℕ) (command : Command) (refusal : Refusal) → Follows frames own numbers tells
    → IsGoodMachine own → reading line ≡ Order command → MachineStep own command (Refused refusal) own
    → Follows frames own numbers (tells ++ Asked line ∷ map Answered (reply_lines (Refused refusal)))
follows_refused frames own numbers tells line command refusal follows good e step =
    follows_turn frames own numbers tells line (reply_lines (Refused refusal)) own numbers follows
    (turns_order own own numbers line command (Refused refusal) e good (refused_tells (Refused refusal) refusal refl) step follows.some (λ other new again stands moving first. refused_text again refusal first))

-- ---- what can't come next

-- A reply line comes behind a line of a script alone.
pub none_due : (frames : ℕ) (own : Machine) (numbers : ℕ → Option ℕ) (tells : List Told) (line : List ℕ) (more : List Told) → Follows frames own numbers tells
    → MayBegin frames (tells ++ Answered line ∷ more) → ⊥
none_due frames own numbers tells line more follows begins =
    let whole = begins.whole in
    let on = follows.only whole.turns begins.last ((Answered line ∷ more) ++ begins.rest) whole.run (whole.is ∙ append_assoc tells (Answered line ∷ more) begins.rest) in
    turns_asked on.0 line (more ++ begins.rest) on.4

pub answer_only : (frames : ℕ) (own : Machine) (numbers : ℕ → Option ℕ) (tells : List Told) (line first : List ℕ) (more : List Told) → Follows frames own numbers tells
    → MayBegin frames (tells ++ Asked line ∷ Answered first ∷ more) → MayAnswer own numbers line first
answer_only frames own numbers tells line first more follows begins =
    let whole = begins.whole in
    let behind : List Told = (Asked line ∷ Answered first ∷ more) ++ begins.rest in
    let on = follows.only whole.turns begins.last behind whole.run (whole.is ∙ append_assoc tells (Asked line ∷ Answered first ∷ more) begins.rest) in
    go on.0 on.1 on.2 on.3 on.4 where
      go : (turns : List Turn) (other : Machine) → StandsFor own numbers other → Turns other turns begins.last → turns_told turns ≡ Asked line ∷ Answered first ∷ (more ++ begins.rest) → MayAnswer own numbers line first
      go [] other stands run e = absurd cc
      go (turn ∷ turns) other stands run e = inside (flat_map reply_lines turn.replies) refl (told_same _ _ _ _ e).1 where
        inside : (ls : List (List ℕ)) → flat_map reply_lines turn.replies ≡ ls → map Answered (flat_map reply_lines turn.replies) ++ turns_told turns ≡ Answered first ∷ (more ++ begins.rest) → MayAnswer own numbers line first
        inside [] f g = absurd (turns_asked turns first (more ++ begins.rest) (ap (λ (ls : List (List ℕ)). map Answered ls ++ turns_told turns) (sym f) ∙ g))
        inside (l ∷ ls) f g = record {
          other = other;
          stands = stands;
          replies = turn.replies;
          new = run.0;
          gives = subst (λ (k : List ℕ). MovingGives k other turn.replies run.0) (asked_same (told_same _ _ _ _ e).0) run.1;
          lines = ls;
          begins = f ∙ ap (λ (k : List ℕ). k ∷ ls) (answered_same (told_same _ _ _ _ (ap (λ (ks : List (List ℕ)). map Answered ks ++ turns_told turns) (sym f) ∙ g)).0);
        }

-- A second line of a script comes behind a blank one alone.
pub asked_only : (frames : ℕ) (own : Machine) (numbers : ℕ → Option ℕ) (tells : List Told) (line next : List ℕ) (more : List Told) → Follows frames own numbers tells
    → MayBegin frames (tells ++ Asked line ∷ Asked next ∷ more) → reading line ≡ Blank
asked_only frames own numbers tells line next more follows begins =
    let whole = begins.whole in
    let behind : List Told = (Asked line ∷ Asked next ∷ more) ++ begins.rest in
    let on = follows.only whole.turns begins.last behind whole.run (whole.is ∙ append_assoc tells (Asked line ∷ Asked next ∷ more) begins.rest) in
    go on.0 on.1 on.3 on.4 where
      by : (how : Reading) → reading line ≡ how → (other new : Machine) (replies : List Reply) (turns : List Turn) → MovingGivesAs how other replies new
          → map Answered (flat_map reply_lines replies) ++ turns_told turns ≡ Asked next ∷ (more ++ begins.rest) → reading line ≡ Blank
      by Blank e other new replies turns gives f = e
      by (Order command) e other new replies turns gives f = absurd (first gives.0 (ap (λ (rs : List Reply). map Answered (flat_map reply_lines rs) ++ turns_told turns) (sym gives.1) ∙ f)) where
        first : (reply : Reply) → map Answered (reply_lines reply ++ []) ++ turns_told turns ≡ Asked next ∷ (more ++ begins.rest) → ⊥
        first reply g =
            let is = reply_first reply in
            absurd (let same = (told_same _ _ _ _ (ap (λ (ls : List (List ℕ)). map Answered (ls ++ []) ++ turns_told turns) (sym is.1) ∙ g)).0 in cc)
      by Outside e other new replies turns gives f = absurd (outside (ap (λ (rs : List Reply). map Answered (flat_map reply_lines rs) ++ turns_told turns) (sym gives.0) ∙ f)) where
        outside : map Answered (reply_lines (Refused Syntax) ++ []) ++ turns_told turns ≡ Asked next ∷ (more ++ begins.rest) → ⊥
        outside g =
            let is = reply_first (Refused Syntax) in
            absurd (let same = (told_same _ _ _ _ (ap (λ (ls : List (List ℕ)). map Answered (ls ++ []) ++ turns_told turns) (sym is.1) ∙ g)).0 in cc)

      go : (turns : List Turn) (other : Machine) → Turns other turns begins.last → turns_told turns ≡ Asked line ∷ Asked next ∷ (more ++ begins.rest) → reading line ≡ Blank
      go [] other run e = absurd cc
      go (turn ∷ turns) other run e =
          let parts = told_same _ _ _ _ e in
          let same : turn.line ≡ line = asked_same parts.0 in
          by (reading line) refl other run.0 turn.replies turns (subst (λ (k : List ℕ). MovingGivesAs (reading k) other turn.replies run.0) same run.1.answer) parts.1

-- ---- pins, and numbers that are forgotten

-- After a pin whose numbers fit it stands for what may have come of it, with these numbers.
pub follows_pin : (frames : ℕ) (own next : Machine) (numbers : ℕ → Option ℕ) (tells : List Told) (line : List ℕ) (pin : PinName) (name : VmoName) (offset len : ℕ) (mine told : List ℕ)
    → Follows frames own numbers tells → IsGoodMachine own → reading line ≡ Order (VmoPin pin name offset len) → MachineStep own (VmoPin pin name offset len) (Pins mine) next → Fits own numbers mine told
    → ((other new : Machine) (again : Reply) → StandsFor own numbers other → MovingStep other (VmoPin pin name offset len) again new → first_line again ≡ first_line (Pins told) → again ≡ Pins told)
    → Follows frames next (with_seen numbers mine told) (tells ++ Asked line ∷ map Answered (reply_lines (Pins told)))
follows_pin frames own next numbers tells line pin name offset len mine told follows good e step fits unique =
    let command = VmoPin pin name offset len in
    let gives = reading_gives line command e in
    follows_turn frames own numbers tells line (reply_lines (Pins told)) next (with_seen numbers mine told) follows (record {
      forth = λ other new replies more rest stands answers agrees asked.
          let answer = subst (λ (how : Reading). MovingGivesAs how other replies new) e answers.answer in
          let lines : flat_map reply_lines replies ≡ reply_lines answer.0 = ap (flat_map reply_lines) answer.1 ∙ append-nil (reply_lines answer.0) in
          let agree = ap (λ (ls : List (List ℕ)). map Answered ls ++ more) (sym lines) ∙ agrees in
          let same : answer.0 ≡ Pins told = unique other new answer.0 stands answer.2 (first_same answer.0 (Pins told) more rest agree) in
          let moving : MovingStep other command (Pins told) new = subst (λ (a : Reply). MovingStep other command a new) same answer.2 in
          ((pins_forth own next pin name offset len mine good gives step numbers other stands told new moving).1, lines ∙ ap reply_lines same);
      back = λ new stands.
          let from = pins_back own next pin name offset len mine good gives step numbers told fits new stands in
          (from.0, from.1, Pins told ∷ [], record { answer = subst (λ (how : Reading). MovingGivesAs how from.0 (Pins told ∷ []) new) (sym e) (Pins told, refl, from.2) }, append-nil (reply_lines (Pins told)));
      some = pins_some own next pin name offset len mine good gives step numbers told fits;
    })

-- and by what is left of the numbers
pub follows_left : (frames : ℕ) (own : Machine) (numbers later : ℕ → Option ℕ) (tells : List Told) → Follows frames own numbers tells → AreLeft own numbers later → Follows frames own later tells
follows_left frames own numbers later tells follows left = record {
  some = (follows.some.0, stands_left own numbers later left follows.some.0 follows.some.1);
  reach = λ other stands. follows.reach other (stands_all own numbers later left other stands);
  only = λ turns last rest run told.
      let on = follows.only turns last rest run told in (on.0, on.1, stands_left own numbers later left on.1 on.2, on.3, on.4);
}

pub follows_blank : (frames : ℕ) (own : Machine) (numbers : ℕ → Option ℕ) (tells : List Told) (line : List ℕ) → Follows frames own numbers tells → reading line ≡ Blank → Follows frames own numbers (tells ++ Asked line ∷ [])
follows_blank frames own numbers tells line follows e = follows_turn frames own numbers tells line [] own numbers follows (turns_blank own numbers line e follows.some)

pub follows_outside : (frames : ℕ) (own : Machine) (numbers : ℕ → Option ℕ) (tells : List Told) (line : List ℕ) → Follows frames own numbers tells → reading line ≡ Outside
    → Follows frames own numbers (tells ++ Asked line ∷ map Answered (reply_lines (Refused Syntax)))
follows_outside frames own numbers tells line follows e =
    follows_turn frames own numbers tells line (reply_lines (Refused Syntax)) own numbers follows (turns_outside own numbers line e follows.some)

-- A step whose reply tells no frames, and is told apart by its first line from each other that there may be
pub follows_apart : (frames : ℕ) (own next : Machine) (numbers : ℕ → Option ℕ) (tells : List Told) (line : List ℕ) (command : Command) (reply : Reply) → Follows frames own numbers tells
    → IsGoodMachine own → reading line ≡ Order command → TellsNoFrames reply → MachineStep own command reply next
    → ((other new : Machine) (again : Reply) → StandsFor own numbers other → MovingStep other command again new → first_line again ≡ first_line reply → again ≡ reply)
    → Follows frames next numbers (tells ++ Asked line ∷ map Answered (reply_lines reply))
follows_apart frames own next numbers tells line command reply follows good e none step unique =
    follows_turn frames own numbers tells line (reply_lines reply) next numbers follows (turns_order own next numbers line command reply e good none step follows.some unique)

-- After a step that tells a place it stands for what may have come of it, whatever place was told.
pub follows_placed : (frames : ℕ) (own next : Machine) (numbers : ℕ → Option ℕ) (tells : List Told) (line : List ℕ) (command : Command) (address : ℕ) → Follows frames own numbers tells
    → IsGoodMachine own → reading line ≡ Order command → tells_place command ≡ true → MachineStep own command (Address address) next
    → Follows frames next numbers (tells ++ Asked line ∷ map Answered (reply_lines (Address address)))
follows_placed frames own next numbers tells line command address follows good e place step =
    let none : TellsNoFrames (Address address) = λ mine f. absurd cc in
    let gives = reading_gives line command e in
    follows_apart frames own next numbers tells line command (Address address) follows good e none step (λ other new again stands moving first.
    let fine = stands_good own next command (Address address) good gives none step numbers other stands in
    elim (place_cases other moving.mid command again place moving.step) [
      | inr refused ↦ absurd (let same = refused_text (Address address) refused.0 (sym first ∙ ap first_line refused.1) in cc)
      | inl placed ↦
          let mid : MachineStep other command (Address placed.0) moving.mid = subst (λ (a : Reply). MachineStep other command a moving.mid) placed.1 moving.step in
          let same = address_text placed.0 address (step_address other moving.mid command placed.0 fine mid) (step_address own next command address good step) (sym (ap first_line placed.1) ∙ first) in
          placed.1 ∙ ap (λ (a : ℕ). Address a) same
    ])

-- The line of a pin tells its numbers apart, since they are those of frames.
pub follows_pinned : (frames : ℕ) (own next : Machine) (numbers : ℕ → Option ℕ) (tells : List Told) (line : List ℕ) (pin : PinName) (name : VmoName) (offset len : ℕ) (mine told : List ℕ)
    → Follows frames own numbers tells → IsGoodMachine own → own.state.content.frames ≤ 2 ^ 64 → reading line ≡ Order (VmoPin pin name offset len)
    → MachineStep own (VmoPin pin name offset len) (Pins mine) next → Fits own numbers mine told
    → Follows frames next (with_seen numbers mine told) (tells ++ Asked line ∷ map Answered (reply_lines (Pins told)))
follows_pinned frames own next numbers tells line pin name offset len mine told follows good few e step fits =
    let command = VmoPin pin name offset len in
    let gives = reading_gives line command e in
    let n = own.state.content.frames in
    let all_64 : (ts : List ℕ) → AllByRecursion (λ t. t < n) ts → AllByRecursion (λ t. t < 2 ^ 64) ts = λ ts low. all_map (λ t. t < n) (λ t. t < 2 ^ 64) ts (λ t h. omega (arith, h, few)) low in
    follows_pin frames own next numbers tells line pin name offset len mine told follows good e step fits (λ other new again stands moving first.
    let other_fine = subst IsGoodMachine (sym stands.is) (IsGoodMachine-renamed stands.by own stands.within good) in
    let same_frames : other.state.content.frames ≡ n = ap (λ (m : Machine). m.state.content.frames) stands.is in
    elim (pin_cases other moving.mid pin name offset len again other_fine gives moving.step) [
      | inr refused ↦ absurd (let same = refused_text (Pins told) refused.0 (sym first ∙ ap first_line refused.1) in cc)
      | inl pinned ↦
          let theirs = all_64 pinned.0 (subst (λ (k : ℕ). AllByRecursion (λ t. t < k) pinned.0) same_frames pinned.2) in
          elim (pin_cases own next pin name offset len (Pins mine) good gives step) [
            | inr refused ↦ absurd (let no_reply = refused.1 in cc)
            | inl known ↦
                let low : AllByRecursion (λ t. t < n) mine = subst (λ (ts : List ℕ). AllByRecursion (λ t. t < n) ts) (sym (pins_same mine known.0 known.1)) known.2 in
                let told_low : AllByRecursion (λ t. t < n) told = subst (λ (ts : List ℕ). AllByRecursion (λ t. t < n) ts) fits.tells
                (all_over fits.by.to (λ t. t < n) mine (all_map (λ t. t < n) (λ t. fits.by.to t < n) mine (λ t h. to_below fits.by n t fits.within h) low)) in
                pinned.1 ∙ ap (λ (ts : List ℕ). Pins ts) (pins_text pinned.0 told theirs (all_64 told told_low) (sym (ap first_line pinned.1) ∙ first))
          ]
    ])
