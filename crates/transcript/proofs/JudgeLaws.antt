-- Laws of a reply that is due: whose first line may come, by the step of the own machine.
use Rattle.std.proofs.Common.{◌≡◌, ◌≢◌, ℕ, ◌+◌, ◌<◌, ◌≤◌, ◌^◌, true, false, List, [], ◌∷◌, ◌++◌, length, map, Option, None, Some, ◌⊎◌, refl, sym, ap, subst, ◌∙◌, inl, inr, append-nil, arith}
use Rattle.std.specs.List.{flat_map}
use Rattle.std.proofs.lemmas.List.{length-append}
use Rattle.vm_base.specs.declared.names.PinName.{PinName}
use Rattle.vm_base.specs.declared.names.VmoName.{VmoName}
use Rattle.vm_base.specs.declared.limits.TheConstants.{NAMES}
use Rattle.vm_base.specs.declared.refusal.Refusal.{Refusal}
use Rattle.vm_base.specs.declared.refusal.Refusal.TheVariants.{Syntax, HostMemory}
use Rattle.vm_model.specs.Machine.Words.{Command, Reply}
use Rattle.vm_model.specs.declared.command.Command.TheVariants.{VmoPin, VmarAllocate, VmarMap}
use Rattle.vm_model.specs.declared.reply.Reply.TheVariants.{Address, Pins, Runs as RunsReply, Refused}
use Rattle.vm_model.specs.declared.runs.Run.{Run}
use Rattle.vm_model.specs.Language.Reading.{Reading, Order, Outside, reading}
use Rattle.vm_model.specs.Language.Text.{reply_lines}
use Rattle.vm_model.specs.Machine.Given.{GivesName}
use Rattle.vm_model.specs.Machine.Refusals.{refusals, first_of}
use Rattle.vm_model.specs.Machine.Machine.{Machine, IsGoodMachine}
use Rattle.vm_model.specs.Machine.MachineStep.{MachineStepAfter, MachineStep}
use Rattle.vm_model.proofs.MachineLaws.{MachineStep-keeps}
use Rattle.moving_model.specs.Renaming.{KeepsFrom, machine_renamed, reply_renamed}
use Rattle.moving_model.specs.Moving.{MovingStep, MovingGivesAs, TellsNoFrames, tells_choice, tells_place}
use Rattle.moving_model.specs.Transcript.{Told, Asked, Answered}
use Rattle.moving_model.specs.Standing.{StandsFor, AreLeft, Fits}
use Rattle.moving_model.specs.Following.{Follows, MayAnswer, first_line}
use Rattle.moving_model.proofs.NumberLaws.{back_keeps}
use Rattle.moving_model.proofs.GoodLaws.{IsGoodMachine-renamed}
use Rattle.moving_model.proofs.StepLaws.{MachineStep-renamed}
use Rattle.moving_model.proofs.RunLaws.{undone, machine-undone, told_alike}
use Rattle.moving_model.proofs.OutcomeLaws.{one_reply, not_refused}
use Rattle.moving_model.proofs.ReadingLaws.{reading_gives}
use Rattle.moving_model.proofs.ReplyTextLaws.{refused_text}
use Rattle.moving_model.proofs.PinTextLaws.{pin_cases}
use Rattle.moving_model.proofs.PlaceLaws.{place_cases, moving_address}
use Rattle.moving_model.proofs.StandingLaws.{other_step, seen_left}
use Rattle.moving_model.proofs.StandingPinLaws.{pins_forth}
use Rattle.moving_model.proofs.FollowingLaws.{follows_plain, follows_refused, follows_placed, follows_left}
use Rattle.transcript.specs.Checking.{Stands, HasAnswered}
use Rattle.transcript.proofs.TurnLaws.{reply_first}

-- ---- the reply of a machine for which the own one stands

-- Such a machine has a reply to the command whose first line is this one.
pub record MayReply (own : Machine) (numbers : ℕ → Option ℕ) (command : Command) (first : List ℕ) : Type 0 where
  pub other : Machine
  pub stands : StandsFor own numbers other
  pub reply : Reply
  pub new : Machine
  pub step : MovingStep other command reply new
  pub is : first_line reply ≡ first

heads : (a b : List ℕ) (xs ys : List (List ℕ)) → ◌≡◌ {A = List (List ℕ)} (a ∷ xs) (b ∷ ys) → a ≡ b
heads a b xs ys e = cc

-- the first line of the replies to a command is that of its reply
first_is : (replies : List Reply) (reply : Reply) (first : List ℕ) (lines : List (List ℕ)) → replies ≡ reply ∷ [] → flat_map reply_lines replies ≡ first ∷ lines → first_line reply ≡ first
first_is replies reply first lines e f =
    let line = reply_first reply in
    heads (first_line reply) first line.0 lines (sym line.1 ∙ (sym (append-nil (reply_lines reply)) ∙ (ap (flat_map reply_lines) (sym e) ∙ f)))

pub may_reply : (own : Machine) (numbers : ℕ → Option ℕ) (line first : List ℕ) (command : Command) → MayAnswer own numbers line first → reading line ≡ Order command → MayReply own numbers command first
may_reply own numbers line first command may e =
    let answer = subst (λ (how : Reading). MovingGivesAs how may.other may.replies may.new) e may.gives.answer in
    record { other = may.other; stands = may.stands; reply = answer.0; new = may.new; step = answer.2; is = first_is may.replies answer.0 first may.lines answer.1 may.begins }

-- a line outside the grammar is answered so
pub outside_only : (own : Machine) (numbers : ℕ → Option ℕ) (line first : List ℕ) → MayAnswer own numbers line first → reading line ≡ Outside → first ≡ first_line (Refused Syntax)
outside_only own numbers line first may e =
    let answer = subst (λ (how : Reading). MovingGivesAs how may.other may.replies may.new) e may.gives.answer in
    sym (first_is may.replies (Refused Syntax) first may.lines answer.0 may.begins)

-- What a machine may do for which the own one stands, the own one may do, if no frames are told.
pub own_may : (own : Machine) (numbers : ℕ → Option ℕ) (other new : Machine) (command : Command) (reply : Reply) → IsGoodMachine own → GivesName command → TellsNoFrames reply → StandsFor own numbers other
    → MovingStep other command reply new → (next : Machine) × MachineStep own command reply next
own_may own numbers other new command reply good gives none stands moving =
    let r = undone stands.by in
    let other_good = subst IsGoodMachine (sym stands.is) (IsGoodMachine-renamed stands.by own stands.within good) in
    let same : other.state.content.frames ≡ own.state.content.frames = ap (λ (m : Machine). m.state.content.frames) stands.is in
    let keeps : KeepsFrom r other.state.content.frames = λ t h. back_keeps stands.by own.state.content.frames stands.within t (subst (λ (n : ℕ). n ≤ t) same h) in
    let back : machine_renamed r other ≡ own = ap (machine_renamed r) stands.is ∙ machine-undone stands.by own in
    let step = MachineStep-renamed r other moving.mid command reply keeps other_good gives moving.step in (
      machine_renamed r moving.mid,
      subst (λ (told : Reply). MachineStep own command told (machine_renamed r moving.mid)) (told_alike r reply none)
          (subst (λ (m : Machine). MachineStep m command (reply_renamed r reply) (machine_renamed r moving.mid)) back step),
    )

-- ---- refusals

refused_same : {a b : Refusal} → ◌≡◌ {A = Reply} (Refused a) (Refused b) → a ≡ b
refused_same e = cc

-- a refusal that is no want of memory is that of the rows, and changes nothing
pub refused_row : (old new : Machine) (command : Command) (refusal : Refusal) → refusal ≢ HostMemory → MachineStep old command (Refused refusal) new → (first_of (refusals old.state command) ≡ Some refusal) × (new ≡ old)
refused_row old new command refusal other step = go (first_of (refusals old.state command)) refl step.outcome where
  go : (o : Option Refusal) → first_of (refusals old.state command) ≡ o → MachineStepAfter o old command (Refused refusal) new → (first_of (refusals old.state command) ≡ Some refusal) × (new ≡ old)
  go (Some row) e after = (e ∙ ap (λ (a : Refusal). Some a) (sym (refused_same after.answer)), after.same)
  go None e (inl effect) = absurd (not_refused old new command (Refused refusal) refusal effect refl)
  go None e (inr lacked) = absurd (other (refused_same lacked.0.answer))

-- where a row holds, it is the reply
pub row_reply : (old new : Machine) (command : Command) (reply : Reply) (refusal : Refusal) → first_of (refusals old.state command) ≡ Some refusal → MachineStep old command reply new → reply ≡ Refused refusal
row_reply old new command reply refusal e step = (subst (λ (o : Option Refusal). MachineStepAfter o old command reply new) e step.outcome).answer

-- where the reply is none, no row holds
pub none_row : (old new : Machine) (command : Command) (reply : Reply) → ((refusal : Refusal) → reply ≢ Refused refusal) → MachineStep old command reply new → first_of (refusals old.state command) ≡ None
none_row old new command reply none step = go (first_of (refusals old.state command)) refl where
  go : (o : Option Refusal) → first_of (refusals old.state command) ≡ o → first_of (refusals old.state command) ≡ None
  go None e = e
  go (Some refusal) e = absurd (none refusal (row_reply old new command reply refusal e step))

host_text : (refusal : Refusal) (first : List ℕ) → first ≢ first_line (Refused HostMemory) → first_line (Refused refusal) ≡ first → refusal ≢ HostMemory
host_text refusal first apart e f = apart (sym e ∙ ap (λ (a : Refusal). first_line (Refused a)) f)

refused_none : (refusal : Refusal) → TellsNoFrames (Refused refusal)
refused_none refusal numbers e = absurd cc

address_none : (a : ℕ) → TellsNoFrames (Address a)
address_none a numbers e = absurd cc

-- ---- the three kinds of replies

-- A reply that is no list of frames is of a command that tells no choice, or a refusal, or a place.
pub reply_cases : (old new : Machine) (command : Command) (reply : Reply) → IsGoodMachine old → GivesName command → TellsNoFrames reply → MachineStep old command reply new
    → (tells_choice command ≡ false) ⊎ ((refusal : Refusal) × (reply ≡ Refused refusal)) ⊎ ((a : ℕ) × (tells_place command ≡ true) × (reply ≡ Address a))
reply_cases old new (VmoPin pin name offset len) reply good gives none step = elim (pin_cases old new pin name offset len reply good gives step) [
  | inl pinned ↦ absurd (none pinned.0 pinned.1)
  | inr refused ↦ inr (inl refused)
]
reply_cases old new (VmarAllocate region parent offset len flags caps) reply good gives none step = elim (place_cases old new (VmarAllocate region parent offset len flags caps) reply refl step) [
  | inl placed ↦ inr (inr (placed.0, refl, placed.1))
  | inr refused ↦ inr (inl refused)
]
reply_cases old new (VmarMap region offset name vmo_offset len perm flags) reply good gives none step = elim (place_cases old new (VmarMap region offset name vmo_offset len perm flags) reply refl step) [
  | inl placed ↦ inr (inr (placed.0, refl, placed.1))
  | inr refused ↦ inr (inl refused)
]
reply_cases old new command reply good gives none step = inl refl

module _ (own next : Machine) (numbers : ℕ → Option ℕ) (command : Command) (reply : Reply) (good : IsGoodMachine own) (gives : GivesName command) (first : List ℕ)
    (apart : first ≢ first_line (Refused HostMemory)) (may : MayReply own numbers command first) where
  other_good : IsGoodMachine may.other
  other_good = subst IsGoodMachine (sym may.stands.is) (IsGoodMachine-renamed may.stands.by own may.stands.within good)

  -- the other reply is no want of memory
  not_host : (refusal : Refusal) → may.reply ≡ Refused refusal → refusal ≢ HostMemory
  not_host refusal e = host_text refusal first apart (ap first_line (sym e) ∙ may.is)

  plain_first : MachineStep own command reply next → TellsNoFrames reply → reply ≢ Refused HostMemory → tells_choice command ≡ false → first ≡ first_line reply
  plain_first step none host told =
      let mine = other_step own next command reply good gives none step numbers may.other may.stands in
      elim (one_reply may.other may.step.mid (machine_renamed may.stands.by next) command may.reply reply other_good told may.step.step mine) [
        | inl same ↦ sym may.is ∙ ap first_line same
        | inr lacks ↦ elim lacks [
          | inl lack ↦ absurd (not_host HostMemory lack refl)
          | inr lack ↦ absurd (host lack)
        ]
      ]

  refused_first : (refusal : Refusal) → MachineStep own command (Refused refusal) next → refusal ≢ HostMemory → first ≡ first_line (Refused refusal)
  refused_first refusal step host =
      let mine = other_step own next command (Refused refusal) good gives (refused_none refusal) step numbers may.other may.stands in
      let row = refused_row may.other (machine_renamed may.stands.by next) command refusal host mine in
      sym may.is ∙ ap first_line (row_reply may.other may.step.mid command may.reply refusal row.0 may.step.step)

  -- where nothing refuses the command, the other machine does not refuse it either
  no_refusal : first_of (refusals own.state command) ≡ None → (refusal : Refusal) → may.reply ≡ Refused refusal → ⊥
  no_refusal none refusal e =
      let moving = subst (λ (r : Reply). MovingStep may.other command r may.new) e may.step in
      let mine = own_may own numbers may.other may.new command (Refused refusal) good gives (refused_none refusal) may.stands moving in
      let row = (refused_row own mine.0 command refusal (not_host refusal e) mine.1).0 in
      absurd (let both = sym none ∙ row in cc)

  -- A command that tells a place, and that nothing refuses, is answered by the place that is told, and the own machine may do it there.
  pub place_first : first_of (refusals own.state command) ≡ None → tells_place command ≡ true → (told : ℕ) → ((a : ℕ) → a < 2 ^ 64 → first_line (Address a) ≡ first → told ≡ a)
      → (first ≡ first_line (Address told)) × (later : Machine) × MachineStep own command (Address told) later
  place_first none place told is_told = elim (place_cases may.other may.step.mid command may.reply place may.step.step) [
    | inr refused ↦ absurd (no_refusal none refused.0 refused.1)
    | inl placed ↦
        let moving = subst (λ (r : Reply). MovingStep may.other command r may.new) placed.1 may.step in
        let low = moving_address may.other may.new command placed.0 other_good moving in
        let line = ap first_line (sym placed.1) ∙ may.is in
        let same = is_told placed.0 low line in
        let mine = own_may own numbers may.other may.new command (Address placed.0) good gives (address_none placed.0) may.stands moving in
        (sym line ∙ ap (λ (a : ℕ). first_line (Address a)) (sym same), mine.0, subst (λ (a : ℕ). MachineStep own command (Address a) mine.0) (sym same) mine.1)
  ]

  -- So the first line of the own reply is the one that may come.
  pub own_first : MachineStep own command reply next → TellsNoFrames reply → reply ≢ Refused HostMemory → (told : ℕ) → ((a : ℕ) → a < 2 ^ 64 → first_line (Address a) ≡ first → told ≡ a)
      → (tells_place command ≡ true → (a : ℕ) → reply ≡ Address a → a ≡ told) → first ≡ first_line reply
  own_first step none host told is_told there = elim (reply_cases own next command reply good gives none step) [
    | inl plain ↦ plain_first step none host plain
    | inr rest ↦ elim rest [
      | inl refused ↦
          refused_first refused.0 (subst (λ (r : Reply). MachineStep own command r next) refused.1 step) (λ e. host (refused.1 ∙ ap (λ (a : Refusal). Refused a) e)) ∙ ap first_line (sym refused.1)
      | inr placed ↦
          let a_told = there placed.1 placed.0 placed.2 in
          let free = none_row own next command reply (λ refusal e. absurd (let both = sym placed.2 ∙ e in cc)) step in
          (place_first free placed.1 told is_told).0 ∙ ap first_line (ap (λ (a : ℕ). Address a) (sym a_told) ∙ sym placed.2)
    ]
  ]

-- ---- frames

-- A pin that the own machine made is answered by frames that fit.
pub pins_first : (own next : Machine) (numbers : ℕ → Option ℕ) (pin : PinName) (name : VmoName) (offset len : ℕ) (mine : List ℕ) (good : IsGoodMachine own) (gives : pin.0 < NAMES) (first : List ℕ)
    (apart : first ≢ first_line (Refused HostMemory)) (may : MayReply own numbers (VmoPin pin name offset len) first) → MachineStep own (VmoPin pin name offset len) (Pins mine) next
    → (told : List ℕ) × (first_line (Pins told) ≡ first) × Fits own numbers mine told
pins_first own next numbers pin name offset len mine good gives first apart may step =
    let command = VmoPin pin name offset len in
    let other_fine = subst IsGoodMachine (sym may.stands.is) (IsGoodMachine-renamed may.stands.by own may.stands.within good) in
    elim (pin_cases may.other may.step.mid pin name offset len may.reply other_fine gives may.step.step) [
      | inr refused ↦ absurd (no_refusal own next numbers command (Pins mine) good gives first apart may (none_row own next command (Pins mine) (λ refusal e. absurd cc) step) refused.0 refused.1)
      | inl pinned ↦
          let moving = subst (λ (r : Reply). MovingStep may.other command r may.new) pinned.1 may.step in
          (pinned.0, ap first_line (sym pinned.1) ∙ may.is, (pins_forth own next pin name offset len mine good gives step numbers may.other may.stands pinned.0 may.new moving).0)
    ]

-- ---- what the own machine stands for then

-- After any reply that tells no frames.
pub follows_reply : (frames : ℕ) (own next : Machine) (numbers : ℕ → Option ℕ) (tells : List Told) (line : List ℕ) (command : Command) (reply : Reply) → Follows frames own numbers tells → IsGoodMachine own
    → reading line ≡ Order command → TellsNoFrames reply → reply ≢ Refused HostMemory → MachineStep own command reply next → Follows frames next numbers (tells ++ Asked line ∷ map Answered (reply_lines reply))
follows_reply frames own next numbers tells line command reply follows good e none host step = elim (reply_cases own next command reply good (reading_gives line command e) none step) [
  | inl plain ↦ follows_plain frames own next numbers tells line command reply follows good e plain step
  | inr rest ↦ elim rest [
    | inl refused ↦
        let step_so = subst (λ (r : Reply). MachineStep own command r next) refused.1 step in
        let same = (refused_row own next command refused.0 (λ f. host (refused.1 ∙ ap (λ (a : Refusal). Refused a) f)) step_so).1 in
        let stays = follows_refused frames own numbers tells line command refused.0 follows good e (subst (λ (m : Machine). MachineStep own command (Refused refused.0) m) same step_so) in
        subst (λ (r : Reply). Follows frames next numbers (tells ++ Asked line ∷ map Answered (reply_lines r))) (sym refused.1)
        (subst (λ (m : Machine). Follows frames m numbers (tells ++ Asked line ∷ map Answered (reply_lines (Refused refused.0)))) (sym same) stays)
    | inr placed ↦
        let step_so = subst (λ (r : Reply). MachineStep own command r next) placed.2 step in
        subst (λ (r : Reply). Follows frames next numbers (tells ++ Asked line ∷ map Answered (reply_lines r))) (sym placed.2)
        (follows_placed frames own next numbers tells line command placed.0 follows good e placed.1 step_so)
  ]
]

-- how many lines a turn adds
pub more_lines : (tells : List Told) (line : List ℕ) (reply : Reply) → length tells + 2 ≤ length (tells ++ Asked line ∷ map Answered (reply_lines reply))
more_lines tells line reply =
    let first = reply_first reply in
    let tail : List Told = map Answered first.0 in
    let same : length (tells ++ Asked line ∷ map Answered (reply_lines reply)) ≡ length (tells ++ Asked line ∷ (Answered (first_line reply) ∷ tail)) = ap (λ (ls : List (List ℕ)). length (tells ++ Asked line ∷ map Answered ls)) first.1 in
    omega (arith, same, length-append tells (Asked line ∷ (Answered (first_line reply) ∷ tail)))

pub stands_reply : (frames : ℕ) (own next : Machine) (numbers later : ℕ → Option ℕ) (tells : List Told) (line : List ℕ) (command : Command) (reply : Reply) → Stands frames own numbers tells
    → reading line ≡ Order command → TellsNoFrames reply → reply ≢ Refused HostMemory → MachineStep own command reply next → AreLeft next numbers later
    → Stands frames next later (tells ++ Asked line ∷ map Answered (reply_lines reply))
stands_reply frames own next numbers later tells line command reply stands e none host step left =
    let gives = reading_gives line command e in
    let kept = MachineStep-keeps own command reply next stands.good gives step in
    record {
      follows = follows_left frames next numbers later (tells ++ Asked line ∷ map Answered (reply_lines reply)) (follows_reply frames own next numbers tells line command reply stands.follows stands.good e none host step) left;
      good = kept.good;
      seen = seen_left own next command reply stands.good gives none step numbers stands.follows.some.0 stands.follows.some.1 later stands.seen left;
      frames_are = kept.frames ∙ stands.frames_are;
      next = omega (arith, kept.next, stands.next, more_lines tells line reply);
    }

-- ---- runs

runs_plain : (old new : Machine) (command : Command) (runs : List Run) → IsGoodMachine old → GivesName command → MachineStep old command (RunsReply runs) new → tells_choice command ≡ false
runs_plain old new command runs good gives step = elim (reply_cases old new command (RunsReply runs) good gives (λ numbers e. absurd cc) step) [
  | inl plain ↦ plain
  | inr rest ↦ elim rest [
    | inl refused ↦ absurd (let e = refused.1 in cc)
    | inr placed ↦ absurd (let e = placed.2 in cc)
  ]
]

-- Runs that the own machine answered are what each machine tells that tells the first line of them.
pub runs_answered : (frames : ℕ) (own next : Machine) (numbers later : ℕ → Option ℕ) (tells : List Told) (line : List ℕ) (command : Command) (runs : List Run) → Stands frames own numbers tells
    → reading line ≡ Order command → MachineStep own command (RunsReply runs) next → AreLeft next numbers later → HasAnswered frames next later line (RunsReply runs) tells
runs_answered frames own next numbers later tells line command runs stands e step left =
    let none : TellsNoFrames (RunsReply runs) = λ ns f. absurd cc in
    let host : ◌≢◌ {A = Reply} (RunsReply runs) (Refused HostMemory) = λ f. absurd cc in
    let gives = reading_gives line command e in
    let plain = runs_plain own next command runs stands.good gives step in
    record {
      old = own;
      was = numbers;
      stands = stands;
      ends = stands_reply frames own next numbers later tells line command (RunsReply runs) stands e none host step left;
      only = λ other new replies rest stood moved first.
          let answer = subst (λ (how : Reading). MovingGivesAs how other replies new) e moved.answer in
          let line_is = first_is replies answer.0 (first_line (RunsReply runs)) rest answer.1 first in
          let good = subst IsGoodMachine (sym stood.is) (IsGoodMachine-renamed stood.by own stood.within stands.good) in
          let mine = other_step own next command (RunsReply runs) stands.good gives none step numbers other stood in
          let same : answer.0 ≡ RunsReply runs = elim (one_reply other answer.2.mid (machine_renamed stood.by next) command answer.0 (RunsReply runs) good plain answer.2.step mine) [
            | inl alike ↦ alike
            | inr lacks ↦ elim lacks [
              | inl lack ↦ lack ∙ sym (refused_text (RunsReply runs) HostMemory (sym line_is ∙ ap first_line lack))
              | inr lack ↦ absurd (host lack)
            ]
          ] in
          ap (flat_map reply_lines) answer.1 ∙ (append-nil (reply_lines answer.0) ∙ ap reply_lines same);
    }
