-- Laws of what a reply line is to the line of a script that waits for it.
use Rattle.std.proofs.Common.{◌≡◌, ◌≢◌, ℕ, suc, ◌<◌, ◌≤◌, ◌^◌, Bool, true, false, not, ◌&&◌, List, [], ◌∷◌, ◌++◌, length, map, Option, None, Some, is_some, cond, eqb, Decides, refl, sym, ap, subst, ◌∙◌, inl, inr, arith}
use Rattle.std.specs.Prelude.{codes, slice_get, MatchOption}
use Rattle.std.specs.List.{AllByRecursion}
use Rattle.std.specs.Cmp.Lexicographic.{pointwise}
use Rattle.std.proofs.lemmas.Slice.Eq.{slice_eq-Decides}
use Rattle.std.proofs.lemmas.Bool.Decides.{Decides-eqb}
use Rattle.std.proofs.lemmas.Bool.{and_parts, not-true, both_ways}
use Rattle.std.proofs.lemmas.List.{length-append, same_from_push}
use Rattle.vm_base.specs.declared.limits.TheConstants.{PIN_PAGES, FRAMES}
use Rattle.vm_base.specs.declared.names.PinName.{PinName}
use Rattle.vm_base.specs.declared.names.VmoName.{VmoName}
use Rattle.vm_base.specs.declared.refusal.Refusal.{Refusal}
use Rattle.vm_base.specs.declared.refusal.Refusal.TheVariants.{Syntax, HostMemory}
use Rattle.vm_base.proofs.EntryLaws.{some_same, none_is}
use Rattle.vm_model.specs.Machine.Words.{Command, Reply}
use Rattle.vm_model.specs.declared.reply.Reply.TheVariants as Reply
use Rattle.vm_model.specs.declared.command.Command.TheVariants.{VmoChild, VmoPin, VmarAllocate, VmarMap, MemRead, MemWrite}
use Rattle.vm_model.specs.declared.command.ChildKind.TheVariants.{Snapshot}
use Rattle.vm_model.specs.declared.reply.Reply.TheVariants.{Address, Pins, Runs as RunsReply, Refused}
use Rattle.vm_model.specs.declared.runs.Run.{Run}
use Rattle.vm_model.specs.Language.Reading.{Order, Outside, reading}
use Rattle.vm_model.specs.Language.Text.{reply_lines}
use Rattle.vm_model.specs.Machine.Given.{GivesName}
use Rattle.vm_model.specs.Machine.Refusals.{refusals, first_of}
use Rattle.vm_model.specs.Machine.Machine.{Machine, IsGoodMachine}
use Rattle.vm_model.specs.Machine.MachineStep.{MachineEffect, MachineStepAfter, MachineStep, may_want_memory}
use Rattle.vm_model.proofs.MachineLaws.{MachineStep-keeps}
use Rattle.moving_model.specs.Moving.{MovingStep, TellsNoFrames, tells_place}
use Rattle.moving_model.specs.Transcript.{Told, Asked, Answered}
use Rattle.moving_model.specs.Standing.{AreLeft, with_seen, may_tell, Fits}
use Rattle.moving_model.specs.Following.{Follows, MayAnswer, first_line}
use Rattle.moving_model.proofs.ReadingLaws.{reading_gives}
use Rattle.moving_model.proofs.HostLaws.{lack_only, lack_may}
use Rattle.moving_model.proofs.PlaceLaws.{address_text}
use Rattle.moving_model.proofs.PinTextLaws.{pin_cases, pins_text}
use Rattle.moving_model.proofs.FitLaws.{fits_from, tell_from}
use Rattle.moving_model.proofs.ReplyTextLaws.{refused_text}
use Rattle.moving_model.proofs.StandingPinLaws.{pins_same, pins_seen}
use Rattle.moving_model.proofs.RowLaws.{all_map, all_over}
use Rattle.moving_model.proofs.NumberLaws.{to_below}
use Rattle.moving_model.proofs.FollowingLaws.{follows_outside, follows_refused, follows_pinned}
use Rattle.checker_machine.specs.Machine.{checker_machine_of}
use Rattle.transcript.specs.declared.answering.Heard.{Heard}
use Rattle.transcript.specs.declared.answering.Heard.TheVariants.{Ends, Begins, Never}
use Rattle.transcript.specs.declared.answering.Own.{Own}
use Rattle.transcript.specs.Checking.{Stands, HasAnswered}
use Rattle.transcript.specs.Seen.{number_seen, Frees, IsCleared}
use Rattle.transcript.specs.Hearing.{OwnStands, IsHeard, Hears, AreHeard}
use Rattle.transcript.proofs.SeenLaws.{left_cleared}
use Rattle.transcript.proofs.TurnLaws.{reply_first}
use Rattle.transcript.proofs.JudgeLaws.{MayReply, may_reply, outside_only, own_may, place_first, own_first, pins_first, stands_reply, runs_answered}

-- ---- lines of replies

pub lines_some : (reply : Reply) → 0 < length (reply_lines reply)
lines_some reply = let first = reply_first reply in omega (arith, ap (λ (ls : List (List ℕ)). length ls) first.1)

pub first_at : (reply : Reply) → slice_get (reply_lines reply) 0 ≡ Some (first_line reply)
first_at reply = ap (λ (ls : List (List ℕ)). slice_get ls 0) (reply_first reply).1

pub host_line : reply_lines (Refused HostMemory) ≡ (codes "HOST_MEMORY" ++ codes "\n") ∷ []
unfolding reply_lines
host_line = refl

pub syntax_line : reply_lines (Refused Syntax) ≡ (codes "SYNTAX" ++ codes "\n") ∷ []
unfolding reply_lines
syntax_line = refl

-- a line is none that another text would be
pub apart_line : (line text : List ℕ) → line ≢ text → line ++ codes "\n" ≢ text ++ codes "\n"
apart_line line text apart e = apart (same_from_push line text 10 10 e).0

pub host_apart : (line : List ℕ) → line ≢ codes "HOST_MEMORY" → line ++ codes "\n" ≢ first_line (Refused HostMemory)
unfolding reply_lines
host_apart line apart e = apart_line line (codes "HOST_MEMORY") apart e

lines_first : (reply : Reply) (line : List ℕ) → reply_lines reply ≡ line ∷ [] → first_line reply ≡ line
lines_first reply line e = let first = reply_first reply in heads (first_line reply) line first.0 [] (sym first.1 ∙ e) where
  heads : (a b : List ℕ) (xs ys : List (List ℕ)) → ◌≡◌ {A = List (List ℕ)} (a ∷ xs) (b ∷ ys) → a ≡ b
  heads a b xs ys f = cc

-- ---- commands that tell frames

effect_pin : (old new : Machine) (command : Command) (mine : List ℕ) → MachineEffect old command (Pins mine) new → (pin : PinName) × (name : VmoName) × (offset len : ℕ) × (command ≡ VmoPin pin name offset len)
effect_pin old new (VmoPin pin name offset len) mine e = (pin, name, offset, len, refl)
effect_pin old new (VmoChild name parent Snapshot offset size resizable no_write) mine e = absurd (let f = e.0.0 in cc)
effect_pin old new (VmarAllocate region parent offset len flags caps) mine e = absurd (let f = e.0.1 in cc)
effect_pin old new (VmarMap region offset name vmo_offset len perm flags) mine e = absurd (let f = e.0.1 in cc)
effect_pin old new (MemRead region addr len) mine e = absurd (let f = e.0 in cc)
effect_pin old new (MemWrite region addr bytes) mine e = absurd (let f = e.1 in cc)
effect_pin old new command mine e = absurd (let f = e.0.0 in cc)

-- a pin alone tells frames
pub pin_command : (old new : Machine) (command : Command) (mine : List ℕ) → MachineStep old command (Pins mine) new → (pin : PinName) × (name : VmoName) × (offset len : ℕ) × (command ≡ VmoPin pin name offset len)
pin_command old new command mine step = go (first_of (refusals old.state command)) step.outcome where
  go : (o : Option Refusal) → MachineStepAfter o old command (Pins mine) new → (pin : PinName) × (name : VmoName) × (offset len : ℕ) × (command ≡ VmoPin pin name offset len)
  go (Some refusal) e = absurd (let f = e.answer in cc)
  go None (inl e) = effect_pin old new command mine e
  go None (inr e) = absurd (let f = e.0.answer in cc)

-- its frames are frames of the machine
pub pins_low : (old new : Machine) (command : Command) (mine : List ℕ) → IsGoodMachine old → GivesName command → MachineStep old command (Pins mine) new → AllByRecursion (λ t. t < old.state.content.frames) mine
pins_low old new command mine good gives step =
    let is = pin_command old new command mine step in
    let named = subst GivesName is.4 gives in
    elim (pin_cases old new is.0 is.1 is.2 is.3 (Pins mine) good named (subst (λ (c : Command). MachineStep old c (Pins mine) new) is.4 step)) [
      | inr refused ↦ absurd (let f = refused.1 in cc)
      | inl known ↦ subst (λ (ts : List ℕ). AllByRecursion (λ t. t < old.state.content.frames) ts) (sym (pins_same mine known.0 known.1)) known.2
    ]

-- ---- behind whole turns, where a command waits

module _ (frames : ℕ) (own : Machine) (numbers : ℕ → Option ℕ) (before : List Told) (pending : List ℕ) (command : Command) (stands : Stands frames own numbers before) (e : reading pending ≡ Order command) where
  -- want of memory is told, and it may be
  pub host_stands : first_of (refusals own.state command) ≡ None → may_want_memory own command ≡ true → Stands frames own numbers (before ++ Asked pending ∷ Answered (codes "HOST_MEMORY" ++ codes "\n") ∷ [])
  host_stands none may = record {
    follows = subst (λ (ls : List (List ℕ)). Follows frames own numbers (before ++ Asked pending ∷ map Answered ls)) host_line
        (follows_refused frames own numbers before pending command HostMemory stands.follows stands.good e (lack_may own command none may));
    good = stands.good;
    seen = stands.seen;
    frames_are = stands.frames_are;
    next = omega (arith, stands.next, length-append before (Asked pending ∷ Answered (codes "HOST_MEMORY" ++ codes "\n") ∷ []));
  }

  -- and may not be
  pub host_never : (may : Bool) → may ≡ (not (is_some (first_of (refusals own.state command))) && may_want_memory own command) → may ≡ false → MayAnswer own numbers pending (codes "HOST_MEMORY" ++ codes "\n") → ⊥
  host_never may is off answers =
      let reply = may_reply own numbers pending _ command answers e in
      let first : first_line (Refused HostMemory) ≡ codes "HOST_MEMORY" ++ codes "\n" = lines_first (Refused HostMemory) _ host_line in
      let lack = refused_text reply.reply HostMemory (reply.is ∙ sym first) in
      let moving = subst (λ (r : Reply). MovingStep reply.other command r reply.new) lack reply.step in
      let mine = own_may own numbers reply.other reply.new command (Refused HostMemory) stands.good (reading_gives pending command e) (λ ns f. absurd cc) reply.stands moving in
      let only = lack_only own mine.0 command mine.1 in
      let on : (not (is_some (first_of (refusals own.state command))) && may_want_memory own command) ≡ true = (λ i. not (is_some (only.0 i)) && only.1 i) in
      both_ways may off (is ∙ on)

  -- no place was told that may be
  pub place_never : (first : List ℕ) (told : ℕ) → first ≢ first_line (Refused HostMemory) → tells_place command ≡ true → first_of (refusals own.state command) ≡ None
      → ((a : ℕ) → a < 2 ^ 64 → first_line (Address a) ≡ first → told ≡ a) → ((new : Machine) → MachineStep own command (Address told) new → ⊥) → MayAnswer own numbers pending first → ⊥
  place_never first told apart place none is_told never answers =
      let found = place_first own own numbers command (Address told) stands.good (reading_gives pending command e) first apart (may_reply own numbers pending first command answers e) none place told is_told in
      never found.1 found.2

  -- a reply that tells no frames is told
  pub reply_stands : (next : Machine) (later : ℕ → Option ℕ) (reply : Reply) (first : List ℕ) → TellsNoFrames reply → reply ≢ Refused HostMemory → MachineStep own command reply next → AreLeft next numbers later
      → reply_lines reply ≡ first ∷ [] → Stands frames next later (before ++ Asked pending ∷ Answered first ∷ [])
  reply_stands next later reply first none host step left is =
      subst (λ (ls : List (List ℕ)). Stands frames next later (before ++ Asked pending ∷ map Answered ls)) is (stands_reply frames own next numbers later before pending command reply stands e none host step left)

  -- another line is told
  pub reply_never : (next : Machine) (reply : Reply) (first : List ℕ) (told : ℕ) → first ≢ first_line (Refused HostMemory) → TellsNoFrames reply → reply ≢ Refused HostMemory → MachineStep own command reply next
      → ((a : ℕ) → a < 2 ^ 64 → first_line (Address a) ≡ first → told ≡ a) → (tells_place command ≡ true → (a : ℕ) → reply ≡ Address a → a ≡ told) → first_line reply ≢ first → MayAnswer own numbers pending first → ⊥
  reply_never next reply first told apart none host step is_told there other answers =
      other (sym (own_first own next numbers command reply stands.good (reading_gives pending command e) first apart (may_reply own numbers pending first command answers e) step none host told is_told there))

  -- runs
  pub runs_stand : (next : Machine) (later : ℕ → Option ℕ) (reply : Reply) (runs : List Run) → reply ≡ RunsReply runs → MachineStep own command reply next → AreLeft next numbers later → HasAnswered frames next later pending (RunsReply runs) before
  runs_stand next later reply runs is step left =
      runs_answered frames own next numbers later before pending command runs stands e (subst (λ (r : Reply). MachineStep own command r next) is step) left

  -- frames are told that fit
  pub pins_stand : (next : Machine) (mine told : List ℕ) (first : List ℕ) → frames ≤ FRAMES → MachineStep own command (Pins mine) next → reply_lines (Pins told) ≡ first ∷ [] → may_tell frames numbers mine told ≡ true
      → Stands frames next (with_seen numbers mine told) (before ++ Asked pending ∷ Answered first ∷ [])
  pins_stand next mine told first few step is may =
      let gives = reading_gives pending command e in
      let low = pins_low own next command mine stands.good gives step in
      let at = pin_command own next command mine step in
      let named = subst GivesName at.4 gives in
      let order = e ∙ ap (λ (c : Command). Order c) at.4 in
      let step_so = subst (λ (c : Command). MachineStep own c (Pins mine) next) at.4 step in
      let may_so = subst (λ (n : ℕ). may_tell n numbers mine told ≡ true) (sym stands.frames_are) may in
      let fits : Fits own numbers mine told = fits_from own numbers mine told stands.seen low may_so in
      let kept = MachineStep-keeps own command (Pins mine) next stands.good gives step in
      record {
        follows = subst (λ (ls : List (List ℕ)). Follows frames next (with_seen numbers mine told) (before ++ Asked pending ∷ map Answered ls)) is
            (follows_pinned frames own next numbers before pending at.0 at.1 at.2 at.3 mine told stands.follows stands.good (omega (arith, few, stands.frames_are)) order step_so fits);
        good = kept.good;
        seen = pins_seen own next at.0 at.1 at.2 at.3 mine stands.good named step_so numbers told fits stands.seen;
        frames_are = kept.frames ∙ stands.frames_are;
        next = omega (arith, kept.next, stands.next, length-append before (Asked pending ∷ Answered first ∷ []));
      }

  -- frames are told that do not
  pub pins_never : (next : Machine) (mine : List ℕ) (first : List ℕ) → frames ≤ FRAMES → length mine ≤ PIN_PAGES → first ≢ first_line (Refused HostMemory) → MachineStep own command (Pins mine) next
      → ((told : List ℕ) → length told ≤ PIN_PAGES → AllByRecursion (λ n. n < 2 ^ 64) told → first_line (Pins told) ≡ first → may_tell frames numbers mine told ≡ false) → MayAnswer own numbers pending first → ⊥
  pins_never next mine first few short apart step none answers =
      let gives = reading_gives pending command e in
      let low = pins_low own next command mine stands.good gives step in
      let at = pin_command own next command mine step in
      let named = subst GivesName at.4 gives in
      let may = subst (λ (c : Command). MayReply own numbers c first) at.4 (may_reply own numbers pending first command answers e) in
      let step_so = subst (λ (c : Command). MachineStep own c (Pins mine) next) at.4 step in
      let told = pins_first own next numbers at.0 at.1 at.2 at.3 mine stands.good named first apart may step_so in
      let n = own.state.content.frames in
      let below : AllByRecursion (λ t. t < n) told.0 = subst (λ (ts : List ℕ). AllByRecursion (λ t. t < n) ts) told.2.tells
      (all_over told.2.by.to (λ t. t < n) mine (all_map (λ t. t < n) (λ t. told.2.by.to t < n) mine (λ t h. to_below told.2.by n t told.2.within h) low)) in
      let wide : AllByRecursion (λ t. t < 2 ^ 64) told.0 = all_map (λ t. t < n) (λ t. t < 2 ^ 64) told.0 (λ t h. omega (arith, h, few, stands.frames_are)) below in
      let same_length : length told.0 ≡ length mine = sym (ap (λ (ts : List ℕ). length ts) told.2.tells) ∙ length_map told.2.by.to mine in
      let off = none told.0 (omega (arith, same_length, short)) wide told.1 in
      let on = tell_from own numbers mine told.0 stands.seen low told.2 in
      both_ways (may_tell frames numbers mine told.0) off (subst (λ (k : ℕ). may_tell k numbers mine told.0 ≡ true) stands.frames_are on) where
        length_map : (f : ℕ → ℕ) (xs : List ℕ) → length (map f xs) ≡ length xs
        length_map f [] = refl
        length_map f (x ∷ xs) = ap suc (length_map f xs)

-- ---- a line outside the grammar

pub outside_stands : (frames : ℕ) (own : Machine) (numbers : ℕ → Option ℕ) (before : List Told) (pending : List ℕ) → Stands frames own numbers before → reading pending ≡ Outside
    → Stands frames own numbers (before ++ Asked pending ∷ Answered (codes "SYNTAX" ++ codes "\n") ∷ [])
outside_stands frames own numbers before pending stands e = record {
  follows = subst (λ (ls : List (List ℕ)). Follows frames own numbers (before ++ Asked pending ∷ map Answered ls)) syntax_line
      (follows_outside frames own numbers before pending stands.follows e);
  good = stands.good;
  seen = stands.seen;
  frames_are = stands.frames_are;
  next = omega (arith, stands.next, length-append before (Asked pending ∷ Answered (codes "SYNTAX" ++ codes "\n") ∷ []));
}

pub outside_never : (own : Machine) (numbers : ℕ → Option ℕ) (pending line : List ℕ) → reading pending ≡ Outside → line ≢ codes "SYNTAX" → MayAnswer own numbers pending (line ++ codes "\n") → ⊥
outside_never own numbers pending line e apart may = apart_line line (codes "SYNTAX") apart (outside_only own numbers pending (line ++ codes "\n") may e ∙ lines_first (Refused Syntax) _ syntax_line)

-- ---- lines that were read

pub pins_single : (told : List ℕ) → reply_lines (Pins told) ≡ first_line (Pins told) ∷ []
unfolding reply_lines
pins_single told = refl

pub address_single : (a : ℕ) → reply_lines (Address a) ≡ first_line (Address a) ∷ []
unfolding reply_lines
address_single a = refl

pub address_told : (a b : ℕ) (line : List ℕ) → a < 2 ^ 64 → reply_lines (Address a) ≡ line ∷ [] → b < 2 ^ 64 → first_line (Address b) ≡ line → a ≡ b
address_told a b line h e l f = address_text a b h l (lines_first (Address a) line e ∙ sym f)

pub address_none : (b : ℕ) (line : List ℕ) → ((a : ℕ) → a < 2 ^ 64 → reply_lines (Address a) ≢ line ∷ []) → b < 2 ^ 64 → first_line (Address b) ≡ line → ⊥
address_none b line none l f = none b l (address_single b ∙ ap (λ (x : List ℕ). x ∷ []) f)

-- numbers that were read, and whether they fit
pub frames_heard : (bound : ℕ) (numbers later : ℕ → Option ℕ) (frames told line : List ℕ) (r : Bool) → reply_lines (Pins told) ≡ line ∷ [] → AllByRecursion (λ n. n < 2 ^ 64) told
    → r ≡ may_tell bound numbers frames told → (r ≡ true → later ≡ with_seen numbers frames told) → AreHeard bound numbers later frames line r
frames_heard bound numbers later frames told line true e all may seen = (told, e, sym may, seen refl)
frames_heard bound numbers later frames told line false e all may seen = λ ks short wide f.
    let same = pins_text told ks all wide (lines_first (Pins told) line e ∙ sym f) in
    ap (may_tell bound numbers frames) (sym same) ∙ sym may

pub frames_unheard : (bound : ℕ) (numbers : ℕ → Option ℕ) (frames line : List ℕ) → ((ks : List ℕ) → length ks ≤ PIN_PAGES → AllByRecursion (λ n. n < 2 ^ 64) ks → reply_lines (Pins ks) ≢ line ∷ [])
    → (ks : List ℕ) → length ks ≤ PIN_PAGES → AllByRecursion (λ n. n < 2 ^ 64) ks → first_line (Pins ks) ≡ line → may_tell bound numbers frames ks ≡ false
frames_unheard bound numbers frames line none ks short wide f = absurd (none ks short wide (pins_single ks ∙ ap (λ (x : List ℕ). x ∷ []) f))

-- ---- answers

pub one_line : (reply : Reply) (line : List ℕ) (count : ℕ) → slice_get (reply_lines reply) 0 ≡ Some line → count ≡ length (reply_lines reply) → count ≡ 1 → reply_lines reply ≡ line ∷ []
one_line reply line count e n one = go (reply_first reply).0 (reply_first reply).1 where
  go : (rest : List (List ℕ)) → reply_lines reply ≡ first_line reply ∷ rest → reply_lines reply ≡ line ∷ []
  go [] f = f ∙ ap (λ (x : List ℕ). x ∷ []) (some_same (sym (first_at reply) ∙ e))
  go (x ∷ rest) f = absurd (omega (arith, ap (λ (ls : List (List ℕ)). length ls) f, n, one))

pub first_told : (reply : Reply) (line : List ℕ) → slice_get (reply_lines reply) 0 ≡ Some line → first_line reply ≡ line
first_told reply line e = some_same (sym (first_at reply) ∙ e)

-- runs with more than one line
pub runs_some : (reply : Reply) (runs : List Run) (count : ℕ) → reply ≡ RunsReply runs → count ≡ length (reply_lines reply) → count ≢ 1 → 1 ≤ length runs
unfolding reply_lines
runs_some reply [] count e n many = absurd (many (n ∙ ap (λ (r : Reply). length (reply_lines r)) e))
runs_some reply (run ∷ runs) count e n many = omega arith

-- other answers have one line
pub no_runs : (answer : Reply) → ((runs : List Run) → answer ≢ Reply.Runs runs) → length (reply_lines answer) ≡ 1
unfolding reply_lines
no_runs (Reply.Runs runs) none = absurd (none runs refl)
no_runs Reply.Done none = refl
no_runs (Reply.Number number) none = refl
no_runs (Reply.Bytes bytes) none = refl
no_runs (Reply.Pins frames) none = refl
no_runs (Reply.Address address) none = refl
no_runs (Reply.Access faults bytes) none = refl
no_runs (Reply.Faults faults) none = refl
no_runs (Reply.Info info) none = refl
no_runs (Reply.Stat stat) none = refl
no_runs (Reply.Refused refusal) none = refl

-- ---- texts

pub same_text : (xs ys : List ℕ) (r : Bool) → r ≡ pointwise eqb xs ys → Decides r (xs ≡ ys)
same_text xs ys r e = slice_eq-Decides Decides-eqb xs ys r e

pub ends_line_is : (text front line : List ℕ) (last : ℕ) (r : Bool) → text ≡ front ++ last ∷ [] → last ≡ 10 → r ≡ pointwise eqb front line → (r ≡ true → text ≡ line ++ 10 ∷ []) × (text ≡ line ++ 10 ∷ [] → r ≡ true)
ends_line_is text front line last r e is eq =
    let both = same_text front line r eq in
    (λ t. e ∙ (λ i. both.0 t i ++ is i ∷ []), λ f. both.1 (same_from_push front line last 10 (sym e ∙ f)).0)

-- ---- options

pub match_none : {A : Type 0} (o : Option A) (P : Type 0) (Q : A → Type 0) → o ≡ None → MatchOption o P Q → P
match_none None P Q e h = h
match_none (Some x) P Q e h = absurd cc

pub match_some : {A : Type 0} (o : Option A) (x : A) (P : Type 0) (Q : A → Type 0) → o ≡ Some x → MatchOption o P Q → Q x
match_some None x P Q e h = absurd cc
match_some (Some y) x P Q e h = subst Q (some_same e) h

pub step_for : (old new : Machine) (command : Command) (answer other : Reply) → answer ≡ other → MachineStep old command answer new → MachineStep old command other new
step_for old new command answer other e step = subst (λ (a : Reply). MachineStep old command a new) e step

-- ---- what was heard

pub pins_heard : (frames : ℕ) (old new : Own) (pending : List ℕ) (before : List Told) (line : List ℕ) (command : Command) (mine : List ℕ) (r : Bool) (heard : Heard) → OwnStands frames old before
    → reading pending ≡ Order command → MachineStep (checker_machine_of old.machine) command (Pins mine) (checker_machine_of new.machine) → length mine ≤ PIN_PAGES → line ≢ first_line (Refused HostMemory)
    → AreHeard (length old.numbers) (number_seen old.numbers) (number_seen new.numbers) mine line r → length new.numbers ≡ length old.numbers → heard ≡ cond r Ends Never
    → IsHeard frames old new pending before line heard
pins_heard frames old new pending before line command mine true heard stands e step short apart are len is =
    subst (IsHeard frames old new pending before line) (sym is) (record {
      stands = subst (λ (numbers : ℕ → Option ℕ). Stands frames (checker_machine_of new.machine) numbers (before ++ Asked pending ∷ Answered line ∷ [])) (sym are.3)
          (pins_stand frames (checker_machine_of old.machine) (number_seen old.numbers) before pending command stands.stands e (checker_machine_of new.machine) mine are.0 line stands.few step are.1
          (subst (λ (n : ℕ). may_tell n (number_seen old.numbers) mine are.0 ≡ true) stands.size are.2));
      size = len ∙ stands.size;
      few = stands.few;
    })
pins_heard frames old new pending before line command mine false heard stands e step short apart are len is =
    subst (IsHeard frames old new pending before line) (sym is) (pins_never frames (checker_machine_of old.machine) (number_seen old.numbers) before pending command stands.stands e (checker_machine_of new.machine) mine line stands.few short apart step
    (λ ks few wide f. subst (λ (n : ℕ). may_tell n (number_seen old.numbers) mine ks ≡ false) stands.size (are ks few wide f)))

pub pins_bound : (frames : ℕ) (old : Own) (next : Machine) (before : List Told) (command : Command) (mine : List ℕ) → OwnStands frames old before → GivesName command → MachineStep (checker_machine_of old.machine) command (Pins mine) next
    → AllByRecursion (λ t. t < length old.numbers) mine
pins_bound frames old next before command mine stands gives step =
    subst (λ (n : ℕ). AllByRecursion (λ t. t < n) mine) (stands.stands.frames_are ∙ sym stands.size) (pins_low (checker_machine_of old.machine) next command mine stands.stands.good gives step)

pub reply_heard : (frames : ℕ) (old new : Own) (pending : List ℕ) (before : List Told) (line : List ℕ) (command : Command) (reply : Reply) (told : ℕ) (freed : List ℕ) (heard : Heard) → OwnStands frames old before
    → reading pending ≡ Order command → TellsNoFrames reply → reply ≢ Refused HostMemory → MachineStep (checker_machine_of old.machine) command reply (checker_machine_of new.machine) → line ≢ first_line (Refused HostMemory)
    → ((a : ℕ) → a < 2 ^ 64 → first_line (Address a) ≡ line → told ≡ a) → (tells_place command ≡ true → (a : ℕ) → reply ≡ Address a → a ≡ told)
    → Frees (checker_machine_of old.machine) command freed → IsCleared (checker_machine_of new.machine) (number_seen old.numbers) (number_seen new.numbers) freed → length new.numbers ≡ length old.numbers
    → Hears reply line heard → IsHeard frames old new pending before line heard
reply_heard frames old new pending before line command reply told freed Ends stands e none host step apart is_told there frees cleared len hears = record {
  stands = reply_stands frames (checker_machine_of old.machine) (number_seen old.numbers) before pending command stands.stands e (checker_machine_of new.machine) (number_seen new.numbers) reply line none host step
      (left_cleared (checker_machine_of old.machine) (checker_machine_of new.machine) command reply (number_seen old.numbers) (number_seen new.numbers) freed stands.stands.good none step stands.stands.seen frees cleared) hears;
  size = len ∙ stands.size;
  few = stands.few;
}
reply_heard frames old new pending before line command reply told freed (Begins runs) stands e none host step apart is_told there frees cleared len hears = (
  runs_stand frames (checker_machine_of old.machine) (number_seen old.numbers) before pending command stands.stands e (checker_machine_of new.machine) (number_seen new.numbers) reply runs hears.0 step
      (left_cleared (checker_machine_of old.machine) (checker_machine_of new.machine) command reply (number_seen old.numbers) (number_seen new.numbers) freed stands.stands.good none step stands.stands.seen frees cleared),
  ap first_line (sym hears.0) ∙ hears.1,
  hears.2,
  len ∙ stands.size,
)
reply_heard frames old new pending before line command reply told freed Never stands e none host step apart is_told there frees cleared len hears =
    reply_never frames (checker_machine_of old.machine) (number_seen old.numbers) before pending command stands.stands e (checker_machine_of new.machine) reply line told apart none host step is_told there hears

pub host_heard : (frames : ℕ) (old : Own) (pending : List ℕ) (before : List Told) (line : List ℕ) (command : Command) (r : Bool) (heard : Heard) → OwnStands frames old before → reading pending ≡ Order command
    → line ≡ codes "HOST_MEMORY" → r ≡ (not (is_some (first_of (refusals (checker_machine_of old.machine).state command))) && may_want_memory (checker_machine_of old.machine) command) → heard ≡ cond r Ends Never
    → IsHeard frames old old pending before (line ++ codes "\n") heard
host_heard frames old pending before line command true heard stands e text may is =
    let parts = and_parts (not (is_some (first_of (refusals (checker_machine_of old.machine).state command)))) (may_want_memory (checker_machine_of old.machine) command) (sym may) in
    let none = none_is (first_of (refusals (checker_machine_of old.machine).state command)) (not-true _ parts.0) in
    subst (IsHeard frames old old pending before (line ++ codes "\n")) (sym is) (subst (λ (l : List ℕ). OwnStands frames old (before ++ Asked pending ∷ Answered (l ++ codes "\n") ∷ [])) (sym text) (record {
      stands = host_stands frames (checker_machine_of old.machine) (number_seen old.numbers) before pending command stands.stands e none parts.1;
      size = stands.size;
      few = stands.few;
    }))
host_heard frames old pending before line command false heard stands e text may is =
    subst (IsHeard frames old old pending before (line ++ codes "\n")) (sym is) (λ answers. host_never frames (checker_machine_of old.machine) (number_seen old.numbers) before pending command stands.stands e false may refl
    (subst (λ (l : List ℕ). MayAnswer (checker_machine_of old.machine) (number_seen old.numbers) pending (l ++ codes "\n")) text answers))

pub outside_heard : (frames : ℕ) (old : Own) (pending : List ℕ) (before : List Told) (line : List ℕ) (r : Bool) (heard : Heard) → OwnStands frames old before → reading pending ≡ Outside
    → r ≡ pointwise eqb line (codes "SYNTAX") → heard ≡ cond r Ends Never → IsHeard frames old old pending before (line ++ codes "\n") heard
outside_heard frames old pending before line true heard stands e eq is =
    let text = (same_text line (codes "SYNTAX") true eq).0 refl in
    subst (IsHeard frames old old pending before (line ++ codes "\n")) (sym is) (subst (λ (l : List ℕ). OwnStands frames old (before ++ Asked pending ∷ Answered (l ++ codes "\n") ∷ [])) (sym text) (record {
      stands = outside_stands frames (checker_machine_of old.machine) (number_seen old.numbers) before pending stands.stands e;
      size = stands.size;
      few = stands.few;
    }))
outside_heard frames old pending before line false heard stands e eq is =
    let apart : line ≢ codes "SYNTAX" = λ same. absurd (let on = (same_text line (codes "SYNTAX") false eq).1 same in cc) in
    subst (IsHeard frames old old pending before (line ++ codes "\n")) (sym is) (outside_never (checker_machine_of old.machine) (number_seen old.numbers) pending line e apart)
