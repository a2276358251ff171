-- Laws of runs where pages move: pages may stay, and where no reply tells frames it can't be seen that they move.
use Rattle.std.proofs.Common.{◌≡◌, ℕ, ◌≤◌, List, [], ◌∷◌, ◌++◌, Option, None, Some, refl, sym, ap, subst, ◌∙◌}
use Rattle.std.specs.Option.{option_map}
use Rattle.std.specs.List.{AllByRecursion}
use Rattle.vm_model.specs.Machine.Words.{Command, Reply}
use Rattle.vm_model.specs.declared.reply.Reply.TheVariants.{Pins}
use Rattle.vm_model.specs.Contents.Content.{Page}
use Rattle.vm_model.specs.Language.Reading.{Reading, Blank, Order, Outside, reading}
use Rattle.vm_model.specs.Machine.Machine.{Machine, empty_machine, IsGoodMachine}
use Rattle.vm_model.specs.Machine.MachineStep.{MachineStep}
use Rattle.vm_model.specs.Scripts.Run.{GivesAs, Run, Legal}
use Rattle.vm_model.proofs.MachineLaws.{MachineStep-keeps, IsGoodMachine-empty}
use Rattle.moving_model.specs.Renaming.{Renaming, KeepsFrom, page_renamed, machine_renamed, reply_renamed}
use Rattle.moving_model.specs.Moving.{MovingStep, MovingGivesAs, MovingRun, MovingLegal, TellsNoFrames}
use Rattle.moving_model.proofs.NumberLaws.{no_renaming, back_keeps}
use Rattle.moving_model.proofs.StepLaws.{MachineStep-renamed}
use Rattle.moving_model.proofs.GoodLaws.{IsGoodMachine-renamed}
use Rattle.moving_model.proofs.ReadingLaws.{reading_gives}

-- ---- one renaming after another

page-same : (o : Option Page) → option_map (page_renamed no_renaming) o ≡ o
page-same None = refl
page-same (Some held) = refl

-- the numbers as they are change nothing
pub machine-same : (m : Machine) → machine_renamed no_renaming m ≡ m
machine-same m = λ i. record m { state = record (m.state) { content = record (m.state.content) { page = λ v p. page-same (m.state.content.page v p) i } } }

-- the way back
abbrev pub undone : Renaming → Renaming
undone r = record { to = r.back; back = r.to; there = r.again; again = r.there }

-- one renaming, and then another
abbrev pub and_then : Renaming → Renaming → Renaming
and_then a b = record {
  to = λ t. b.to (a.to t);
  back = λ t. a.back (b.back t);
  there = λ t. ap a.back (b.there (a.to t)) ∙ a.there t;
  again = λ t. ap b.to (a.again (b.back t)) ∙ b.again t;
}

page-then : (a b : Renaming) (o : Option Page) → option_map (page_renamed b) (option_map (page_renamed a) o) ≡ option_map (page_renamed (and_then a b)) o
page-then a b None = refl
page-then a b (Some held) = refl

pub machine-then : (a b : Renaming) (m : Machine) → machine_renamed b (machine_renamed a m) ≡ machine_renamed (and_then a b) m
machine-then a b m = λ i. record m { state = record (m.state) { content = record (m.state.content) { page = λ v p. page-then a b (m.state.content.page v p) i } } }

page-undone : (r : Renaming) (o : Option Page) → option_map (page_renamed (undone r)) (option_map (page_renamed r) o) ≡ o
page-undone r None = refl
page-undone r (Some held) = λ i. Some (record held { tag = r.there held.tag i })

pub machine-undone : (r : Renaming) (m : Machine) → machine_renamed (undone r) (machine_renamed r m) ≡ m
machine-undone r m = λ i. record m { state = record (m.state) { content = record (m.state.content) { page = λ v p. page-undone r (m.state.content.page v p) i } } }

-- ---- pages may stay

pub MovingStep-from : (old new : Machine) (command : Command) (reply : Reply) → MachineStep old command reply new → MovingStep old command reply new
MovingStep-from old new command reply step = record {
  mid = new;
  step = step;
  moves = no_renaming;
  within = λ t h. refl;
  pinned = λ v p held pinned e. refl;
  moved = sym (machine-same new);
}

MovingGivesAs-from : (how : Reading) (old : Machine) (replies : List Reply) (new : Machine) → GivesAs how old replies new → MovingGivesAs how old replies new
MovingGivesAs-from Blank old replies new gives = gives
MovingGivesAs-from (Order command) old replies new gives = (gives.0, gives.1, MovingStep-from old new command gives.0 gives.2)
MovingGivesAs-from Outside old replies new gives = gives

MovingRun-from : (lines : List (List ℕ)) (old : Machine) (replies : List Reply) (new : Machine) → Run old lines replies new → MovingRun old lines replies new
MovingRun-from [] old replies new run = run
MovingRun-from (line ∷ lines) old replies new run = (
  run.0,
  run.1,
  run.2,
  record { answer = MovingGivesAs-from (reading line) old run.1 run.0 run.3.answer },
  MovingRun-from lines run.0 run.2 new run.4,
  run.5,
)

pub MovingLegal-from : (frames : ℕ) (lines : List (List ℕ)) (out : List ℕ) (last : Machine) → Legal frames lines out last → MovingLegal frames lines out
MovingLegal-from frames lines out last legal =
    record { last = last; replies = legal.replies; run = MovingRun-from lines (empty_machine frames) legal.replies last legal.run; text = legal.text }

-- ---- where no reply tells frames

pub told_alike : (r : Renaming) (reply : Reply) → TellsNoFrames reply → reply_renamed r reply ≡ reply
told_alike r (Pins numbers) none = absurd (none numbers refl)
told_alike r reply none = refl

-- A machine whose pages stay stands beside one whose pages moved, as the other with its frames renamed.
record Beside (plain moving : Machine) : Type 0 where
  pub by : Renaming
  pub keeps : KeepsFrom by moving.state.content.frames
  pub good : IsGoodMachine moving
  pub is : plain ≡ machine_renamed by moving

step_beside : (plain old new : Machine) (command : Command) (reply : Reply) (line : List ℕ) → reading line ≡ Order command → Beside plain old → TellsNoFrames reply
    → MovingStep old command reply new → (next : Machine) × MachineStep plain command reply next × Beside next new
step_beside plain old new command reply line e beside none step =
    let r = beside.by in
    let gives = reading_gives line command e in
    let kept = MachineStep-keeps old command reply step.mid beside.good gives step.step in
    let same = MachineStep-renamed r old step.mid command reply beside.keeps beside.good gives step.step in
    let told : MachineStep plain command reply (machine_renamed r step.mid) =
    subst (λ (m : Machine). MachineStep m command reply (machine_renamed r step.mid)) (sym beside.is)
    (subst (λ (a : Reply). MachineStep (machine_renamed r old) command a (machine_renamed r step.mid)) (told_alike r reply none) same) in
    let frames : new.state.content.frames ≡ step.mid.state.content.frames = ap (λ (m : Machine). m.state.content.frames) step.moved in (
      machine_renamed r step.mid,
      told,
      record {
        by = and_then (undone step.moves) r;
        keeps = λ t h.
            let low : step.mid.state.content.frames ≤ t = subst (λ (n : ℕ). n ≤ t) frames h in
            let first : step.moves.back t ≡ t = back_keeps step.moves step.mid.state.content.frames step.within t low in
            ap r.to first ∙ beside.keeps t (subst (λ (n : ℕ). n ≤ t) kept.frames low);
        good = subst IsGoodMachine (sym step.moved) (IsGoodMachine-renamed step.moves step.mid step.within kept.good);
        is = ap (machine_renamed r) (sym (machine-undone step.moves step.mid)) ∙ (machine-then (undone step.moves) r (machine_renamed step.moves step.mid)
            ∙ ap (machine_renamed (and_then (undone step.moves) r)) (sym step.moved));
      },
    )

AllByRecursion-head : (replies : List Reply) (reply : Reply) → replies ≡ reply ∷ [] → AllByRecursion TellsNoFrames replies → TellsNoFrames reply
AllByRecursion-head replies reply e all = let mine = subst (AllByRecursion TellsNoFrames) e all in mine.0

gives_beside : (line : List ℕ) (how : Reading) → reading line ≡ how → (plain old new : Machine) (replies : List Reply) → Beside plain old → AllByRecursion TellsNoFrames replies
    → MovingGivesAs how old replies new → (next : Machine) × GivesAs how plain replies next × Beside next new
gives_beside line Blank e plain old new replies beside none gives = (plain, (gives.0, refl), subst (Beside plain) (sym gives.1) beside)
gives_beside line (Order command) e plain old new replies beside none gives =
    let step = step_beside plain old new command gives.0 line e beside (AllByRecursion-head replies gives.0 gives.1 none) gives.2 in
    (step.0, (gives.0, gives.1, step.1), step.2)
gives_beside line Outside e plain old new replies beside none gives = (plain, (gives.0, refl), subst (Beside plain) (sym gives.1) beside)

all_parts : (now later : List Reply) → AllByRecursion TellsNoFrames (now ++ later) → AllByRecursion TellsNoFrames now × AllByRecursion TellsNoFrames later
all_parts [] later all = (tt, all)
all_parts (reply ∷ now) later all = let rest = all_parts now later all.1 in ((all.0, rest.0), rest.1)

run_beside : (lines : List (List ℕ)) (plain old new : Machine) (replies : List Reply) → Beside plain old → AllByRecursion TellsNoFrames replies
    → MovingRun old lines replies new → (last : Machine) × Run plain lines replies last
run_beside [] plain old new replies beside none run = (plain, (run.0, refl))
run_beside (line ∷ lines) plain old new replies beside none run =
    let parts = all_parts run.1 run.2 (subst (AllByRecursion TellsNoFrames) run.5 none) in
    let first = gives_beside line (reading line) refl plain old run.0 run.1 beside parts.0 run.3.answer in
    let rest = run_beside lines first.0 run.0 new run.2 first.2 parts.1 run.4 in
    (rest.0, (first.0, run.1, run.2, record { answer = first.1 }, rest.1, run.5))

pub Legal-from_moving : (frames : ℕ) (lines : List (List ℕ)) (out : List ℕ) (legal : MovingLegal frames lines out) → AllByRecursion TellsNoFrames legal.replies
    → (last : Machine) × Legal frames lines out last
Legal-from_moving frames lines out legal none =
    let begin = empty_machine frames in
    let beside : Beside begin begin = record { by = no_renaming; keeps = λ t h. refl; good = IsGoodMachine-empty frames; is = sym (machine-same begin) } in
    let run = run_beside lines begin begin legal.last legal.replies beside none legal.run in
    (run.0, record { replies = legal.replies; run = run.1; text = legal.text })
