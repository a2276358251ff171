-- What the answers to lines say of the plain machine.
use Rattle.std.proofs.Common.{◌≡◌, ℕ, ◌↔◌, List, [], ◌∷◌, ◌++◌, Option, Result, Ok, Err, refl, sym, ap, subst, ◌∙◌, append-nil}
use Rattle.std.specs.Prelude.{OnOk, OnErr}
use Rattle.std.specs.Io.KnownBytes.{Appends}
use Rattle.std.proofs.lemmas.Grind.{flat_map-append}
use Rattle.script_io.specs.Faults.{IsCutOff}
use Rattle.vm_model.specs.Machine.Words.{Command, Reply}
use Rattle.vm_model.specs.Machine.Machine.{Machine, empty_machine}
use Rattle.vm_model.specs.Machine.MachineStep.{MachineStep}
use Rattle.vm_model.specs.Language.Reading.{Reading, Order, Outside, reading}
use Rattle.vm_model.specs.Language.Text.{text, texts}
use Rattle.vm_model.specs.Scripts.Run.{GivesAs, Run, Legal}
use Rattle.line_server.specs.Answering.{AnsweringRun as Answered, syntax_text}
use Rattle.line_server.specs.Outcome.{SinkTakes, AnswersLine}
use Rattle.vm_session.specs.Plain.{plain, GivesText}
use Rattle.vm_session.specs.inside.Outside.{GivesText-outside}

-- ---- one line of a script

-- a text that was pushed, whole or in part
SinkTakes-one : {T E : Type 0} (result : Result T E) (before after : Option (List ℕ)) (out : List ℕ) → OnOk result (Appends before after out) → OnErr result (IsCutOff before after out) → SinkTakes result before after out
SinkTakes-one (Ok x) before after out ok err = ok
SinkTakes-one (Err e) before after out ok err = err

-- a line that is an order, one step, and its reply
pub AnswersLine-order : {T E : Type 0} (line : List ℕ) (command : Command) (old new : Machine) (reply : Reply) (before after : Option (List ℕ)) (result : Result T E)
    → Order command ≡ reading line → MachineStep old command reply new → OnOk result (Appends before after (text reply)) → OnErr result (IsCutOff before after (text reply)) → AnswersLine plain line old new before after result
AnswersLine-order line command old new reply before after result e step ok err = record {
  text = text reply;
  gives = record {
    replies = reply ∷ [];
    gives = record { answer = subst (λ (r : Reading). GivesAs r old (reply ∷ []) new) e (reply, refl, step) };
    text = sym (append-nil (text reply));
  };
  written = SinkTakes-one result before after (text reply) ok err;
}

-- a line outside the grammar, and its refusal
pub AnswersLine-outside : {T E : Type 0} (line : List ℕ) (old : Machine) (before after : Option (List ℕ)) (result : Result T E)
    → Outside ≡ reading line → OnOk result (Appends before after syntax_text) → OnErr result (IsCutOff before after syntax_text) → AnswersLine plain line old old before after result
AnswersLine-outside line old before after result e ok err = record {
  text = syntax_text;
  gives = GivesText-outside line old e;
  written = SinkTakes-one result before after syntax_text ok err;
}

-- ---- the lines of a script

-- the lines may give replies of this text
record RunsAs (old : Machine) (lines : List (List ℕ)) (out : List ℕ) (new : Machine) : Type 0 where
  pub replies : List Reply
  pub run : Run old lines replies new
  pub text : out ≡ texts replies

runs_as : (old new : Machine) (lines : List (List ℕ)) (out : List ℕ) → Answered plain old lines out new → RunsAs old lines out new
runs_as old new [] out run = record { replies = []; run = (refl, run.1); text = run.0 }
runs_as old new (line ∷ lines) out run =
    let here = run.3 in
    let rest = runs_as run.0 new lines run.2 run.4 in
    record {
      replies = here.replies ++ rest.replies;
      run = (run.0, here.replies, rest.replies, here.gives, rest.run, refl);
      text = run.5 ∙ (ap (λ (xs : List ℕ). xs ++ run.2) here.text ∙ (ap (λ (xs : List ℕ). texts here.replies ++ xs) rest.text
          ∙ sym (flat_map-append text here.replies rest.replies)));
    }

answered : (old new : Machine) (lines : List (List ℕ)) (replies : List Reply) → Run old lines replies new → Answered plain old lines (texts replies) new
answered old new [] replies run = (ap texts run.0, run.1)
answered old new (line ∷ lines) replies run =
    let here : GivesText line old (texts run.1) run.0 = record { replies = run.1; gives = run.3; text = refl } in
    (run.0, texts run.1, texts run.2, here, answered run.0 new lines run.2 run.4, ap texts run.5 ∙ flat_map-append text run.1 run.2)

-- a run that is answered by a text is legal, and the other way round
pub Run-legal : (frames : ℕ) (lines : List (List ℕ)) (out : List ℕ) (last : Machine) → Answered plain (plain.start frames) lines out last ↔ Legal frames lines out last
Run-legal frames lines out last = (there, back) where
  there : Answered plain (plain.start frames) lines out last → Legal frames lines out last
  there run = let all = runs_as (empty_machine frames) last lines out run in record { replies = all.replies; run = all.run; text = all.text }

  back : Legal frames lines out last → Answered plain (plain.start frames) lines out last
  back legal = subst (λ (xs : List ℕ). Answered plain (empty_machine frames) lines xs last) (sym legal.text) (answered (empty_machine frames) last lines legal.replies legal.run)
