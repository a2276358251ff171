-- Lines that a machine answers.
use Rattle.std.proofs.Common.{◌≡◌, ℕ, ◌≤◌, inl, inr, List, [], ◌∷◌, ◌++◌, take, Option, Result, Ok, Err, refl, sym, ap, subst, take_all, arith}
use Rattle.std.specs.Io.KnownBytes.{Appends}
use Rattle.std.proofs.KnownBytes.{Appends-nil, Appends-trans}
use Rattle.script_io.specs.declared.status.Status.{Status}
use Rattle.script_io.specs.declared.status.Status.TheVariants.{Done, Usage, HostMemory, ReadFault, WriteFault, ScriptLimit}
use Rattle.script_io.specs.Faults.{HasFailed}
use Rattle.vm_model.specs.Contents.Content.{Content}
use Rattle.vm_model.specs.Scripts.Run.{lines_of, whole_lines}
use Rattle.line_server.specs.Answering.{Answering, AnsweringRun}
use Rattle.line_server.specs.Outcome.{AnswersAll, AnswersPart, EndsAs}
use Rattle.line_server.specs.Reading.{TakesAll, TakesPart, ReadsAs}
use Rattle.line_server.specs.Serving.{Heard, answering, served_as}
use Rattle.line_server.proofs.Beginning.{HasFailed-earlier}

module _ {S : Type 0} (m : Answering S) where
  -- what the lines lead to
  record Answered (old new : Heard S) (lines : List (List ℕ)) : Type 0 where
    out : List ℕ
    run : AnsweringRun m old.machine lines out new.machine
    good : m.IsGood new.machine
    written : Appends old.taken new.taken out
    later : old.faults ≤ new.faults

  answered : (old new : Heard S) (lines : List (List ℕ)) → m.IsGood old.machine → TakesAll (answering m) old lines new → Answered old new lines
  answered old new [] good all = subst (λ s. Answered old s []) (sym all) (record { out = []; run = (refl, refl); good = good; written = Appends-nil old.taken; later = omega arith })
  answered old new (line ∷ lines) good all =
      let mid = all.0 in
      let first = all.1 in
      let rest = answered mid new lines first.good all.2 in
      record {
        out = first.answer.text ++ rest.out;
        run = (mid.machine, first.answer.text, rest.out, first.answer.gives, rest.run, refl);
        good = rest.good;
        written = Appends-trans old.taken mid.taken new.taken first.answer.text rest.out first.answer.written rest.written;
        later = let one = first.cause.later in let two = rest.later in omega arith;
      }

  module _ (frames : ℕ) (old new : Heard S) (c : Content) (start : old.machine ≡ m.start frames) (good : m.IsGood old.machine) (holds : m.content new.machine ≡ c) where
    all-answered : (lines : List (List ℕ)) → TakesAll (answering m) old lines new → AnswersAll m frames lines old.taken new.taken c
    all-answered lines all =
        let it = answered old new lines good all in
        record {
          out = it.out;
          last = new.machine;
          run = subst (λ s. AnsweringRun m s lines it.out new.machine) start it.run;
          good = it.good;
          written = it.written;
          store = sym holds;
        }

    part-answered : (lines : List (List ℕ)) → TakesPart (answering m) old lines new → AnswersPart m frames lines old.taken new.taken c
    part-answered lines part =
        let it = answered old part.mid (take part.count lines) good part.before in
        let last = part.halts in
        let cut = last.answer.written in
        record {
          answered = part.count;
          line = part.line;
          next = part.next;
          before = it.out;
          mid = part.mid.machine;
          run = subst (λ s. AnsweringRun m s (take part.count lines) it.out part.mid.machine) start it.run;
          text = last.answer.text;
          last = new.machine;
          gives = last.answer.gives;
          good = last.good;
          part = cut.part;
          rest = cut.rest;
          cut = cut.whole;
          left = cut.left;
          written = Appends-trans old.taken part.mid.taken new.taken it.out cut.part it.written cut.taken;
          store = sym holds;
        }

    -- how serving ends
    ends-at : {E : Type 0} (end : Result Status E) (limit : ℕ) (source_old source_new : Option (List ℕ)) →
        ReadsAs (answering m) end limit source_old source_new old new → EndsAs m (served_as end) frames limit source_old source_new old.taken new.taken c
    ends-at (Ok Done) limit source_old source_new h =
        record { script = h.script; given = h.given; ended = h.ended; short = h.short; answers = all-answered (lines_of h.script) h.answers }
    ends-at (Ok ReadFault) limit source_old source_new h =
        record { script = h.script; given = h.given; short = h.short; answers = all-answered (whole_lines h.script) h.answers }
    ends-at (Ok ScriptLimit) limit source_old source_new h =
        record { script = h.script; given = h.given; long = h.long; answers = all-answered (whole_lines (take limit h.script)) h.answers }
    ends-at (Ok HostMemory) limit source_old source_new h = absurd h
    ends-at (Ok WriteFault) limit source_old source_new h = absurd h
    ends-at (Ok Usage) limit source_old source_new h = absurd h
    ends-at (Err error) limit source_old source_new h = record {
      script = h.script;
      given = h.given;
      at_most = let short = h.short in omega arith;
      answers = elim h.answers [
        | inl whole ↦ inl (subst (λ bytes. AnswersPart m frames (whole_lines bytes) old.taken new.taken c) (sym (take_all limit h.script h.short)) (part-answered (whole_lines h.script) whole))
        | inr last ↦ inr (part-answered (lines_of h.script) last.0, last.1, h.short)
      ];
    }

    pub serving-ends : {E : Type 0} (end : Result Status E) (from limit : ℕ) (source_old source_new : Option (List ℕ)) → from ≡ limit →
        ReadsAs (answering m) end from source_old source_new old new → EndsAs m (served_as end) frames limit source_old source_new old.taken new.taken c
    serving-ends end from limit source_old source_new same h =
        ends-at end limit source_old source_new (subst (λ n. ReadsAs (answering m) end n source_old source_new old new) same h)

  -- a fault of the sink has a cause
  halts-failed : (old new : Heard S) (lines : List (List ℕ)) → m.IsGood old.machine → TakesPart (answering m) old lines new → HasFailed old.faults new.faults
  halts-failed old new lines good part =
      HasFailed-earlier old.faults part.mid.faults new.faults (answered old part.mid (take part.count lines) good part.before).later part.halts.cause.failed

  pub serving-failed : {E : Type 0} (end : Result Status E) (limit : ℕ) (source_old source_new : Option (List ℕ)) (old new : Heard S) → m.IsGood old.machine →
      ReadsAs (answering m) end limit source_old source_new old new → served_as end ≡ WriteFault → HasFailed old.faults new.faults
  serving-failed (Ok Done) limit source_old source_new old new good h e = absurd cc
  serving-failed (Ok ReadFault) limit source_old source_new old new good h e = absurd cc
  serving-failed (Ok ScriptLimit) limit source_old source_new old new good h e = absurd cc
  serving-failed (Ok HostMemory) limit source_old source_new old new good h e = absurd h
  serving-failed (Ok WriteFault) limit source_old source_new old new good h e = absurd h
  serving-failed (Ok Usage) limit source_old source_new old new good h e = absurd h
  serving-failed (Err error) limit source_old source_new old new good h e = elim h.answers [
    | inl whole ↦ halts-failed old new (whole_lines h.script) good whole
    | inr last ↦ halts-failed old new (lines_of h.script) good last.0
  ]

-- what ends so is neither want of memory nor, if a line ended it, a fault of the source
pub served-no_memory : {S E P : Type 0} (m : Answering S) (end : Result Status E) (limit : ℕ) (source_old source_new : Option (List ℕ)) (old new : Heard S) →
    ReadsAs (answering m) end limit source_old source_new old new → served_as end ≡ HostMemory → P
served-no_memory m (Ok Done) limit source_old source_new old new h e = absurd cc
served-no_memory m (Ok ReadFault) limit source_old source_new old new h e = absurd cc
served-no_memory m (Ok ScriptLimit) limit source_old source_new old new h e = absurd cc
served-no_memory m (Ok HostMemory) limit source_old source_new old new h e = absurd h
served-no_memory m (Ok WriteFault) limit source_old source_new old new h e = absurd h
served-no_memory m (Ok Usage) limit source_old source_new old new h e = absurd h
served-no_memory m (Err error) limit source_old source_new old new h e = absurd cc

pub served-fault : {E P : Type 0} (end : Result Status E) → (end ≡ Ok ReadFault → P) → served_as end ≡ ReadFault → P
served-fault (Ok status) h e = h (ap (λ s. Ok s) e)
served-fault (Err error) h e = absurd cc
