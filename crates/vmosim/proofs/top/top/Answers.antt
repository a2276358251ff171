use Rattle.std.proofs.Common.{refl, sym, ◌∙◌}
use Rattle.std.specs.Prelude.{codes}
use Rattle.vmosim.proofs.VerbLaws.{no_frames, no_frames_not, no_task, no_work, not_asked, is_there, not_refused, refused}
use Rattle.vmosim.proofs.top.top.Goals as goal

pub returns-then-has_verb-clause-ends : goal.returns-then-has_verb-clause-ends
returns-then-has_verb-clause-ends g c = rw (no_task (codes "actors") c.args.words.now refl refl (sym c.has_verb.ensures ∙ c.if-has_verb.true)) tt

pub returns-then-has_verb-clause-batch : goal.returns-then-has_verb-clause-batch
returns-then-has_verb-clause-batch g c =
    rw (no_frames (codes "actors") (codes "batch") c.args.words.now refl (sym c.has_verb.ensures ∙ c.if-has_verb.true)) tt

pub returns-then-has_verb-clause-sources : goal.returns-then-has_verb-clause-sources
returns-then-has_verb-clause-sources g c =
    rw (no_frames (codes "actors") (codes "sources") c.args.words.now refl (sym c.has_verb.ensures ∙ c.if-has_verb.true)) tt

pub returns-then-has_verb-clause-check : goal.returns-then-has_verb-clause-check
returns-then-has_verb-clause-check g c = rw (no_frames (codes "actors") (codes "check") c.args.words.now refl (sym c.has_verb.ensures ∙ c.if-has_verb.true)) tt

pub returns-then-has_verb-clause-apart : goal.returns-then-has_verb-clause-apart
returns-then-has_verb-clause-apart g c = λ asked. not_asked _ (no_frames (codes "actors") (codes "check") c.args.words.now refl (sym c.has_verb.ensures ∙ c.if-has_verb.true)) asked

pub returns-then-has_verb-clause-unreported : goal.returns-then-has_verb-clause-unreported
returns-then-has_verb-clause-unreported g c = λ asked. not_asked _ (no_frames (codes "actors") (codes "check") c.args.words.now refl (sym c.has_verb.ensures ∙ c.if-has_verb.true)) asked

pub returns-then-has_verb-clause-unread : goal.returns-then-has_verb-clause-unread
returns-then-has_verb-clause-unread g c = λ work.
    no_work c.args.words.now (no_task (codes "actors") c.args.words.now refl refl (sym c.has_verb.ensures ∙ c.if-has_verb.true)) work

pub returns-then-has_verb-clause-host_memory : goal.returns-then-has_verb-clause-host_memory
returns-then-has_verb-clause-host_memory g c = λ lacks none other. refused _ _ c.run_actors-status.ensures.usage lacks none

pub returns-then-has_verb-clause-kept : goal.returns-then-has_verb-clause-kept
returns-then-has_verb-clause-kept g c = λ gone.
    let lacks = c.run_actors-status.ensures.kept (sym c.put_back.ensures ∙ gone) in
    (lacks, not_refused _ _ c.run_actors-status.ensures.usage lacks)

pub returns-then-has_verb-clause-usage : goal.returns-then-has_verb-clause-usage
returns-then-has_verb-clause-usage g c =
    let verb = sym c.has_verb.ensures ∙ c.if-has_verb.true in (
      (λ e. (
        no_task (codes "actors") c.args.words.now refl refl verb,
        no_frames (codes "actors") (codes "batch") c.args.words.now refl verb,
        no_frames (codes "actors") (codes "sources") c.args.words.now refl verb,
        c.run_actors-status.ensures.usage.0 e,
        no_frames (codes "actors") (codes "check") c.args.words.now refl verb,
      )),
      (λ none. c.run_actors-status.ensures.usage.1 none.3),
    )

pub returns-then-has_verb-clause-actors : goal.returns-then-has_verb-clause-actors
returns-then-has_verb-clause-actors g c = rw c.put_back.ensures c.run_actors-status.ensures.ends

pub returns-then-has_verb-2-clause-ends : goal.returns-then-has_verb-2-clause-ends
returns-then-has_verb-2-clause-ends g c = rw (no_task (codes "batch") c.args.words.now refl refl (sym c.has_verb-2.ensures ∙ c.if-has_verb-2.true)) tt

pub returns-then-has_verb-2-clause-batch : goal.returns-then-has_verb-2-clause-batch
returns-then-has_verb-2-clause-batch g c = c.run_batch.ensures.ends

pub returns-then-has_verb-2-clause-sources : goal.returns-then-has_verb-2-clause-sources
returns-then-has_verb-2-clause-sources g c = rw (no_frames (codes "batch") (codes "sources") c.args.words.now refl (sym c.has_verb-2.ensures ∙ c.if-has_verb-2.true)) tt

pub returns-then-has_verb-2-clause-actors : goal.returns-then-has_verb-2-clause-actors
returns-then-has_verb-2-clause-actors g c = rw (no_frames (codes "batch") (codes "actors") c.args.words.now refl (sym c.has_verb-2.ensures ∙ c.if-has_verb-2.true)) tt

pub returns-then-has_verb-2-clause-check : goal.returns-then-has_verb-2-clause-check
returns-then-has_verb-2-clause-check g c = rw (no_frames (codes "batch") (codes "check") c.args.words.now refl (sym c.has_verb-2.ensures ∙ c.if-has_verb-2.true)) tt

pub returns-then-has_verb-2-clause-apart : goal.returns-then-has_verb-2-clause-apart
returns-then-has_verb-2-clause-apart g c = λ asked. not_asked _ (no_frames (codes "batch") (codes "check") c.args.words.now refl (sym c.has_verb-2.ensures ∙ c.if-has_verb-2.true)) asked

pub returns-then-has_verb-2-clause-unreported : goal.returns-then-has_verb-2-clause-unreported
returns-then-has_verb-2-clause-unreported g c = λ asked. not_asked _ (no_frames (codes "batch") (codes "check") c.args.words.now refl (sym c.has_verb-2.ensures ∙ c.if-has_verb-2.true)) asked

pub returns-then-has_verb-2-clause-unread : goal.returns-then-has_verb-2-clause-unread
returns-then-has_verb-2-clause-unread g c = λ work. no_work c.args.words.now (no_task (codes "batch") c.args.words.now refl refl (sym c.has_verb-2.ensures ∙ c.if-has_verb-2.true)) work

pub returns-then-has_verb-2-clause-host_memory : goal.returns-then-has_verb-2-clause-host_memory
returns-then-has_verb-2-clause-host_memory g c = λ lacks none other. c.run_batch.ensures.host_memory lacks

pub returns-then-has_verb-2-clause-unwritten : goal.returns-then-has_verb-2-clause-unwritten
returns-then-has_verb-2-clause-unwritten g c = λ asked. not_asked _ (no_frames (codes "batch") (codes "actors") c.args.words.now refl (sym c.has_verb-2.ensures ∙ c.if-has_verb-2.true)) asked

pub returns-then-has_verb-2-clause-kept : goal.returns-then-has_verb-2-clause-kept
returns-then-has_verb-2-clause-kept g c = λ gone. is_there _ refl gone

pub returns-then-has_verb-2-clause-usage : goal.returns-then-has_verb-2-clause-usage
returns-then-has_verb-2-clause-usage g c =
    let verb = sym c.has_verb-2.ensures ∙ c.if-has_verb-2.true in (
      (λ e. (
        no_task (codes "batch") c.args.words.now refl refl verb,
        c.run_batch.ensures.usage.0 e,
        no_frames (codes "batch") (codes "sources") c.args.words.now refl verb,
        no_frames (codes "batch") (codes "actors") c.args.words.now refl verb,
        no_frames (codes "batch") (codes "check") c.args.words.now refl verb,
      )),
      (λ none. c.run_batch.ensures.usage.1 none.1),
    )

pub returns-then-has_verb-3-clause-ends : goal.returns-then-has_verb-3-clause-ends
returns-then-has_verb-3-clause-ends g c = rw (no_task (codes "sources") c.args.words.now refl refl (sym c.has_verb-3.ensures ∙ c.if-has_verb-3.true)) tt

pub returns-then-has_verb-3-clause-batch : goal.returns-then-has_verb-3-clause-batch
returns-then-has_verb-3-clause-batch g c = rw (no_frames (codes "sources") (codes "batch") c.args.words.now refl (sym c.has_verb-3.ensures ∙ c.if-has_verb-3.true)) tt

pub returns-then-has_verb-3-clause-sources : goal.returns-then-has_verb-3-clause-sources
returns-then-has_verb-3-clause-sources g c = c.run_sources.ensures.ends

pub returns-then-has_verb-3-clause-actors : goal.returns-then-has_verb-3-clause-actors
returns-then-has_verb-3-clause-actors g c = rw (no_frames (codes "sources") (codes "actors") c.args.words.now refl (sym c.has_verb-3.ensures ∙ c.if-has_verb-3.true)) tt

pub returns-then-has_verb-3-clause-check : goal.returns-then-has_verb-3-clause-check
returns-then-has_verb-3-clause-check g c = rw (no_frames (codes "sources") (codes "check") c.args.words.now refl (sym c.has_verb-3.ensures ∙ c.if-has_verb-3.true)) tt

pub returns-then-has_verb-3-clause-apart : goal.returns-then-has_verb-3-clause-apart
returns-then-has_verb-3-clause-apart g c = λ asked. not_asked _ (no_frames (codes "sources") (codes "check") c.args.words.now refl (sym c.has_verb-3.ensures ∙ c.if-has_verb-3.true)) asked

pub returns-then-has_verb-3-clause-unreported : goal.returns-then-has_verb-3-clause-unreported
returns-then-has_verb-3-clause-unreported g c = λ asked. not_asked _ (no_frames (codes "sources") (codes "check") c.args.words.now refl (sym c.has_verb-3.ensures ∙ c.if-has_verb-3.true)) asked

pub returns-then-has_verb-3-clause-unread : goal.returns-then-has_verb-3-clause-unread
returns-then-has_verb-3-clause-unread g c = λ work. no_work c.args.words.now (no_task (codes "sources") c.args.words.now refl refl (sym c.has_verb-3.ensures ∙ c.if-has_verb-3.true)) work

pub returns-then-has_verb-3-clause-host_memory : goal.returns-then-has_verb-3-clause-host_memory
returns-then-has_verb-3-clause-host_memory g c = λ lacks none other. c.run_sources.ensures.host_memory lacks

pub returns-then-has_verb-3-clause-unwritten : goal.returns-then-has_verb-3-clause-unwritten
returns-then-has_verb-3-clause-unwritten g c = λ asked. not_asked _ (no_frames (codes "sources") (codes "actors") c.args.words.now refl (sym c.has_verb-3.ensures ∙ c.if-has_verb-3.true)) asked

pub returns-then-has_verb-3-clause-kept : goal.returns-then-has_verb-3-clause-kept
returns-then-has_verb-3-clause-kept g c = λ gone. is_there _ refl gone

pub returns-then-has_verb-3-clause-usage : goal.returns-then-has_verb-3-clause-usage
returns-then-has_verb-3-clause-usage g c =
    let verb = sym c.has_verb-3.ensures ∙ c.if-has_verb-3.true in (
      (λ e. (
        no_task (codes "sources") c.args.words.now refl refl verb,
        no_frames (codes "sources") (codes "batch") c.args.words.now refl verb,
        c.run_sources.ensures.usage.0 e,
        no_frames (codes "sources") (codes "actors") c.args.words.now refl verb,
        no_frames (codes "sources") (codes "check") c.args.words.now refl verb,
      )),
      (λ none. c.run_sources.ensures.usage.1 none.2),
    )

pub returns-then-has_verb-4-clause-ends : goal.returns-then-has_verb-4-clause-ends
returns-then-has_verb-4-clause-ends g c = rw (no_task (codes "check") c.args.words.now refl refl (sym c.has_verb-4.ensures ∙ c.if-has_verb-4.true)) tt

pub returns-then-has_verb-4-clause-batch : goal.returns-then-has_verb-4-clause-batch
returns-then-has_verb-4-clause-batch g c = rw (no_frames (codes "check") (codes "batch") c.args.words.now refl (sym c.has_verb-4.ensures ∙ c.if-has_verb-4.true)) tt

pub returns-then-has_verb-4-clause-sources : goal.returns-then-has_verb-4-clause-sources
returns-then-has_verb-4-clause-sources g c = rw (no_frames (codes "check") (codes "sources") c.args.words.now refl (sym c.has_verb-4.ensures ∙ c.if-has_verb-4.true)) tt

pub returns-then-has_verb-4-clause-actors : goal.returns-then-has_verb-4-clause-actors
returns-then-has_verb-4-clause-actors g c = rw (no_frames (codes "check") (codes "actors") c.args.words.now refl (sym c.has_verb-4.ensures ∙ c.if-has_verb-4.true)) tt

pub returns-then-has_verb-4-clause-check : goal.returns-then-has_verb-4-clause-check
returns-then-has_verb-4-clause-check g c = c.run_check.ensures.ends

pub returns-then-has_verb-4-clause-apart : goal.returns-then-has_verb-4-clause-apart
returns-then-has_verb-4-clause-apart g c = λ asked. sym c.in-Some-store.is

pub returns-then-has_verb-4-clause-unreported : goal.returns-then-has_verb-4-clause-unreported
returns-then-has_verb-4-clause-unreported g c = λ asked. c.run_check.ensures.unwritten

pub returns-then-has_verb-4-clause-unread : goal.returns-then-has_verb-4-clause-unread
returns-then-has_verb-4-clause-unread g c = λ work. no_work c.args.words.now (no_task (codes "check") c.args.words.now refl refl (sym c.has_verb-4.ensures ∙ c.if-has_verb-4.true)) work

pub returns-then-has_verb-4-clause-host_memory : goal.returns-then-has_verb-4-clause-host_memory
returns-then-has_verb-4-clause-host_memory g c = λ lacks none other. refused _ _ c.run_check.ensures.usage lacks other

pub returns-then-has_verb-4-clause-unwritten : goal.returns-then-has_verb-4-clause-unwritten
returns-then-has_verb-4-clause-unwritten g c = λ asked. not_asked _ (no_frames (codes "check") (codes "actors") c.args.words.now refl (sym c.has_verb-4.ensures ∙ c.if-has_verb-4.true)) asked

pub returns-then-has_verb-4-clause-kept : goal.returns-then-has_verb-4-clause-kept
returns-then-has_verb-4-clause-kept g c = λ gone. is_there _ refl gone

pub returns-then-has_verb-4-clause-usage : goal.returns-then-has_verb-4-clause-usage
returns-then-has_verb-4-clause-usage g c =
    let verb = sym c.has_verb-4.ensures ∙ c.if-has_verb-4.true in (
      (λ e. (
        no_task (codes "check") c.args.words.now refl refl verb,
        no_frames (codes "check") (codes "batch") c.args.words.now refl verb,
        no_frames (codes "check") (codes "sources") c.args.words.now refl verb,
        no_frames (codes "check") (codes "actors") c.args.words.now refl verb,
        c.run_check.ensures.usage.0 e,
      )),
      (λ none. c.run_check.ensures.usage.1 none.4),
    )

pub returns-clause-ends : goal.returns-clause-ends
returns-clause-ends g c = c.run.ensures.ends

pub returns-clause-batch : goal.returns-clause-batch
returns-clause-batch g c = rw (no_frames_not (codes "batch") c.args.words.now (sym c.has_verb-2.ensures ∙ c.if-has_verb-2.false)) tt

pub returns-clause-sources : goal.returns-clause-sources
returns-clause-sources g c = rw (no_frames_not (codes "sources") c.args.words.now (sym c.has_verb-3.ensures ∙ c.if-has_verb-3.false)) tt

pub returns-clause-actors : goal.returns-clause-actors
returns-clause-actors g c = rw (no_frames_not (codes "actors") c.args.words.now (sym c.has_verb.ensures ∙ c.if-has_verb.false)) tt

pub returns-clause-check : goal.returns-clause-check
returns-clause-check g c = rw (no_frames_not (codes "check") c.args.words.now (sym c.has_verb-4.ensures ∙ c.if-has_verb-4.false)) tt

pub returns-clause-apart : goal.returns-clause-apart
returns-clause-apart g c = λ asked. not_asked _ (no_frames_not (codes "check") c.args.words.now (sym c.has_verb-4.ensures ∙ c.if-has_verb-4.false)) asked

pub returns-clause-unreported : goal.returns-clause-unreported
returns-clause-unreported g c = λ asked. not_asked _ (no_frames_not (codes "check") c.args.words.now (sym c.has_verb-4.ensures ∙ c.if-has_verb-4.false)) asked

pub returns-clause-unread : goal.returns-clause-unread
returns-clause-unread g c = c.run.ensures.unread

pub returns-clause-host_memory : goal.returns-clause-host_memory
returns-clause-host_memory g c = λ lacks none other. c.run.ensures.host_memory lacks

pub returns-clause-unwritten : goal.returns-clause-unwritten
returns-clause-unwritten g c = λ asked. not_asked _ (no_frames_not (codes "actors") c.args.words.now (sym c.has_verb.ensures ∙ c.if-has_verb.false)) asked

pub returns-clause-kept : goal.returns-clause-kept
returns-clause-kept g c = λ gone. is_there _ refl gone

pub returns-clause-usage : goal.returns-clause-usage
returns-clause-usage g c = (
  (λ e. (
    c.run.ensures.usage.0 e,
    no_frames_not (codes "batch") c.args.words.now (sym c.has_verb-2.ensures ∙ c.if-has_verb-2.false),
    no_frames_not (codes "sources") c.args.words.now (sym c.has_verb-3.ensures ∙ c.if-has_verb-3.false),
    no_frames_not (codes "actors") c.args.words.now (sym c.has_verb.ensures ∙ c.if-has_verb.false),
    no_frames_not (codes "check") c.args.words.now (sym c.has_verb-4.ensures ∙ c.if-has_verb-4.false),
  )),
  (λ none. c.run.ensures.usage.1 none.0),
)
