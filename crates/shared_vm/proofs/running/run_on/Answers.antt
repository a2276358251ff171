use Rattle.std.proofs.Common.{sym, ◌∙◌}
use Rattle.shared_vm.proofs.OutcomeLaws.{ActorsEndAs-early, ActorsEndAs-gone, ActorsEndAs-acted, status_of-fault, status_of-no_read, status_of-ran}
use Rattle.shared_vm.proofs.running.run_on.Goals as goal

pub returns-in-Err-clause-ends : goal.returns-in-Err-clause-ends
returns-in-Err-clause-ends g c =
    ActorsEndAs-early c.in-Err.status c.args.empty.frames _ _ _ _ c.in-Err.ensures.read c.requires.empty

pub returns-in_default-clause-ends : goal.returns-in_default-clause-ends
returns-in_default-clause-ends g c = ActorsEndAs-gone c.args.empty.frames _ _ _ _ c.in-Ok.ensures.read

pub returns-clause-ends : goal.returns-clause-ends
returns-clause-ends g c =
    ActorsEndAs-acted g.P.PageStore.content c.act_all-room.result c.into_store.result c.notes.result.now.deeds c.args.empty.frames c.in-Ok.scripts _ _ _ _
    c.in-Ok.ensures.read (c.act_all-room.ensures.frames ∙ c.in-Ok-with_notes.ensures.frames) (c.act_all-room.ensures.lists ∙ c.in-Ok-with_notes.ensures.lists)
    c.act_all-room.ensures.legal c.act_all-room.ensures.whole c.notes.ensures.journal c.into_store.ensures c.push_journal.result
    c.status_of-status.result c.status_of-status.ensures c.push_journal.ensures.ok c.push_journal.ensures.err

pub returns-clause-write_cause : goal.returns-clause-write_cause
returns-clause-write_cause g c = λ e.
    status_of-fault c.push_journal.result c.push_journal.ensures.cause.failed (sym c.status_of-status.ensures ∙ e)

pub returns-clause-read_cause : goal.returns-clause-read_cause
returns-clause-read_cause g c = λ e. status_of-no_read c.push_journal.result (sym c.status_of-status.ensures ∙ e)

pub returns-clause-unwritten : goal.returns-clause-unwritten
returns-clause-unwritten g c = λ done fault. status_of-ran c.push_journal.result _ c.status_of-status.ensures done fault
