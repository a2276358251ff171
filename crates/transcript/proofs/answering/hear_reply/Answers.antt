use Rattle.std.proofs.Common.{sym, subst, List, ℕ, ◌<◌, length}
use Rattle.std.specs.List.{AllByRecursion}
use Rattle.vm_model.specs.declared.reply.Reply.TheVariants as Reply
use Rattle.transcript.proofs.HearLaws.{host_apart, place_never, match_none, match_some, step_for, pins_heard, pins_bound, reply_heard}
use Rattle.transcript.proofs.answering.hear_reply.Goals as goal

pub returns-in_default : goal.returns-in_default
returns-in_default c =
    let none = match_none _ _ _ c.in_default.is c.in_ok-answer.ensures.step in
    record {
      heard = λ frames before pending stands e.
          place_never frames _ _ before pending c.args.call.now stands.stands e _ c.address_in-told.result (host_apart c.args.line.now c.requires.other) none.1 none.2 c.address_in-told.ensures none.3;
    }

pub hear_frames-requires : goal.hear_frames-requires
hear_frames-requires c =
    let step = match_some _ c.in-Some.answer _ _ c.in-Some.is c.in_ok-answer.ensures.step in
    let s = c.requires.stands in
    let low = pins_bound s.0 c.args.own.now _ s.1 c.args.call.now c.in-Pins.frames s.2 c.requires.gives (step_for _ _ _ c.in-Some.answer (Reply.Pins c.in-Pins.frames) c.in-Pins.is step) in
    subst (λ (ts : List ℕ). AllByRecursion (λ t. t < length c.args.own.now.numbers) ts) (sym c.as_slice.ensures.value) low

pub returns-in-Pins : goal.returns-in-Pins
returns-in-Pins c =
    let step = match_some _ c.in-Some.answer _ _ c.in-Some.is c.in_ok-answer.ensures.step in
    let pins = step_for _ _ _ c.in-Some.answer (Reply.Pins c.in-Pins.frames) c.in-Pins.is step in
    record {
      heard = λ frames before pending stands e.
          pins_heard frames c.args.own.now (record { machine = c.answer.new.self; numbers = c.hear_frames.new.numbers }) pending before _ c.args.call.now c.as_slice.result.now c.hear_frames.result c.ends_if.result stands e
          (rw c.as_slice.ensures.value pins) c.as_slice.ensures.few (host_apart c.args.line.now c.requires.other) c.hear_frames.ensures.heard c.hear_frames.ensures.len c.ends_if.ensures;
    }

pub returns-in_default-answer : goal.returns-in_default-answer
returns-in_default-answer c =
    let answer = c.in-Some.answer in
    let ensures = c.in_ok-answer.ensures in
    let step = match_some _ answer _ _ c.in-Some.is ensures.step in
    record {
      heard = λ frames before pending stands e.
          reply_heard frames c.args.own.now (record { machine = c.answer.new.self; numbers = c.forget.new.numbers }) pending before _ c.args.call.now answer c.address_in-told.result c.args.freed.now
          c.hear_answer.result stands e c.in_default-answer.not-Pins (match_some _ answer _ _ c.in-Some.is ensures.own) step (host_apart c.args.line.now c.requires.other) c.address_in-told.ensures
          (match_some _ answer _ _ c.in-Some.is ensures.place) (c.requires.freed stands.stands.good) c.forget.ensures.cleared c.forget.ensures.len c.hear_answer.ensures;
    }
