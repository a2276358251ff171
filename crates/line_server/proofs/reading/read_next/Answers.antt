use Rattle.std.proofs.Common.{refl, sym, ◌∙◌}
use Rattle.script_io.specs.declared.line_reader.Fetch.TheVariants.{Line, TooLong, End, Fault, Limit}
use Rattle.script_io.specs.declared.status.Status.TheVariants.{Done, ReadFault, ScriptLimit}
use Rattle.line_server.proofs.Served.{Completes-end, StopsReading-there, ReachesLimit-there, way-after}
use Rattle.line_server.proofs.Answered.{IsFetched-line, IsFetched-long, few-before, ready-after, falls-after, halt-none, halt-error, other_end, next_of, holds_of, count_at_end}
use Rattle.line_server.proofs.reading.read_next.Goals as goal

pub returns-in-End : goal.returns-in-End
returns-in-End g c = record {
  way = λ limit source_old start s.
      let f = c.in-End.ensures.fetches s.pending s.still in
      Completes-end g.T.Turn.turns limit c.args.lines.now c.next.new.self source_old _ _ start _ s f.part f.consumes f.taken c.in-End.ensures.limit
      (f.still.at_end f.fetched.2) f.fetched.0;
  once = λ pending still. (End, c.in-End.ensures.fetches pending still);
  holds = tt;
  ready = tt;
  few = λ e.
      let ready = c.requires.ready in
      let f = c.in-End.ensures.fetches ready.pending ready.still in
      count_at_end _ _ _ _ _ _ _ ready.koids f.taken f.fetched.4 c.in-End.ensures.limit;
  limit = c.in-End.ensures.limit;
  falls = tt;
  later = c.in-End.ensures.later;
  cause = λ e. other_end Done ReadFault refl e;
}

pub returns-in-Fault : goal.returns-in-Fault
returns-in-Fault g c = record {
  way = λ limit source_old start s.
      let f = c.in-Fault.ensures.fetches s.pending s.still in
      StopsReading-there g.T.Turn.turns limit c.args.lines.now c.next.new.self source_old _ _ start _ s f.part f.consumes f.taken c.in-Fault.ensures.limit
      f.fetched.1 (λ e. (c.in-Fault.ensures.ended e).2 refl) f.fetched.3;
  once = λ pending still. (Fault, c.in-Fault.ensures.fetches pending still);
  holds = tt;
  ready = tt;
  few = λ e. other_end ReadFault Done refl e;
  limit = c.in-Fault.ensures.limit;
  falls = tt;
  later = c.in-Fault.ensures.later;
  cause = λ e. c.in-Fault.ensures.fault refl;
}

pub returns-in-Limit : goal.returns-in-Limit
returns-in-Limit g c = record {
  way = λ limit source_old start s.
      let f = c.in-Limit.ensures.fetches s.pending s.still in
      ReachesLimit-there g.T.Turn.turns limit c.args.lines.now c.next.new.self source_old _ _ start _ s f.part f.consumes f.taken c.in-Limit.ensures.limit
      f.fetched.1.no_feed (λ e. (c.in-Limit.ensures.ended e).1) f.fetched.3;
  once = λ pending still. (Limit, c.in-Limit.ensures.fetches pending still);
  holds = tt;
  ready = tt;
  few = λ e. other_end ScriptLimit Done refl e;
  limit = c.in-Limit.ensures.limit;
  falls = tt;
  later = c.in-Limit.ensures.later;
  cause = λ e. other_end ScriptLimit ReadFault refl e;
}

pub take-requires-clause-few : goal.take-requires-clause-few
take-requires-clause-few g c =
    let ready = c.requires.ready in
    let f = c.in-Line.ensures.fetches ready.pending ready.still in
    few-before c.args.lines.now c.next.new.self _ _ c.line.result.now _ ready (IsFetched-line _ _ _ _ _ _ f c.line.ensures.bytes) c.in-Line.ensures.limit _ c.requires.limit

pub returns-in-Line : goal.returns-in-Line
returns-in-Line g c =
    let ready = c.requires.ready in
    let line = c.line.result.now in
    let f = IsFetched-line c.args.lines.now c.next.new.self _ _ ready.pending line (c.in-Line.ensures.fetches ready.pending ready.still) c.line.ensures.bytes in
    let same = c.in-Line.ensures.limit in
    let e = c.halt.ensures in
    record {
      way = λ limit source_old start s.
          rw e (way-after g.T.Turn.turns limit c.args.lines.now c.next.new.self source_old _ _ start _ _ line s
          (IsFetched-line _ _ _ _ _ _ (c.in-Line.ensures.fetches s.pending s.still) c.line.ensures.bytes) same (λ e. (c.in-Line.ensures.ended e).1)
          c.take.result c.take.ensures.taken);
      once = λ pending still. (Line, c.in-Line.ensures.fetches pending still);
      holds = rw e (halt-none _ c.take.result (holds_of _ _ c.take.result c.take.ensures.next));
      ready = rw e (ready-after c.args.lines.now c.next.new.self _ _ line _ ready f same c.take.result _ (next_of _ _ c.take.result c.take.ensures.next));
      few = λ is. halt-error c.take.result Done (sym e ∙ is);
      limit = same;
      falls = rw e (falls-after c.args.lines.now c.next.new.self _ _ line _ ready f same c.take.result);
      later = c.in-Line.ensures.later;
      cause = λ is. halt-error c.take.result ReadFault (sym e ∙ is);
    }

pub pass-requires-clause-few : goal.pass-requires-clause-few
pass-requires-clause-few g c =
    let ready = c.requires.ready in
    let f = c.in-TooLong.ensures.fetches ready.pending ready.still in
    few-before c.args.lines.now c.next.new.self _ _ f.fetched.0 _ ready (IsFetched-long _ _ _ _ _ f) c.in-TooLong.ensures.limit _ c.requires.limit

pub returns-in-TooLong : goal.returns-in-TooLong
returns-in-TooLong g c =
    let ready = c.requires.ready in
    let first = c.in-TooLong.ensures.fetches ready.pending ready.still in
    let line = first.fetched.0 in
    let f = IsFetched-long c.args.lines.now c.next.new.self _ _ ready.pending first in
    let same = c.in-TooLong.ensures.limit in
    let e = c.halt-in-TooLong.ensures in
    record {
      way = λ limit source_old start s.
          let long = c.in-TooLong.ensures.fetches s.pending s.still in
          rw e (way-after g.T.Turn.turns limit c.args.lines.now c.next.new.self source_old _ _ start _ _ long.fetched.0 s (IsFetched-long _ _ _ _ _ long) same
          (λ e. (c.in-TooLong.ensures.ended e).1) c.pass.result (c.pass.ensures.taken long.fetched.0 long.fetched.2));
      once = λ pending still. (TooLong, c.in-TooLong.ensures.fetches pending still);
      holds = rw e (halt-none _ c.pass.result (holds_of _ _ c.pass.result c.pass.ensures.next));
      ready = rw e (ready-after c.args.lines.now c.next.new.self _ _ line _ ready f same c.pass.result _ (next_of _ _ c.pass.result c.pass.ensures.next));
      few = λ is. halt-error c.pass.result Done (sym e ∙ is);
      limit = same;
      falls = rw e (falls-after c.args.lines.now c.next.new.self _ _ line _ ready f same c.pass.result);
      later = c.in-TooLong.ensures.later;
      cause = λ is. halt-error c.pass.result ReadFault (sym e ∙ is);
    }
