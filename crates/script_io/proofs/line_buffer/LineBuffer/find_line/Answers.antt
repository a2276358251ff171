use Rattle.std.proofs.Common.{◌≤◌, length, ap, arith}
use Rattle.script_io.specs.Reader.{Window}
use Rattle.script_io.proofs.Windows.{found_line, all_seen}
use Rattle.script_io.proofs.line_buffer.LineBuffer.find_line.Goals as goal

pub returns-in-Some : goal.returns-in-Some
returns-in-Some c =
    let held = c.self.inside in
    let within : held.fresh_end ≤ length held.bytes.items = omega (arith, held.bytes.ok.0) in
    record {
      found = found_line c.deref.result.now held.bytes.items c.args.self.now.seen c.args.self.now.fresh
          held.seen_start held.fresh_start held.fresh_end c.in-Some.place c.deref.ensures.value
          (ap (λ (w : Window). w.seen) c.self.view_is) (ap (λ (w : Window). w.fresh) c.self.view_is)
          (omega arith) (omega arith) within c.in-Some.ensures;
    }

pub returns-in-None : goal.returns-in-None
returns-in-None c =
    let held = c.self.inside in
    record {
      found = all_seen c.args.self.now held.bytes.items c.deref.result.now held.line_start held.line_end
          held.seen_start held.fresh_start held.fresh_end (omega arith) (omega arith) c.deref.ensures.value
          c.self.view_is c.in-None.ensures;
    }
