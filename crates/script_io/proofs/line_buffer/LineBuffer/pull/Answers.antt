use Rattle.std.proofs.Common.{◌≡◌, ◌-◌, ◌≤◌, ◌<◌, length, ap, ◌∙◌, arith}
use Rattle.script_io.specs.Reader.{Window}
use Rattle.script_io.proofs.Windows.{all_moved, held_size, pulled_before, pulled_behind}
use Rattle.script_io.proofs.Moving.{on_err}
use Rattle.script_io.proofs.line_buffer.LineBuffer.pull.Goals as goal

pub returns-in_err-n-clause-seen : goal.returns-in_err-n-clause-seen
returns-in_err-n-clause-seen g c =
    let held = c.self.inside in
    let new = c.move_to_front.new.bytes in
    let within : held.fresh_end ≤ length held.bytes.items = omega (arith, held.bytes.ok.0) in
    let moved = all_moved c.args.self.now held.bytes.items new.items held.line_start held.line_end held.seen_start
    held.fresh_start held.fresh_end (omega arith) (omega arith) within c.move_to_front.ensures.moved
    c.self.view_is in
    pulled_before new.items c.as_mut_slice.result.now c.pull_behind.new.bytes (held.fresh_end - held.seen_start) 0
    (held.fresh_start - held.seen_start) new.len c.as_mut_slice.ensures.value c.in_err-n.ensures.front
    (omega (arith, c.pull_behind.auto.bytes, c.as_mut_slice.ensures.len, new.ok.0)) (omega arith)
    ∙ ap (λ (w : Window). w.seen) moved

pub returns-in_err-n-clause-err : goal.returns-in_err-n-clause-err
returns-in_err-n-clause-err g c =
    let held = c.self.inside in
    let new = c.move_to_front.new.bytes in
    let within : held.fresh_end ≤ length held.bytes.items = omega (arith, held.bytes.ok.0) in
    let moved = all_moved c.args.self.now held.bytes.items new.items held.line_start held.line_end held.seen_start
    held.fresh_start held.fresh_end (omega arith) (omega arith) within c.move_to_front.ensures.moved
    c.self.view_is in
    on_err c.from_residual.result (
      pulled_before new.items c.as_mut_slice.result.now c.pull_behind.new.bytes (held.fresh_end - held.seen_start)
          (held.fresh_start - held.seen_start) (held.fresh_end - held.seen_start) new.len c.as_mut_slice.ensures.value
          c.in_err-n.ensures.front
          (omega (arith, c.pull_behind.auto.bytes, c.as_mut_slice.ensures.len, new.ok.0)) (omega arith)
          ∙ ap (λ (w : Window). w.fresh) moved,
      c.in_err-n.ensures.bytes,
    )

pub returns-clause-seen : goal.returns-clause-seen
returns-clause-seen g c =
    let held = c.self.inside in
    let new = c.move_to_front.new.bytes in
    let within : held.fresh_end ≤ length held.bytes.items = omega (arith, held.bytes.ok.0) in
    let moved = all_moved c.args.self.now held.bytes.items new.items held.line_start held.line_end held.seen_start
    held.fresh_start held.fresh_end (omega arith) (omega arith) within c.move_to_front.ensures.moved
    c.self.view_is in
    pulled_before new.items c.as_mut_slice.result.now c.pull_behind.new.bytes (held.fresh_end - held.seen_start) 0
    (held.fresh_start - held.seen_start) new.len c.as_mut_slice.ensures.value c.in_ok-n.ensures.front
    (omega (arith, c.pull_behind.auto.bytes, c.as_mut_slice.ensures.len, new.ok.0)) (omega arith)
    ∙ ap (λ (w : Window). w.seen) moved

pub returns-clause-grows : goal.returns-clause-grows
returns-clause-grows g c =
    let held = c.self.inside in
    let new = c.move_to_front.new.bytes in
    let within : held.fresh_end ≤ length held.bytes.items = omega (arith, held.bytes.ok.0) in
    let moved = all_moved c.args.self.now held.bytes.items new.items held.line_start held.line_end held.seen_start
    held.fresh_start held.fresh_end (omega arith) (omega arith) within c.move_to_front.ensures.moved
    c.self.view_is in
    let size = held_size c.args.self.now held.bytes.items held.line_start held.line_end held.seen_start
    held.fresh_start held.fresh_end (omega arith) (omega arith) within c.self.view_is in
    let whole : length c.pull_behind.new.bytes ≡ new.len = omega
    (arith, c.pull_behind.auto.bytes, c.as_mut_slice.ensures.len, new.ok.0) in
    let room : held.fresh_end - held.seen_start < length c.pull_behind.new.bytes = omega
    (arith, whole, size, c.requires.room, c.move_to_front.ensures.len) in
    pulled_behind new.items c.as_mut_slice.result.now c.pull_behind.new.bytes c.args.self.now.fresh
    (held.fresh_end - held.seen_start) (held.fresh_start - held.seen_start) c.in_ok-n.n new.len _ _
    c.as_mut_slice.ensures.value c.in_ok-n.ensures.front
    whole (omega arith) (ap (λ (w : Window). w.fresh) moved)
    (omega (arith, c.pull_behind.auto.bytes, c.in_ok-n.ensures.room)) room c.in_ok-n.ensures.bytes
