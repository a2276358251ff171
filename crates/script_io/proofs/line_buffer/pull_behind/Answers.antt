use Rattle.std.proofs.Common.{◌≡◌, ◌≤◌, length, take, subst, sym, arith, length-take}
use Rattle.std.specs.Result.{IfOk}
use Rattle.script_io.proofs.Windows.{read_behind}
use Rattle.script_io.proofs.line_buffer.pull_behind.Goals as goal

pub returns-clause-bytes : goal.returns-clause-bytes
returns-clause-bytes g c =
    let room : length (take c.min-room.result c.split_at_mut-behind.result.1.now) ≡ c.min-room.result = simp
    length-take (omega (arith, c.min-room.ensures)) in
    let size : length c.pull.new.buf ≡ c.min-room.result = omega (arith, c.pull.auto.buf, room) in
    read_behind _ _ c.pull.result c.split_at_mut-behind.result.0.now c.pull.new.buf _ c.args.from
    c.split_at_mut-behind.ensures.front_len
    (subst (λ n. IfOk c.pull.result (λ m. m ≤ n)) (sym c.pull.auto.buf) c.pull.ensures.count)
    (omega (arith, size, c.min-room.ensures, c.split_at_mut-behind.ensures.back_len)) c.pull.ensures.bytes
