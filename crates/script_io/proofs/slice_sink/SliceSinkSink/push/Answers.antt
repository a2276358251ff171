use Rattle.std.proofs.Common.{arith}
use Rattle.std.proofs.lemmas.List.{length-take-le}
use Rattle.script_io.proofs.Lending.{behind_more, copied_fits}
use Rattle.script_io.proofs.slice_sink.SliceSinkSink.push.Goals as goal

pub invariant_of-self-2 : goal.invariant_of-self-2
invariant_of-self-2 c =
    let s = c.args.self.now in
    record { fits = omega arith; as_many = s.as_many; behind = behind_more s.out.now s.before.bytes s.taken c.min-n.result s.behind }

pub invariant_of-self-3 : goal.invariant_of-self-3
invariant_of-self-3 c =
    let s = c.args.self.now in
    let now = copied_fits s.out.now s.before.bytes _ _ s.taken c.min-n.result c.copy_at.ensures (length-take-le _ _ (omega arith)) (omega arith)
    s.as_many s.behind in
    record { fits = now.0; as_many = now.1; behind = now.2 }
