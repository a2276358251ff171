use Rattle.std.proofs.Common.{arith, ap, sym}
use Rattle.script_io.specs.Memory.{RemainingSource}
use Rattle.script_io.proofs.Moving.{given_front}
use Rattle.script_io.proofs.mem_source.MemSourceSource.pull.Goals as goal

pub returns-clause-bytes : goal.returns-clause-bytes
returns-clause-bytes c =
    let left = ap (λ (s : RemainingSource). s.remaining) (sym c.self.view_is) in
    given_front c.self.inside.bytes.items c.deref.result.now c.args.self.now.remaining c.copy_front-n.new.to
    c.self.inside.at c.copy_front-n.result c.self.inside.piece _
    (omega (arith, c.self.inside.bytes.ok.0)) c.self.invariant.1 c.requires c.deref.ensures.value left
    c.copy_front-n.ensures.count c.copy_front-n.ensures.bytes
