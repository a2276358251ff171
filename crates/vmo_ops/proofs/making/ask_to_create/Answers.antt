use Rattle.std.proofs.Common.{arith}
use Rattle.vmo_ops.proofs.AskLaws.{create_refused, create_fits}
use Rattle.vmo_ops.proofs.making.ask_to_create.Goals as goal

pub returns-in-None : goal.returns-in-None
returns-in-None c = λ s name resizable closed. create_refused s name c.args.size resizable closed (omega (arith, c.in-None.ensures.none))

pub returns-in-Some : goal.returns-in-Some
returns-in-Some c = (
  c.in-Some.ensures.some.0,
  c.in-Some.ensures.some.2,
  λ s name resizable closed. create_fits s name c.args.size resizable closed (omega (arith, c.in-Some.ensures.some.1)),
)
