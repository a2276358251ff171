use Rattle.vmo_ops.specs.Targets.{with_content}
use Rattle.vmo_ops.proofs.AskLaws.{Step-refused}
use Rattle.vmo_ops.proofs.reading.read_into.Goals as goal

pub returns-in-Err : goal.returns-in-Err
returns-in-Err g c = λ s name named. Step-refused (with_content (g.P.PageStore.content c.args.store.now) s) _ _ (c.in-Err.ensures s name named)
