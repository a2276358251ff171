use Rattle.balanced_tree.proofs.PlainLaws.{heard}
use Rattle.balanced_tree.proofs.rotation.change_from.Goals as goal

pub returns-then-is_alike-clause-hidden : goal.returns-then-is_alike-clause-hidden
returns-then-is_alike-clause-hidden g c = λ e. heard c.is_alike.ensures c.if-is_alike.true
