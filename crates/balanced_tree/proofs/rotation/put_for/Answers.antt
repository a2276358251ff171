use Rattle.balanced_tree.proofs.Moves.{put-read}
use Rattle.balanced_tree.proofs.rotation.put_for.Goals as goal

pub returns-clause-put : goal.returns-clause-put
returns-clause-put g c =
    put-read g.R.TreeRow.functions c.children_of-left.ensures.left c.children_of-left.ensures.right c.place_over-child.ensures.updates c.place_over-child.ensures.child c.change_from.ensures.hidden
