use Rattle.cow_fork.proofs.ShareLaws.{shared}
use Rattle.cow_fork.proofs.sharing.share.Goals as goal

pub returns-clause-ok : goal.returns-clause-ok
returns-clause-ok c =
    let leaf = rw c.node-node.ensures at c.requires.leaf in
    shared _ _ _ _ _ c.node-node.result c.in_ok-pair.pair _ _ _ _ (record {
      visible = record { at = c.node-node.ensures; koid = leaf.0 };
      window = leaf.1;
      inside = c.requires.seen;
      new_hidden = c.in_ok-pair.ensures.new.0;
      new_child = c.in_ok-pair.ensures.new.1;
      apart = c.in_ok-pair.ensures.new.2;
      nodes = c.in_ok-pair.ensures.nodes _ c.node-node.ensures;
      lists = c.in_ok-pair.ensures.lists;
      hidden = c.in_ok-pair.ensures.hidden;
      visible_more = c.in_ok-pair.ensures.visible;
      forest = c.add_pair.ensures.forest;
      slots = c.split_rows.ensures.slots;
      row_count = c.split_rows.ensures.count;
      spare = c.split_rows.ensures.spare;
    }) c.requires.exact.0 c.requires.exact.1
