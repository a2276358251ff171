use Rattle.cow_fork.proofs.LeafLaws.{leaf-is}
use Rattle.cow_forest.proofs.OwningLaws.{bare-own, unowned, forked-taken, owned-forked, linked-forked}
use Rattle.cow_forest.proofs.owning.own_found.Goals as goal

pub fork_holder-tag-requires-clause-unowned : goal.fork_holder-tag-requires-clause-unowned
fork_holder-tag-requires-clause-unowned c =
    let page = c.requires.page in
    let leaf = leaf-is c.args.arena.now c.args.lists.now c.args.leaf.0 c.args.page page.node c.requires.exact.forest page page.visible.at in
    unowned leaf c.args.frames.now c.requires.exact c.requires.linked _ c.requires.found (bare-own _ c.requires.bare)

pub set_backlink-requires : goal.set_backlink-requires
set_backlink-requires c =
    let leaf = leaf-is c.args.arena.now c.args.lists.now c.args.leaf.0 c.args.page c.look.result.now c.requires.exact.forest c.requires.page c.look.ensures in
    forked-taken leaf c.args.frames.now c.requires.exact c.requires.linked _ _ c.fork_holder-tag.new.frames c.fork_holder-tag.result c.fork_holder-tag.ensures.owned
    c.fork_holder-tag.ensures.row

pub returns : goal.returns
returns c =
    let leaf = leaf-is c.args.arena.now c.args.lists.now c.args.leaf.0 c.args.page c.look.result.now c.requires.exact.forest c.requires.page c.look.ensures in
    let forked = c.fork_holder-tag.ensures in
    record {
      owned = owned-forked leaf c.args.frames.now c.requires.exact c.requires.linked _ _ c.set_backlink.new.self c.fork_holder-tag.result forked.owned forked.row
          c.set_backlink.ensures.frames c.set_backlink.ensures.taken;
      linked = linked-forked leaf c.args.frames.now c.requires.exact c.requires.linked _ _ c.set_backlink.new.self c.fork_holder-tag.result forked.owned forked.row
          forked.stood forked.links c.set_backlink.ensures.links;
      row = λ room. forked.row;
    }
