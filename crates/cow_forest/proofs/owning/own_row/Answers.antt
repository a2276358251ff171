use Rattle.cow_forest.proofs.Words.{sym, ap, ◌∙◌, Holder, tag_in}
use Rattle.cow_fork.proofs.LeafLaws.{leaf-is}
use Rattle.cow_forest.proofs.OwningLaws.{owned-own}
use Rattle.cow_forest.proofs.owning.own_row.Goals as goal

pub returns-in-Frame : goal.returns-in-Frame
returns-in-Frame c =
    let page = c.requires.page in
    let leaf = leaf-is c.args.arena.now c.args.lists.now c.args.leaf.0 c.args.page page.node c.requires.exact.forest page page.visible.at in
    let own = owned-own leaf c.args.frames.now c.requires.exact c.requires.linked (Holder.Own c.args.row) c.in-Frame.tag c.requires.found (ap tag_in c.in-Frame.is) in
    record { owned = own.0; linked = c.requires.linked; row = λ room. own.1 }

pub own_zero-requires-clause-found : goal.own_zero-requires-clause-found
own_zero-requires-clause-found c = sym (ap Holder.Own c.in-Zero.is) ∙ c.requires.found
