use Rattle.cow_forest.proofs.Words.{forest_of}
use Rattle.cow_forest.proofs.ContentLaws.{page-found, page-at}
use Rattle.cow_forest.proofs.OwnedLaws.{room-own, store-owned, owns, owned-row}
use Rattle.cow_forest.proofs.JumpKeptLaws.{jumps-rows}
use Rattle.cow_forest.proofs.forest.CowForestPageStore.own.Goals as goal

pub get-node-requires : goal.get-node-requires
get-node-requires c = page-found (forest_of c.self.inside) c.self.invariant.store c.args.v.0 c.args.page (rw (← c.self.view_is) at c.requires.page)

pub own_page-requires-clause-page : goal.own_page-requires-clause-page
own_page-requires-clause-page c =
    (page-at (forest_of c.self.inside) c.self.invariant.store c.args.v.0 c.args.page _ (rw (← c.self.view_is) at c.requires.page) c.get-node.ensures).page

pub own_page-requires-clause-room : goal.own_page-requires-clause-room
own_page-requires-clause-room c =
    room-own (forest_of c.self.inside) c.self.invariant.store c.args.v.0 c.args.page (rw (← c.self.view_is) at c.requires.page) _ c.get-node.ensures (rw (← c.self.view_is) at c.requires.room)

pub invariant_of-self : goal.invariant_of-self
invariant_of-self c =
    record {
      store = store-owned (forest_of c.self.inside) c.self.invariant.store c.args.v.0 c.args.page (rw (← c.self.view_is) at c.requires.page) _ c.get-node.ensures _ _ _ c.own_page.ensures.owned
          c.own_page.ensures.linked;
      jumps = jumps-rows (forest_of c.self.inside) c.self.invariant.store c.own_page.new.lists c.args.v.0 c.get-node.result.0
          (c.self.invariant.store.named c.args.v.0 c.get-node.result c.get-node.ensures) c.own_page.ensures.owned.rows c.self.inside.next c.self.inside.jumps c.self.invariant.jumps;
      founders = c.self.invariant.founders;
    }

pub returns-clause-owns : goal.returns-clause-owns
returns-clause-owns c =
    rw (← c.self.view_is) (owns (forest_of c.self.inside) c.self.invariant.store c.args.v.0 c.args.page (rw (← c.self.view_is) at c.requires.page) _ c.get-node.ensures _ _ _
    c.own_page.ensures.owned c.own_page.ensures.linked)

pub returns-clause-row : goal.returns-clause-row
returns-clause-row c =
    rw (← c.self.view_is) (owned-row (forest_of c.self.inside) c.self.invariant.store c.args.v.0 c.args.page (rw (← c.self.view_is) at c.requires.page) _ c.get-node.ensures _ _ _
    c.own_page.ensures.owned c.own_page.ensures.linked c.own_page.ensures.row)
