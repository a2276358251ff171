use Rattle.slab.specs.Slab.{get}
use Rattle.pair_map.specs.Maps.{values_of}
use Rattle.fault.specs.inside.Pages.{link_numbers}
use Rattle.fault.proofs.EmptyLaws.{empty-rows}
use Rattle.fault.proofs.PageLaws.{entry-none, rows-bare}
use Rattle.fault.proofs.page_map.PageMap.is_empty.Goals as goal

pub returns : goal.returns
unfolding link_numbers
returns c =
    let empty = empty-rows c.self.inside.rows.rows c.len.result c.len.ensures in
    rw (← c.self.view_is) (
      λ zero a p. entry-none (values_of c.self.inside.rows) (get c.self.inside.blocks) c.self.invariant a p (empty.0 zero a _),
      λ none. empty.1 (rows-bare (values_of c.self.inside.rows) (get c.self.inside.blocks) c.self.invariant none),
    )
