use Rattle.std.proofs.Common.{◌+◌, arith}
use Rattle.vm_base.specs.declared.limits.TheConstants.{VMO_PAGES}
use Rattle.cow_forest.specs.Store.{forest_content}
use Rattle.cow_forest.proofs.ZeroedLaws.{node-there}
use Rattle.checks.proofs.WholeLaws.{whole_pages, still_there}
use Rattle.checks.proofs.calls.zeroing.zero_all.Goals as goal

pub zero_range-requires-clause-range : goal.zero_range-requires-clause-range
zero_range-requires-clause-range g c = omega (arith, whole_pages (forest_content c.args.tree.now) c.args.v.0 c.requires.vmo)

pub next_held-requires : goal.next_held-requires
next_held-requires g c = still_there _ _ c.args.v.0 0 (0 + VMO_PAGES) VMO_PAGES c.zero_range.ensures.content c.requires.vmo

-- a step for each of the two rows, and one for the only node
pub returns-then-is_none : goal.returns-then-is_none
returns-then-is_none g c =
    let node = node-there c.args.tree.now c.args.v.0 _ c.requires.vmo in
    omega (arith, c.zero_range.ensures.cost node.0 node.1, c.rows-rows.ensures.reached node.0 0 (0 + VMO_PAGES), c.hidden-hidden.ensures.deep c.args.v.0 node.0 node.1)

pub returns-else-is_none : goal.returns-else-is_none
returns-else-is_none g c =
    let node = node-there c.args.tree.now c.args.v.0 _ c.requires.vmo in
    omega (arith, c.zero_range.ensures.cost node.0 node.1, c.rows-rows.ensures.reached node.0 0 (0 + VMO_PAGES), c.hidden-hidden.ensures.deep c.args.v.0 node.0 node.1)
