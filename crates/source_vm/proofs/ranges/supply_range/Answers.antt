use Rattle.std.proofs.Common.{ap, arith}
use Rattle.source_vm.specs.Table.{backings_of, loose_links_of}
use Rattle.source_vm.proofs.SupplyLaws.{IsSupplying-start, IsSupplying-step, IsSupplying-room, IsSupplying-end}
use Rattle.source_vm.proofs.ranges.supply_range.Goals as goal

pub loop-page-init : goal.loop-page-init
loop-page-init g c =
    IsSupplying-start (backings_of c.args.table.now) (loose_links_of c.args.table.now) c.args.pages.koid.0 _ c.args.pages.first c.args.pages.end _ c.requires.readable c.requires.inside c.requires.order
    c.requires.rows c.requires.free

pub supply_end-requires-clause-readable : goal.supply_end-requires-clause-readable
supply_end-requires-clause-readable g c = c.loop-page.invariant.readable

pub supply_end-requires-clause-page : goal.supply_end-requires-clause-page
supply_end-requires-clause-page g c = omega (arith, c.loop-page.invariant.way.inside, c.loop-page-test.true)

pub supply_end-requires-clause-room : goal.supply_end-requires-clause-room
supply_end-requires-clause-room g c =
    IsSupplying-room (backings_of c.args.table.now) (loose_links_of c.args.table.now) c.args.pages.koid.0 _ _ _ _ _ _ c.loop-page.invariant c.loop-page-test.true

pub loop-page-preserved : goal.loop-page-preserved
loop-page-preserved g c =
    IsSupplying-step (backings_of c.args.table.now) (loose_links_of c.args.table.now) c.args.pages.koid.0 _ _ _ _ _ _ _ _ c.loop-page.invariant c.loop-page-test.true
    c.supply_end.ensures.absent c.supply_end.ensures.inside
    (λ e. (ap g.P.PageStore.content (c.supply_end.ensures.other e), ap g.P.PageStore.spare (c.supply_end.ensures.other e)))

pub returns : goal.returns
returns g c =
    IsSupplying-end (backings_of c.args.table.now) (loose_links_of c.args.table.now) c.args.pages.koid.0 _ _ _ _ _ _ c.loop-page.invariant (omega arith)
