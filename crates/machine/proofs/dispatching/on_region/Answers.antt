use Rattle.machine.proofs.dispatching.on_region.Goals as goal

pub returns-in-Create-clause-does : goal.returns-in-Create-clause-does
returns-in-Create-clause-does g c = rw (← c.region_command.ensures, c.in-Create.is) (c.root_create.ensures (g.P.PageStore.content c.args.pages.now))

pub returns-in-Protect-clause-does : goal.returns-in-Protect-clause-does
returns-in-Protect-clause-does g c = rw (← c.region_command.ensures, c.in-Protect.is) (c.vmar_protect.ensures (g.P.PageStore.content c.args.pages.now))

pub returns-in-List-clause-does : goal.returns-in-List-clause-does
returns-in-List-clause-does g c = rw (← c.region_command.ensures, c.in-List.is) (c.list_maps.ensures (g.P.PageStore.content c.args.pages.now))

pub returns-in_err-answer-in-Allocate-clause-does : goal.returns-in_err-answer-in-Allocate-clause-does
returns-in_err-answer-in-Allocate-clause-does g c = rw (c.from_residual.ensures, ← c.region_command.ensures, c.in-Allocate.is) (c.in_err-answer-in-Allocate.ensures.does (g.P.PageStore.content c.args.pages.now))

pub returns-in_ok-answer-in-Allocate-clause-does : goal.returns-in_ok-answer-in-Allocate-clause-does
returns-in_ok-answer-in-Allocate-clause-does g c = rw (← c.region_command.ensures, c.in-Allocate.is) (c.in_ok-answer-in-Allocate.ensures.does (g.P.PageStore.content c.args.pages.now))

pub returns-in-Map-clause-place : goal.returns-in-Map-clause-place
returns-in-Map-clause-place g c = rw (← c.region_command.ensures, c.in-Map.is) c.vmar_map.ensures.place
