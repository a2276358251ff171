use Rattle.vmo_table.specs.Table.{with_vmos}
use Rattle.page_store.specs.Flat.{flat_content}
use Rattle.checker_machine.proofs.wanting.region_wants.Goals as goal

pub returns-in-Allocate : goal.returns-in-Allocate
returns-in-Allocate c = rw (← c.region_command.ensures) (rw c.in-Allocate.is (λ s. c.allocate_wants.ensures (with_vmos s (flat_content c.args.pages.now) c.args.vmos.now)))

pub returns-in-Map : goal.returns-in-Map
returns-in-Map c = rw (← c.region_command.ensures) (rw c.in-Map.is c.map_wants.ensures)

pub returns-in-Unmap : goal.returns-in-Unmap
returns-in-Unmap c = rw (← c.region_command.ensures) (rw c.in-Unmap.is (λ s. c.unmap_wants.ensures (with_vmos s (flat_content c.args.pages.now) c.args.vmos.now)))

pub returns-in-Protect : goal.returns-in-Protect
returns-in-Protect c = rw (← c.region_command.ensures) (rw c.in-Protect.is (λ s. c.protect_wants.ensures (with_vmos s (flat_content c.args.pages.now) c.args.vmos.now)))

pub returns-in-List : goal.returns-in-List
returns-in-List c = rw (← c.region_command.ensures) (rw c.in-List.is (λ s. c.list_wants.ensures (with_vmos s (flat_content c.args.pages.now) c.args.vmos.now)))
