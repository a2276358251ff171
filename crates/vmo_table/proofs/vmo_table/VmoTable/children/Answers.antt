use Rattle.std.proofs.Common.{arith}
use Rattle.vmo_table.proofs.EntryLaws.{vmo_there}
use Rattle.vmo_table.proofs.TableLaws.{children_counted}
use Rattle.vmo_table.proofs.vmo_table.VmoTable.children.Goals as goal

pub index-vmo-requires : goal.index-vmo-requires
index-vmo-requires c = vmo_there _ c.args.koid.0 (rw (← c.self.view_is) at c.requires)

pub overflow_add-result : goal.overflow_add-result
overflow_add-result c = omega (arith, children_counted _ _ _ c.self.invariant c.index-vmo.ensures)

pub overflow_add-result-2 : goal.overflow_add-result-2
overflow_add-result-2 c = omega (arith, children_counted _ _ _ c.self.invariant c.index-vmo.ensures)

pub returns : goal.returns
returns c = rw (← c.self.view_is) (children_counted _ _ _ c.self.invariant c.index-vmo.ensures).0
