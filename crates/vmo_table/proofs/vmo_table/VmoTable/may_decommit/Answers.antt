use Rattle.std.proofs.Common.{false, refl, arith}
use Rattle.std.proofs.lemmas.Grind.{common_steps}
use Rattle.vmo_table.proofs.EntryLaws.{vmo_there}
use Rattle.vmo_table.proofs.TableLaws.{decommit_counted}
use Rattle.vmo_table.proofs.vmo_table.VmoTable.may_decommit.Goals as goal

pub index-vmo-requires : goal.index-vmo-requires
index-vmo-requires c = vmo_there _ c.args.koid.0 (rw (← c.self.view_is) at c.requires)

pub returns-then-vmo-eq0 : goal.returns-then-vmo-eq0
returns-then-vmo-eq0 c = rw (← c.self.view_is) (decommit_counted _ _ _ c.self.invariant c.index-vmo.ensures _
    (rw (c.in-Created.is, c.if-vmo-eq0.true) refl))

pub returns-else-vmo-eq0 : goal.returns-else-vmo-eq0
returns-else-vmo-eq0 c = rw (← c.self.view_is) (decommit_counted _ _ _ c.self.invariant c.index-vmo.ensures _
    (rw c.in-Created.is (grind (arith, common_steps, c.if-vmo-eq0.false))))

pub returns-in-Snapshot : goal.returns-in-Snapshot
returns-in-Snapshot c = rw (← c.self.view_is) (decommit_counted _ _ _ c.self.invariant c.index-vmo.ensures false (rw c.in-Snapshot.is refl))
