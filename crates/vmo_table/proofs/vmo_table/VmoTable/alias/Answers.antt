use Rattle.std.proofs.Common.{◌≡◌, Some, sym, ap, ◌∙◌, arith}
use Rattle.vm_base.specs.Entries.{with_key}
use Rattle.vmo_table.specs.declared.vmos.Vmo.{Vmo}
use Rattle.vmo_table.specs.Vmos.{vmos_in, lineage_of_vmo, lineages, keepers_in, MayGet}
use Rattle.vmo_table.specs.Table.{names_in}
use Rattle.vmo_table.proofs.EntryLaws.{names_in-put, vmo_there, from_ok}
use Rattle.vmo_table.proofs.CountLaws.{keepers-at, keepers-same}
use Rattle.vmo_table.proofs.NamedLaws.{names_fit, AreNamed-more}
use Rattle.vmo_table.proofs.SettledLaws.{may_get, lineages-got, AreChildren-got}
use Rattle.vmo_table.proofs.TableLaws.{rooms, IsVmoTable-is}
use Rattle.vmo_table.proofs.vmo_table.VmoTable.alias.Goals as goal

pub index-vmo-requires : goal.index-vmo-requires
index-vmo-requires c = vmo_there _ c.args.target.koid.0 (rw (← c.self.view_is) at c.requires.koid)

pub add_name-requires : goal.add_name-requires
unfolding vmos_in
add_name-requires c =
    let fit = names_fit _ _ c.self.invariant.named c.args.target.koid.0 c.index-vmo.result.now c.index-vmo.ensures in
    record { names = fit.0; slices = fit.1; references = fit.2 }

pub write_back-requires : goal.write_back-requires
unfolding vmos_in
write_back-requires c = (c.index-vmo.result.now, c.index-vmo.ensures)

-- the VMO has one name more
may : (c : goal.After-insert-named) → MayGet (vmos_in c.self.inside.vmos.entries) c.args.target.koid.0 c.add_name.result
unfolding vmos_in
may c = may_get _ _ c.index-vmo.result.now _ c.self.invariant.forest c.index-vmo.ensures (ap lineage_of_vmo c.add_name.ensures) (ap (λ (x : Vmo). x.children) c.add_name.ensures)

named : (c : goal.After-insert-named) → names_in c.insert-named.new.self.entries ≡ with_key (names_in c.self.inside.names.entries) c.args.name.0 c.args.target
named c =
    let room = rooms c.self.inside (rw (← c.self.view_is) at c.requires.room) in
    names_in-put _ _ c.args.name.0 c.args.target (from_ok c.insert-named.result (c.insert-named.ensures.succeeds room.0) c.insert-named.ensures.updates).0

pub returns-clause-names : goal.returns-clause-names
returns-clause-names c = rw (← c.self.view_is) (named c)

pub returns-clause-lineage : goal.returns-clause-lineage
returns-clause-lineage c = rw (← c.self.view_is) (ap lineages c.write_back.ensures ∙ lineages-got _ _ _ (may c))

pub returns-clause-keepers : goal.returns-clause-keepers
unfolding vmos_in
returns-clause-keepers c = rw (← c.self.view_is) (ap keepers_in c.write_back.ensures
    ∙ keepers-same _ _ c.add_name.result (keepers-at _ _ (Some c.index-vmo.result.now) c.index-vmo.ensures ∙ sym (ap (λ (x : Vmo). x.keepers) c.add_name.ensures)))

pub invariant_of-self : goal.invariant_of-self
unfolding vmos_in
invariant_of-self c =
    let more = c.add_name.ensures in
    IsVmoTable-is _ _ _ (named c) c.write_back.ensures
    (AreNamed-more _ _ c.args.name.0 c.args.target c.self.invariant.named c.add_name.result (omega arith) (rw (← c.self.view_is) at c.requires.name)
    (Some c.index-vmo.result.now) c.index-vmo.ensures (ap (λ (x : Vmo). x.names) more) (ap (λ (x : Vmo). x.slices) more) (ap (λ (x : Vmo). x.references) more))
    (may c).forest (AreChildren-got _ _ _ (may c) _ c.self.invariant.rows)
