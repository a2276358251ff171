use Rattle.std.proofs.Common.{◌≡◌, ℕ, Option, None, refl, sym, ap, subst, ◌∙◌, arith}
use Rattle.std.specs.Option.{option_map}
use Rattle.vm_base.specs.Entries.{with_key}
use Rattle.vm_model.specs.declared.names.NameKind.TheVariants.{Owner}
use Rattle.vm_model.specs.declared.names.Target.{Target}
use Rattle.vm_base.proofs.EntryLaws.{passes-none}
use Rattle.vm_model.specs.Naming.Names.{has_parent}
use Rattle.vmo_table.specs.declared.vmos.Vmo.{Vmo}
use Rattle.vmo_table.specs.Vmos.{koid_number, vmos_in, lineage_of_vmo, lineages, keepers_in, adopted}
use Rattle.vmo_table.specs.Table.{names_in}
use Rattle.vmo_table.specs.inside.ChildRows.{AreChildren}
use Rattle.vmo_table.proofs.EntryLaws.{names_in-put, vmos_in-put, vmo_count_le, from_ok}
use Rattle.vmo_table.proofs.CountLaws.{keepers-at, keepers-same, keepers-adopted}
use Rattle.vmo_table.proofs.VmosLaws.{lineages-none, lineages-adopted, lineages-with_key}
use Rattle.vmo_table.proofs.ForestLaws.{entered_fits, IsVmoForest-entered}
use Rattle.vmo_table.proofs.NamedLaws.{AreNamed-adopted, AreNamed-more}
use Rattle.vmo_table.proofs.TableLaws.{rooms, parent_at, IsVmoTable-is}
use Rattle.vmo_table.proofs.MovedLaws.{AreChildren-entered, no_row_under}
use Rattle.vmo_table.proofs.vmo_table.VmoTable.enter.Goals as goal

abbrev target : goal.After-count_children → Target
target c = record { koid = c.args.koid; first = 0; limit = None; kind = Owner; may_write = c.args.may_write; may_resize = c.args.resizable }

abbrev vmo : goal.After-count_children → Vmo
vmo c = record { resizable = c.args.resizable; origin = c.args.origin; parent = c.args.parent; names = 1; slices = 0; references = 0; children = 0; keepers = 0 }

-- how the maps were left
named : (c : goal.After-count_children) → names_in c.insert-named.new.self.entries ≡ with_key (names_in c.self.inside.names.entries) c.args.name.0 (target c)
named c =
    let room = rooms c.self.inside (rw (← c.self.view_is) at c.requires.room) in
    names_in-put _ _ c.args.name.0 (target c) (from_ok c.insert-named.result (c.insert-named.ensures.succeeds room.0) c.insert-named.ensures.updates).0

entered : (c : goal.After-count_children) → vmos_in c.count_children.new.vmos.entries ≡ adopted (with_key (vmos_in c.self.inside.vmos.entries) c.args.koid.0 (vmo c)) (option_map koid_number c.args.parent) 0 1
entered c =
    let room = rooms c.self.inside (rw (← c.self.view_is) at c.requires.room) in
    c.count_children.ensures ∙ ap (λ (m : ℕ → Option Vmo). adopted m (option_map koid_number c.args.parent) 0 1)
    (vmos_in-put _ _ c.args.koid.0 (vmo c) (from_ok c.insert-kept.result (c.insert-kept.ensures.succeeds room.1) c.insert-kept.ensures.updates).0)

pub returns : goal.returns
returns c =
    let free = lineages-none _ c.args.koid.0 (rw (← c.self.view_is) at c.requires.koid) in
    rw (← c.self.view_is) (record {
      names = named c;
      lineage = ap lineages (entered c) ∙ (lineages-adopted _ _ 0 1 ∙ lineages-with_key _ _ (vmo c));
      keepers = ap keepers_in (entered c) ∙ (keepers-adopted _ _ 0 1 ∙ keepers-same _ c.args.koid.0 (vmo c) (keepers-at _ _ None free));
    })

pub count_children-requires : goal.count_children-requires
count_children-requires c = λ v old hit e.
    let new : Vmo = record { resizable = c.args.resizable; origin = c.args.origin; parent = c.args.parent; names = 1; slices = 0; references = 0; children = 0; keepers = 0 } in
    let room = rooms c.self.inside (rw (← c.self.view_is) at c.requires.room) in
    let kept = vmos_in-put c.self.inside.vmos.entries c.insert-kept.new.self.entries c.args.koid.0 new (from_ok c.insert-kept.result (c.insert-kept.ensures.succeeds room.1) c.insert-kept.ensures.updates).0 in
    let free = lineages-none _ c.args.koid.0 (rw (← c.self.view_is) at c.requires.koid) in
    let fits = entered_fits _ c.args.koid.0 new c.self.invariant.forest free (parent_at _ c.args.parent (rw (← c.self.view_is) at c.requires.parent)) v old hit (ap (λ (m : ℕ → Option Vmo). m v) (sym kept) ∙ e) in
    let few = vmo_count_le c.self.inside.vmos.entries in
    (omega arith, omega arith)

pub invariant_of-self : goal.invariant_of-self
invariant_of-self c =
    let none = rw (← c.self.view_is) at c.requires.koid in
    let free = lineages-none _ c.args.koid.0 none in
    IsVmoTable-is _ _ _ (named c) (entered c)
    (AreNamed-adopted _ _ _ 0 1 (AreNamed-more _ _ c.args.name.0 (target c) c.self.invariant.named (vmo c) (omega arith) (rw (← c.self.view_is) at c.requires.name) None free refl refl refl))
    (IsVmoForest-entered _ c.args.koid.0 (vmo c) c.self.invariant.forest free (parent_at _ c.args.parent (rw (← c.self.view_is) at c.requires.parent)) (omega arith) refl)
    (subst (AreChildren c.add_child.new.rows) (sym (lineages-adopted _ _ 0 1 ∙ lineages-with_key _ _ (vmo c)))
    (AreChildren-entered c.self.inside.child_rows _ _ c.args.koid.0 (lineage_of_vmo (vmo c)) c.self.invariant.rows none c.add_child.ensures))

pub add_child-requires : goal.add_child-requires
add_child-requires c = record {
  absent = no_row_under c.self.inside.child_rows c.args.koid.0 c.args.parent (λ p.
      c.self.invariant.rows.is p c.args.koid.0 ∙ passes-none (has_parent p) _ (rw (← c.self.view_is) at c.requires.koid));
  room = (rooms c.self.inside (rw (← c.self.view_is) at c.requires.room)).2;
}
