-- How the fields of a `Machine` are seen, and what holds of them.
use Rattle.vm_model.specs.Contents.Content.{Content, nothing}
use Rattle.vm_model.specs.Machine.State.{State}
use Rattle.vmo_table.specs.Table.{CountsKeepers}
use Rattle.mapping_set.specs.Tables.{places_of}
use Rattle.region_tree.specs.Tree.{regions_of, AreNoted}
use Rattle.machine.specs.declared.tables.Tables.{Tables}
use Rattle.machine.specs.Machine.{MachineParts, state_of}

abbrev pub parts_of : {R : Type 0} → Tables → R → MachineParts R
parts_of t ready = record { vmos = t.vmos; pins = t.pins; regions = t.regions; maps = t.maps; ready = ready }

-- the state of pages and the tables, which keep all of it
abbrev pub state_in : Content → Tables → State
state_in c t = state_of {R = Unit {0}} c (parts_of t tt)

-- What keeps each VMO is counted in the table of VMOs, and the live children of each region are noted in the set of
-- mappings.
pub record IsCounted (t : Tables) : Type 0 where
  pub counted : CountsKeepers t.vmos (state_in nothing t)
  pub noted : AreNoted (regions_of t.regions) (places_of t.maps)
