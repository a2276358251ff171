-- Laws of the commands on regions and mappings: what they do to pages and tables, and what a place that is told means.
use Rattle.std.proofs.Common.{◌≡◌, ℕ, ◌+◌, ◌*◌, true, false, Bool, Option, None, Some, refl, sym, ap, subst, ◌∙◌, arith}
use Rattle.vm_base.specs.declared.limits.TheConstants.{PAGE}
use Rattle.vm_base.specs.declared.refusal.Refusal.TheVariants.{HostMemory}
use Rattle.vm_model.specs.Machine.Words.{Command, Reply}
use Rattle.vm_model.specs.declared.reply.Reply.TheVariants.{Address, Refused}
use Rattle.vm_model.specs.declared.space.Entry.{Entry}
use Rattle.vm_model.specs.declared.space.Region.{Region}
use Rattle.vm_model.specs.Contents.Content.{Content}
use Rattle.vm_model.specs.Naming.Pins.{pin_count}
use Rattle.vm_model.specs.Space.AddressSpaces.{mapped_count}
use Rattle.vm_model.specs.Space.Places.{IsPlace}
use Rattle.vm_model.specs.Space.Mappings.{IsMapPlace}
use Rattle.vm_model.specs.Space.AddressSpaces.{Spaces}
use Rattle.vm_model.specs.Machine.Given.{GivesName}
use Rattle.vm_model.specs.Machine.State.{State}
use Rattle.vm_model.specs.Machine.Refusals.{refusals, first_of}
use Rattle.vm_model.specs.Machine.Step.{may_lack_memory, Step}
use Rattle.vm_model.proofs.StepLaws.{Step-lacks}
use Rattle.vmo_table.specs.Table.{Vmos, names_of, lineage_in, keepers_of}
use Rattle.pin_table.specs.Table.{pins_of}
use Rattle.mapping_set.specs.Tables.{Mappings, table_of, places_of}
use Rattle.region_tree.specs.Tree.{RegionRows, regions_of, spaces_of, AreNoted}
use Rattle.region_ops.specs.Spaces.{Does}
use Rattle.ready_pages.specs.declared.change.Change.{Change}
use Rattle.machine.specs.declared.tables.Tables.{Tables}
use Rattle.machine.specs.inside.Changes.{change_after}
use Rattle.machine.specs.inside.Fields.{state_in, IsCounted}
use Rattle.machine.specs.inside.Steps.{IsSoundState, Handles}
use Rattle.machine.proofs.HandleLaws.{well_in}

-- what is done to pages, the table of VMOs and the address spaces
pub handles_does : {c d : Content} {t : Tables} {vmos : Vmos} {regions : RegionRows} {maps : Mappings} {command : Command} {reply : Reply} {change : Change} → IsSoundState c t
    → Does c t.vmos (state_in c t).spaces command reply d vmos (spaces_of (regions_of regions) (table_of maps)) → AreNoted (regions_of regions) (places_of maps)
    → change ≡ change_after (state_in c t) command reply → GivesName command → Handles c t command reply change d (record t { vmos = vmos; regions = regions; maps = maps })
handles_does {c} {t = t} sound does noted changes name = record {
  step = does.step (state_in c t) (well_in sound);
  changes = changes;
  counted = record { counted = does.counted (state_in c t) (well_in sound); noted = noted };
  name = name;
}

-- the host lacks memory for a command, and what the pages and the tables are stays
pub handles_lack : {c d : Content} {t : Tables} {vmos : Vmos} {maps : Mappings} (command : Command) → IsCounted t → first_of (refusals (state_in c t) command) ≡ None
    → may_lack_memory (state_in c t) command ≡ true → GivesName command → d ≡ c → vmos ≡ t.vmos → table_of maps ≡ table_of t.maps → places_of maps ≡ places_of t.maps
    → Handles c t command (Refused HostMemory) Change.None d (record t { vmos = vmos; maps = maps })
handles_lack {c} {d} {t} {vmos} {maps} command counted none lacks name content tables entries places =
    let same : state_in d (record t { vmos = vmos; maps = maps }) ≡ state_in c t = λ i. record (state_in c t) { content = content i; names = names_of (tables i); lineage = lineage_in (tables i); spaces = spaces_of (regions_of t.regions) (entries i) } in
    record {
      step = subst (λ (s : State). Step (state_in c t) command (Refused HostMemory) s) (sym same) (Step-lacks (state_in c t) command none lacks);
      changes = refl;
      counted = record {
        counted = λ v. (λ i. keepers_of (tables i) v) ∙ counted.counted v
            ∙ ap (λ (table : ℕ → ℕ → Option Entry). pin_count (pins_of t.pins) v + mapped_count (spaces_of (regions_of t.regions) table) v) (sym entries);
        noted = subst (AreNoted (regions_of t.regions)) (sym places) counted.noted;
      };
      name = name;
    }

-- where each VMO is mapped as often as before, its keepers are counted as before
pub mapped_counted : {t : Tables} {regions : RegionRows} {maps : Mappings} → IsCounted t
    → ((v : ℕ) → mapped_count (spaces_of (regions_of regions) (table_of maps)) v ≡ mapped_count (spaces_of (regions_of t.regions) (table_of t.maps)) v)
    → AreNoted (regions_of regions) (places_of maps) → IsCounted (record t { regions = regions; maps = maps })
mapped_counted counted mapped noted = record { counted = λ v. omega (arith, counted.counted v, mapped v); noted = noted }

-- so it is where the entries are those of before
pub entries_mapped : (old new : ℕ → Option Region) {before after : ℕ → ℕ → Option Entry} → after ≡ before
    → (v : ℕ) → mapped_count (spaces_of new after) v ≡ mapped_count (spaces_of old before) v
unfolding mapped_count
entries_mapped old new same v = ap (λ (table : ℕ → ℕ → Option Entry). mapped_count (spaces_of old table) v) same

-- a place of a region is one of a mapping that overwrites nothing
pub place_for : {spaces : Spaces} {name : ℕ} {fixed limited : Bool} {offset count first : ℕ} → IsPlace spaces name fixed limited offset count first → IsMapPlace spaces name false fixed limited offset count first
place_for place = record { over = λ e. absurd cc; free = λ e. place }

-- the address that is told is that of a page, if it is answered for one
pub told_at : {told : Option ℕ} {address : ℕ} (first : ℕ) → told ≡ Some address → ◌≡◌ {A = Reply} (Address address) (Address (first * PAGE)) → told ≡ Some (first * PAGE)
told_at first is e = is ∙ ap Some (address_same e) where
  address_same : {a b : ℕ} → ◌≡◌ {A = Reply} (Address a) (Address b) → a ≡ b
  address_same f = cc
