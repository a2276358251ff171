-- What handlers of commands ask of pages and tables, and what they do to them.
use Rattle.std.proofs.Common.{◌≡◌, ℕ, Some, refl, sym, ap, ◌∙◌}
use Rattle.vm_base.specs.declared.names.VmoName.{VmoName}
use Rattle.vm_base.specs.declared.refusal.Refusal.{Refusal}
use Rattle.vm_model.specs.Machine.Words.{Command}
use Rattle.vm_model.specs.declared.names.Target.{Target}
use Rattle.vm_model.specs.declared.reply.Reply.TheVariants.{Refused}
use Rattle.vm_model.specs.Contents.Content.{Content}
use Rattle.vm_model.specs.Machine.Given.{GivesName}
use Rattle.vm_model.specs.Machine.Refusals.{refusals, first_of}
use Rattle.vmo_table.specs.Table.{Vmos, names_of, keepers_of, AreParts, IsWellCounted}
use Rattle.page_store.specs.Names.{IsInside}
use Rattle.vmo_ops.specs.Targets.{AreTogether}
use Rattle.vmo_ops.proofs.NameLaws.{parts_inside}
use Rattle.region_ops.specs.Spaces.{AreAllWell}
use Rattle.region_ops.proofs.PlaceLaws.{Step-refused}
use Rattle.ready_pages.specs.declared.change.Change.{Change}
use Rattle.machine.specs.declared.tables.Tables.{Tables}
use Rattle.machine.specs.inside.Fields.{state_in, IsCounted}
use Rattle.machine.specs.inside.Steps.{IsSoundState, Handles}

module _ {c : Content} {t : Tables} (sound : IsSoundState c t) where
  -- what the operations on VMOs, on pins and on address spaces ask
  pub parts_in : AreParts c t.vmos
  parts_in = record { rest = state_in c t; good = sound.good }

  pub together_in : AreTogether c t.vmos t.pins
  together_in = record { rest = state_in c t; good = sound.good }

  pub well_in : IsWellCounted t.vmos (state_in c t)
  well_in = record { good = sound.good; counted = sound.counted.counted }

  pub all_well_in : AreAllWell c t.vmos (state_in c t).spaces
  all_well_in = record { rest = state_in c t; well = well_in }

  -- what a name stands for lies inside its VMO
  pub inside_named : (name : VmoName) {target : Target} → Some target ≡ names_of t.vmos name.0 → IsInside c target
  inside_named name {target} named = parts_inside c t.vmos target parts_in (name.0, sym named)

-- a command that is refused changes nothing
pub handles_refused : {c : Content} {t : Tables} {command : Command} {refusal : Refusal} → IsCounted t → first_of (refusals (state_in c t) command) ≡ Some refusal → GivesName command
    → Handles c t command (Refused refusal) Change.None c t
handles_refused {c} {t} {command} {refusal} counted refused name =
    record { step = Step-refused (state_in c t) command refusal refused; changes = refl; counted = counted; name = name }

-- where the keepers did not change, they are counted as before
pub kept_counted : {t : Tables} {vmos : Vmos} → IsCounted t → keepers_of vmos ≡ keepers_of t.vmos → IsCounted (record t { vmos = vmos })
kept_counted counted same = record { counted = λ v. ap (λ (f : ℕ → ℕ). f v) same ∙ counted.counted v; noted = counted.noted }
