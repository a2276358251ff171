-- The steps of asking for a size, and for what a VMO holds.
use Rattle.std.proofs.Common.{◌≡◌, ℕ, ◌*◌, not, [], Some, refl, sym, ap, ◌∙◌}
use Rattle.vm_base.specs.declared.names.VmoName.{VmoName}
use Rattle.vm_base.specs.declared.limits.TheConstants.{PAGE}
use Rattle.vm_base.specs.declared.refusal.Refusal.TheVariants.{BadHandle}
use Rattle.vm_model.specs.declared.command.Command.TheVariants.{VmoSize, VmoInfo}
use Rattle.vm_model.specs.declared.reply.Info.{Info}
use Rattle.vm_model.specs.declared.reply.Reply.TheVariants.{Number, Info as InfoReply}
use Rattle.vm_model.specs.Contents.Content.{Content}
use Rattle.vm_model.specs.declared.names.Target.{Target}
use Rattle.vm_model.specs.Machine.State.{is_open, name_pages}
use Rattle.vm_model.specs.Machine.Attribution.{info_at}
use Rattle.vm_model.proofs.NamesLaws.{target_of-at}
use Rattle.vmo_table.specs.Table.{names_of}
use Rattle.vmo_ops.proofs.StepRows.{first_of-skip, Step-done, open_at, size_of-at}
use Rattle.ready_pages.specs.declared.change.Change.{Change}
use Rattle.machine.specs.declared.tables.Tables.{Tables}
use Rattle.machine.specs.inside.Fields.{state_in, IsCounted}
use Rattle.machine.specs.inside.Steps.{Handles}

module _ {c : Content} {t : Tables} (name : VmoName) (target : Target) (counted : IsCounted t) (named : Some target ≡ names_of t.vmos name.0) where
  -- the size of what the name stands for is answered
  pub size_named : (size : ℕ) → size ≡ name_pages c target * PAGE → Handles c t (VmoSize name) (Number size) Change.None c t
  size_named size e = let now = state_in c t in record {
    step = Step-done now (VmoSize name) (Number size) now (first_of-skip (not (is_open now name.0)) BadHandle [] (open_at now name.0 target (sym named)))
        (ap (λ (n : ℕ). Number n) (e ∙ sym (size_of-at now name.0 target (sym named))), refl);
    changes = refl;
    counted = counted;
    name = tt;
  }

  -- what is told by the name's target is answered
  pub info_named : (info : Info) → info ≡ info_at (state_in c t) target → Handles c t (VmoInfo name) (InfoReply info) Change.None c t
  info_named info e = let now = state_in c t in record {
    step = Step-done now (VmoInfo name) (InfoReply info) now (first_of-skip (not (is_open now name.0)) BadHandle [] (open_at now name.0 target (sym named)))
        (ap (λ (told : Info). InfoReply told) (e ∙ sym (ap (info_at now) (target_of-at now name.0 target (sym named)))), refl);
    changes = refl;
    counted = counted;
    name = tt;
  }
