-- Laws of steps under other numbers of frames: a step of the machine, renamed, is a step of the renamed machine, with the reply
-- under other numbers.
use Rattle.std.proofs.Common.{◌≡◌, ℕ, ◌/◌, ◌%◌, cond, ◌&&◌, List, [], ◌∷◌, length, map, Option, None, Some, refl, sym, ap, subst, ◌∙◌, inl, inr}
use Rattle.std.specs.Prelude.{nat_lt, slice_index}
use Rattle.std.specs.Option.{option_map}
use Rattle.std.specs.List.{range_with_len}
use Rattle.vm_base.specs.Entries.{passes}
use Rattle.vm_base.specs.declared.limits.TheConstants.{PAGE}
use Rattle.vm_base.specs.declared.refusal.Refusal.{Refusal}
use Rattle.vm_base.specs.declared.refusal.Refusal.TheVariants.{HostMemory}
use Rattle.vm_model.specs.Machine.Words.{Command, Reply}
use Rattle.vm_model.specs.declared.command.Command.TheVariants.{VmoChild, VmarMap, MemRead, MemWrite}
use Rattle.vm_model.specs.declared.command.ChildKind.TheVariants.{Snapshot}
use Rattle.vm_model.specs.declared.reply.Reply.TheVariants.{Address, Access}
use Rattle.vm_model.specs.declared.space.Entry.{Entry}
use Rattle.vm_model.specs.Contents.Content.{Page, Content, pages_of}
use Rattle.vm_model.specs.Contents.Writing.{touched}
use Rattle.vm_model.specs.Space.Readiness.{Ready, is_same_frame, keeps_frame, settled, with_ready}
use Rattle.vm_model.specs.declared.space.Readiness.TheVariants.{Write}
use Rattle.vm_model.specs.Machine.State.{State, target_of}
use Rattle.vm_model.specs.Machine.Given.{GivesName}
use Rattle.vm_model.specs.Machine.Access.{Memory, entry_at, bytes_through, piece_through, read_faults, WritesPage, WritesThrough}
use Rattle.vm_model.specs.Machine.Refusals.{refusals, first_of}
use Rattle.vm_model.specs.Machine.Step.{IsRefused}
use Rattle.vm_model.specs.Machine.Machine.{Machine, memory_of, IsGoodMachine}
use Rattle.vm_model.specs.Machine.MachineStep.{withdrawn, ready_after, MachineEffect, MachineStepAfter, MachineStep}
use Rattle.vm_model.proofs.MachineLaws.{MachineStep-keeps}
use Rattle.moving_model.specs.Renaming.{Renaming, KeepsFrom, page_renamed, content_renamed, state_renamed, machine_renamed, memory_renamed, reply_renamed}
use Rattle.moving_model.proofs.NumberLaws.{eqb-renamed}
use Rattle.moving_model.proofs.PageLaws.{shown-renamed}
use Rattle.moving_model.proofs.ChangeLaws.{WritesPiece-renamed, WritesPiece-frames}
use Rattle.moving_model.proofs.RefusalLaws.{refusals-renamed, may_want-renamed}
use Rattle.moving_model.proofs.EffectLaws.{Effect-renamed}

module _ (r : Renaming) where
  -- ---- what is ready

  same_frame-renamed : (o p : Option Page) → is_same_frame (option_map (λ (held : Page). held.tag) (option_map (page_renamed r) o)) (option_map (λ (held : Page). held.tag) (option_map (page_renamed r) p))
      ≡ is_same_frame (option_map (λ (held : Page). held.tag) o) (option_map (λ (held : Page). held.tag) p)
  same_frame-renamed None None = refl
  same_frame-renamed None (Some b) = refl
  same_frame-renamed (Some a) None = refl
  same_frame-renamed (Some a) (Some b) = eqb-renamed r a.tag b.tag

  keeps_frame-renamed : (c d : Content) (entry : Entry) → keeps_frame (content_renamed r c) (content_renamed r d) entry ≡ keeps_frame c d entry
  unfolding keeps_frame pages_of
  keeps_frame-renamed c d entry =
      λ i. same_frame-renamed (c.page entry.koid.0 entry.page) (d.page entry.koid.0 entry.page) i && nat_lt entry.page (pages_of d entry.koid.0)

  -- what one renaming on both sides leaves
  pub settled-renamed : (c d : Content) (table : ℕ → ℕ → Option Entry) (ready : Ready) → settled (content_renamed r c) (content_renamed r d) table ready ≡ settled c d table ready
  unfolding settled
  settled-renamed c d table ready = λ i root p. cond (passes (λ entry. keeps_frame-renamed c d entry i) (table root p)) (ready root p) None

  withdrawn-renamed : (s : State) (command : Command) (reply : Reply) (ready : Ready) → withdrawn (state_renamed r s) command (reply_renamed r reply) ready ≡ withdrawn s command reply ready
  unfolding target_of pages_of
  withdrawn-renamed s (VmoChild name parent Snapshot offset size resizable no_write) reply ready = refl
  withdrawn-renamed s (VmarMap region offset name vmo_offset len perm flags) (Address addr) ready = refl
  withdrawn-renamed s (VmarMap region offset name vmo_offset len perm flags) reply ready = refl
  withdrawn-renamed s command reply ready = refl

  pub ready_after-renamed : (old : Machine) (command : Command) (reply : Reply) (new : State)
      → ready_after (machine_renamed r old) command (reply_renamed r reply) (state_renamed r new) ≡ ready_after old command reply new
  ready_after-renamed old command reply new =
      ap (withdrawn (state_renamed r old.state) command (reply_renamed r reply)) (settled-renamed old.state.content new.content new.spaces.table old.ready)
      ∙ withdrawn-renamed old.state command reply (settled old.state.content new.content new.spaces.table old.ready)

  -- ---- accesses

  bytes_through-renamed : (c : Content) (entries : ℕ → Option Entry) (addr len : ℕ) → bytes_through (content_renamed r c) entries addr len ≡ bytes_through c entries addr len
  unfolding bytes_through
  bytes_through-renamed c entries addr len = λ i.
      map (λ at. slice_index (shown-renamed r c (entry_at entries (at / PAGE)).koid.0 (entry_at entries (at / PAGE)).page i) (at % PAGE)) (range_with_len addr len)

  WritesPage-renamed : (table : ℕ → ℕ → Option Entry) (root addr : ℕ) (bytes : List ℕ) (p : ℕ) (old new : Memory) → KeepsFrom r old.content.frames
      → WritesPage table root addr bytes p old new → WritesPage table root addr bytes p (memory_renamed r old) (memory_renamed r new)
  WritesPage-renamed table root addr bytes p old new keeps writes = record {
    entry = writes.entry;
    is = writes.is;
    writes = WritesPiece-renamed r old.content (piece_through writes.entry addr bytes p) new.content keeps writes.writes;
    ready = writes.ready ∙ ap (λ (ready : Ready). with_ready ready root p Write) (sym (settled-renamed old.content new.content table old.ready));
  }

  pub WritesThrough-renamed : (table : ℕ → ℕ → Option Entry) (root addr : ℕ) (bytes ps : List ℕ) (old : Memory) (faults : ℕ) (new : Memory) → KeepsFrom r old.content.frames
      → WritesThrough table root addr bytes ps old faults new → WritesThrough table root addr bytes ps (memory_renamed r old) faults (memory_renamed r new)
  WritesThrough-renamed table root addr bytes [] old faults new keeps writes = (ap (memory_renamed r) writes.0, writes.1)
  WritesThrough-renamed table root addr bytes (p ∷ ps) old faults new keeps writes =
      let page = writes.2 in
      let later = subst (KeepsFrom r) (sym (WritesPiece-frames r old.content (piece_through page.entry addr bytes p) writes.0.content page.writes)) keeps in (
        memory_renamed r writes.0,
        writes.1,
        WritesPage-renamed table root addr bytes p old writes.0 keeps page,
        WritesThrough-renamed table root addr bytes ps writes.0 writes.1 new later writes.3,
        writes.4,
      )

  -- ---- all commands

  MachineEffect-renamed : (old new : Machine) (command : Command) (reply : Reply) → KeepsFrom r old.state.content.frames → IsGoodMachine new → MachineEffect old command reply new
      → MachineEffect (machine_renamed r old) command (reply_renamed r reply) (machine_renamed r new)
  MachineEffect-renamed old new (MemRead region addr len) reply keeps good e = (
    ap (reply_renamed r) e.0 ∙ ap (λ (bytes : List ℕ). Access (read_faults (old.ready region.0) (touched addr len)) bytes)
        (sym (bytes_through-renamed old.state.content (old.state.spaces.table region.0) addr len)),
    ap (machine_renamed r) e.1,
  )
  MachineEffect-renamed old new (MemWrite region addr bytes) reply keeps good e = (
    e.0,
    ap (reply_renamed r) e.1,
    ap (state_renamed r) e.2,
    WritesThrough-renamed old.state.spaces.table region.0 addr bytes (touched addr (length bytes)) (memory_of old) e.0 (memory_of new) keeps e.3,
  )
  MachineEffect-renamed old new command reply keeps good e =
      (Effect-renamed r old.state new.state command reply keeps good.state e.0, e.1 ∙ sym (ready_after-renamed old command reply new.state))

  refused : (old new : Machine) (refusal : Refusal) (reply : Reply) → IsRefused old refusal reply new
      → IsRefused (machine_renamed r old) refusal (reply_renamed r reply) (machine_renamed r new)
  refused old new refusal reply e = record { answer = ap (reply_renamed r) e.answer; same = ap (machine_renamed r) e.same }

  after : (o : Option Refusal) (old new : Machine) (command : Command) (reply : Reply) → KeepsFrom r old.state.content.frames → IsGoodMachine new
      → MachineStepAfter o old command reply new → MachineStepAfter o (machine_renamed r old) command (reply_renamed r reply) (machine_renamed r new)
  after (Some refusal) old new command reply keeps good e = refused old new refusal reply e
  after None old new command reply keeps good (inl effect) = inl (MachineEffect-renamed old new command reply keeps good effect)
  after None old new command reply keeps good (inr lacked) = inr (refused old new HostMemory reply lacked.0, may_want-renamed r old command ∙ lacked.1)

  pub MachineStep-renamed : (old new : Machine) (command : Command) (reply : Reply) → KeepsFrom r old.state.content.frames → IsGoodMachine old → GivesName command
      → MachineStep old command reply new → MachineStep (machine_renamed r old) command (reply_renamed r reply) (machine_renamed r new)
  MachineStep-renamed old new command reply keeps good gives step =
      let fine = (MachineStep-keeps old command reply new good gives step).good in
      record {
        outcome = subst (λ (o : Option Refusal). MachineStepAfter o (machine_renamed r old) command (reply_renamed r reply) (machine_renamed r new))
            (ap first_of (sym (refusals-renamed r old.state command keeps))) (after (first_of (refusals old.state command)) old new command reply keeps fine step.outcome);
      }
