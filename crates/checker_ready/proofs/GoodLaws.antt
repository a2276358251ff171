-- Notes stay good where pages are read and written through mappings.
use Rattle.std.proofs.Common.{◌≡◌, ℕ, true, List, length, None}
use Rattle.vm_model.specs.Contents.Content.{Content, IsGood}
use Rattle.vm_model.specs.Contents.Writing.{touched}
use Rattle.vm_model.specs.Space.Readiness.{Ready}
use Rattle.vm_model.specs.Space.Rights.{reading, writing}
use Rattle.vm_model.specs.Machine.Access.{access_refusal, after_reading, WritesThrough}
use Rattle.vm_model.specs.Machine.State.{State, empty_state}
use Rattle.vm_model.proofs.AccessLaws.{AreGoodReady, AreGoodReady-after_reading, WritesThrough-keeps}
use Rattle.vm_model.proofs.RangeLaws.{touched-from}
use Rattle.ready_pages.specs.Changes.{Entries, AreReadyAt}

-- a state with this content and this table, and with nothing else
abbrev bare_state : Content → Entries → State
bare_state c table = record (empty_state 0) { content = c; spaces = record (empty_state 0).spaces { table = table } }

module _ (c : Content) (table : Entries) (ready : Ready) where
  good_in_state : AreReadyAt c table ready → AreGoodReady (bare_state c table) ready
  good_in_state are root p readiness e =
      let at = are root p readiness e in record { entry = at.entry; is = at.is; below = at.below; alone = at.alone }

  ready_in_state : AreGoodReady (bare_state c table) ready → AreReadyAt c table ready
  ready_in_state are root p readiness e =
      let at = are root p readiness e in record { entry = at.entry; is = at.is; below = at.below; alone = at.alone }

-- where pages are read
pub AreReadyAt-read : (c : Content) (table : Entries) (root : ℕ) (ps : List ℕ) (ready : Ready) → AreReadyAt c table ready
    → access_refusal c reading (table root) ps ≡ None → AreReadyAt c table (after_reading root ps ready)
AreReadyAt-read c table root ps ready are free =
    ready_in_state c table (after_reading root ps ready) (AreGoodReady-after_reading (bare_state c table) root ps ready (good_in_state c table ready are) free)

-- where bytes are written
pub AreReadyAt-written : (c d : Content) (table : Entries) (root addr : ℕ) (bytes : List ℕ) (ready later : Ready) (faults : ℕ) → IsGood c → AreReadyAt c table ready
    → access_refusal c writing (table root) (touched addr (length bytes)) ≡ None
    → WritesThrough table root addr bytes (touched addr (length bytes)) (record { content = c; ready = ready }) faults (record { content = d; ready = later })
    → AreReadyAt d table later
AreReadyAt-written c d table root addr bytes ready later faults good are free writes =
    ready_in_state d table later
    (WritesThrough-keeps (bare_state c table) root addr bytes (touched addr (length bytes)) (record { content = c; ready = ready }) (record { content = d; ready = later }) faults (λ v q. true)
    good (touched-from addr (length bytes)) free writes (good_in_state c table ready are)).1
