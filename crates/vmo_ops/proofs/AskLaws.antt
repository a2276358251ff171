-- Which row of the refusals of a command is first, and what follows from it.
use Rattle.std.proofs.Common.{◌≡◌, ℕ, ◌+◌, ◌*◌, ◌/◌, ◌%◌, ◌==◌, ◌&&◌, ◌||◌, ◌<◌, ◌≤◌, Bool, true, false, not, cond, List, [], ◌∷◌, Option, None, Some, length, refl, sym, ap, subst, ◌∙◌, inl, inr, arith}
use Rattle.std.specs.Prelude.{nat_lt, is_some, IsSome, IfSome}
use Rattle.vm_base.specs.Pages.{rounded}
use Rattle.vm_base.specs.declared.limits.TheConstants.{PAGE, VMO_PAGES, PIN_PAGES, DATA_BYTES}
use Rattle.vm_base.specs.declared.refusal.Refusal.{Refusal}
use Rattle.vm_base.specs.declared.refusal.Refusal.TheVariants.{BadHandle, NameInUse, BadState, AccessDenied, InvalidArgs, NotSupported, Unavailable, OutOfRange, NoMemory}
use Rattle.vm_model.specs.declared.names.NameKind.TheVariants.{Slice as SliceName}
use Rattle.vm_model.specs.declared.names.Target.{Target}
use Rattle.vm_model.specs.Contents.Content.{pages_of, used}
use Rattle.vm_model.specs.Contents.Owning.{need}
use Rattle.vm_model.specs.Contents.Writing.{touched}
use Rattle.vm_model.specs.Naming.Names.{is_kind, may_decommit}
use Rattle.vm_model.specs.Naming.Pins.{any_pinned}
use Rattle.vm_model.specs.Machine.State.{State, is_open, target_of, name_pages, lineage_of}
use Rattle.vm_model.specs.Machine.Refusals.{first_of}
use Rattle.vm_model.specs.declared.command.Command.TheVariants.{VmoChild, VmoCreate}
use Rattle.vm_model.specs.declared.command.ChildKind.TheVariants.{Snapshot}
use Rattle.vm_base.specs.declared.names.VmoName.{VmoName}
use Rattle.vm_base.proofs.EntryLaws.{some_is}
use Rattle.vm_model.specs.Contents.Content.{Content}
use Rattle.vm_model.specs.Naming.Names.{Lineage}
use Rattle.vm_model.specs.Naming.Pins.{Pin, is_pinned}
use Rattle.vm_model.specs.Machine.Refusals.{refusals}
use Rattle.vm_model.proofs.NamesLaws.{target_of-at, lineage_of-at}
use Rattle.vmo_ops.specs.inside.Copies.{copies_of, IsSeenPart}
use Rattle.vmo_ops.specs.declared.snapshots.SeenPart.{SeenPart}
use Rattle.vm_model.specs.Machine.Words.{Command}
use Rattle.vm_model.specs.declared.reply.Reply.TheVariants.{Refused}
use Rattle.vm_model.specs.Machine.Step.{Step, StepAfter}
use Rattle.vmo_ops.specs.Targets.{IsBarred}
use Rattle.vmo_ops.proofs.CopyRows.{IsAsked, rows-are, copies-all}
use Rattle.std.proofs.lemmas.Bool.{and_parts, eqb-true, lt-ltb, le-ltb}

-- a row whose condition holds is first, and one whose condition does not hold is passed over
pub hit : (a : Bool) (r : Refusal) (rest : Option Refusal) → a ≡ true → Some r ≡ cond a (Some r) rest
hit a r rest e = ap (λ (b : Bool). cond b (Some r) rest) (sym e)

pub skip : (a : Bool) (r : Refusal) (rest answer : Option Refusal) → a ≡ false → answer ≡ rest → answer ≡ cond a (Some r) rest
skip a r rest answer e f = f ∙ ap (λ (b : Bool). cond b (Some r) rest) (sym e)

-- the rows behind the first of a command by a name that is open, by what the name stands for
pub by_name : (s : State) (name : ℕ) (target : Target) → s.names name ≡ Some target → (rows : Target → List (Bool × Refusal)) (answer : Option Refusal)
    → answer ≡ first_of (rows target) → answer ≡ first_of ((not (is_open s name), BadHandle) ∷ rows (target_of s name))
by_name s name target named rows answer e =
    skip _ _ _ _ (ap (λ (o : Option Target). not (is_some o)) named) (e ∙ ap (λ (t : Target). first_of (rows t)) (sym (target_of-at s name target named)))

-- a command that is refused changes nothing
pub Step-refused : (old : State) (command : Command) (refusal : Refusal) → Some refusal ≡ first_of (refusals old command) → Step old command (Refused refusal) old
Step-refused old command refusal is = record { outcome = subst (λ (o : Option Refusal). StepAfter o old command (Refused refusal) old) is (record { answer = refl; same = refl }) }

-- ---- the rows of each command

-- of making a VMO under a name that is not open
module _ (s : State) (name : VmoName) (size : ℕ) (resizable : Bool) (closed : s.names name.0 ≡ None) where
  pub create_refused : VMO_PAGES * PAGE < rounded size → Some OutOfRange ≡ first_of (refusals s (VmoCreate name size resizable))
  create_refused past = skip (is_open s name.0) NameInUse _ (Some OutOfRange) (ap is_some closed) (hit (nat_lt (VMO_PAGES * PAGE) (rounded size)) OutOfRange None (lt-ltb (VMO_PAGES * PAGE) (rounded size) past))

  pub create_fits : rounded size ≤ VMO_PAGES * PAGE → None ≡ first_of (refusals s (VmoCreate name size resizable))
  create_fits within = skip (is_open s name.0) NameInUse _ None (ap is_some closed) (skip (nat_lt (VMO_PAGES * PAGE) (rounded size)) OutOfRange None None (le-ltb (VMO_PAGES * PAGE) (rounded size) within) refl)

-- of a change to a range, which owns these pages of what the name stands for
abbrev pub change_rows : State → (offset len : ℕ) → (Target → List ℕ) → Target → List (Bool × Refusal)
change_rows s offset len owned t =
    (not t.may_write, AccessDenied)
    ∷ (nat_lt (name_pages s.content t * PAGE) (offset + len), OutOfRange)
    ∷ (nat_lt s.content.frames (used s.content + need s.content t.koid.0 (owned t)), NoMemory)
    ∷ []

module _ (s : State) (name : ℕ) (t : Target) (named : s.names name ≡ Some t) (offset len : ℕ) (owned : Target → List ℕ) where
  abbrev all_rows : List (Bool × Refusal)
  all_rows = (not (is_open s name), BadHandle) ∷ change_rows s offset len owned (target_of s name)

  -- refused by the name or the range
  pub change_barred : (refusal : Refusal) → IsBarred s.content t offset len refusal → Some refusal ≡ first_of all_rows
  change_barred refusal is = by_name s name t named (change_rows s offset len owned) (Some refusal) (elim is [
    | inl denied ↦ rw denied.0 (hit _ _ _ (ap not denied.1))
    | inr past ↦ rw past.0 (skip _ _ _ _ (ap not past.1) (hit _ _ _ (lt-ltb _ _ past.2)))
  ])

  module _ (may : t.may_write ≡ true) (range : offset + len ≤ name_pages s.content t * PAGE) (ps : List ℕ) (are : owned t ≡ ps) where
    abbrev is_lacking : Bool
    is_lacking = nat_lt s.content.frames (used s.content + need s.content t.koid.0 (owned t))

    lacking : (b : Bool) → nat_lt s.content.frames (used s.content + need s.content t.koid.0 ps) ≡ b → is_lacking ≡ b
    lacking b e = ap (λ (qs : List ℕ). nat_lt s.content.frames (used s.content + need s.content t.koid.0 qs)) are ∙ e

    -- refused for want of frames
    pub change_lacks : s.content.frames < used s.content + need s.content t.koid.0 ps → Some NoMemory ≡ first_of all_rows
    change_lacks less = by_name s name t named (change_rows s offset len owned) (Some NoMemory)
        (skip _ _ _ _ (ap not may) (skip _ _ _ _ (le-ltb _ _ range) (hit _ _ _ (lacking true (lt-ltb _ _ less)))))

    -- not refused
    pub change_fits : used s.content + need s.content t.koid.0 ps ≤ s.content.frames → None ≡ first_of all_rows
    change_fits enough = by_name s name t named (change_rows s offset len owned) None
        (skip _ _ _ _ (ap not may) (skip _ _ _ _ (le-ltb _ _ range) (skip _ _ _ _ (lacking false (le-ltb _ _ enough)) refl)))

abbrev pub decommit_rows : State → (offset len : ℕ) → Target → List (Bool × Refusal)
decommit_rows s offset len t =
    (not t.may_write, AccessDenied)
    ∷ (not (offset % PAGE == 0 && len % PAGE == 0), InvalidArgs)
    ∷ (not (may_decommit s.names s.lineage t.koid.0 (lineage_of s t.koid.0)), NotSupported)
    ∷ (nat_lt (name_pages s.content t * PAGE) (offset + len), OutOfRange)
    ∷ (any_pinned s.pins t.koid.0 ((t.first * PAGE + offset) / PAGE) ((t.first * PAGE + (offset + len)) / PAGE), BadState)
    ∷ []

abbrev pub set_size_rows : State → (size : ℕ) → Target → List (Bool × Refusal)
set_size_rows s size t =
    (not t.may_write, AccessDenied)
    ∷ (not t.may_resize, Unavailable)
    ∷ (nat_lt (VMO_PAGES * PAGE) (rounded size), OutOfRange)
    ∷ (any_pinned s.pins t.koid.0 (rounded size / PAGE) (pages_of s.content t.koid.0), BadState)
    ∷ []

abbrev pub read_rows : State → (offset len : ℕ) → Target → List (Bool × Refusal)
read_rows s offset len t =
    (nat_lt DATA_BYTES len, InvalidArgs)
    ∷ (nat_lt (name_pages s.content t * PAGE) (offset + len), OutOfRange)
    ∷ []

abbrev pub pin_rows : State → (pin offset len : ℕ) → Target → List (Bool × Refusal)
pin_rows s pin offset len t =
    (is_some (s.pins pin), NameInUse)
    ∷ (not (offset % PAGE == 0 && len % PAGE == 0) || (len == 0 || nat_lt (PIN_PAGES * PAGE) len), InvalidArgs)
    ∷ (nat_lt (name_pages s.content t * PAGE) (offset + len), OutOfRange)
    ∷ (nat_lt s.content.frames (used s.content + need s.content t.koid.0 (touched (t.first * PAGE + offset) len)), NoMemory)
    ∷ []

abbrev pub reference_rows : State → (name offset size : ℕ) (resizable no_write : Bool) → Target → List (Bool × Refusal)
reference_rows s name offset size resizable no_write t =
    (is_open s name, NameInUse)
    ∷ (not (offset == 0 && size == 0) || (resizable && (no_write || not t.may_resize)), InvalidArgs)
    ∷ (is_kind SliceName t.kind, NotSupported)
    ∷ []

-- ---- single tests

-- the lineage of a VMO that has one
pub of_lineage : (s : State) (v : ℕ) (b : Bool) (test : Lineage → Bool) → IsSome (s.lineage v) → IfSome (s.lineage v) (λ l. b ≡ test l) → b ≡ test (lineage_of s v)
of_lineage s v b test known e =
    let found = some_is (s.lineage v) known in
    let is : b ≡ test found.0 = subst (λ (o : Option Lineage). IfSome o (λ l. b ≡ test l)) found.1 e in
    is ∙ ap test (sym (lineage_of-at s v found.0 found.1))

-- both ends of a range are at pages
pub whole_parts : (offset len : ℕ) → (offset % PAGE == 0 && len % PAGE == 0) ≡ true → (offset % PAGE ≡ 0) × (len % PAGE ≡ 0)
whole_parts offset len e =
    let parts = and_parts (offset % PAGE == 0) (len % PAGE == 0) e in
    (eqb-true (offset % PAGE) 0 parts.0, eqb-true (len % PAGE) 0 parts.1)

-- whether some page of a range of whole pages is pinned, by its place in the VMO
pub pinned_row : (pins : ℕ → Option Pin) (v first offset len at p n : ℕ) → at ≡ first * PAGE + offset → p ≡ at / PAGE → n ≡ len / PAGE → (offset % PAGE ≡ 0) × (len % PAGE ≡ 0)
    → any_pinned pins v ((first * PAGE + offset) / PAGE) ((first * PAGE + (offset + len)) / PAGE) ≡ any_pinned pins v p (p + n)
pinned_row pins v first offset len at p n place begins counts whole =
    let from : (first * PAGE + offset) / PAGE ≡ p = omega (arith, place, begins) in
    let to : (first * PAGE + (offset + len)) / PAGE ≡ p + n = omega (arith, place, begins, counts, whole.0, whole.1) in
    λ i. any_pinned pins v (from i) (to i)

-- whether frames are lacking, by the place
pub lacks_row : (c : Content) (v at place len : ℕ) (b x : Bool) → at ≡ place → b ≡ nat_lt c.frames (used c + need c v (touched at len)) → b ≡ x
    → nat_lt c.frames (used c + need c v (touched place len)) ≡ x
lacks_row c v at place len b x same are is = ap (λ (a : ℕ). nat_lt c.frames (used c + need c v (touched a len))) (sym same) ∙ (sym are ∙ is)

-- what refuses a snapshot whose other tests do not
pub snapshot_rows : (s : State) (name parent : VmoName) (t : Target) (offset size : ℕ) (resizable no_write : Bool) (first seen : ℕ)
    → IsAsked s name parent t offset size resizable no_write first seen → (b : Bool)
    → b ≡ nat_lt s.content.frames (used s.content + length (copies_of (is_pinned s.pins t.koid.0) first seen 0))
    → cond b (Some NoMemory) None ≡ first_of (refusals s (VmoChild name parent Snapshot offset size resizable no_write))
snapshot_rows s name parent t offset size resizable no_write first seen asks b e =
    ap (λ (x : Bool). cond x (Some NoMemory) None) (e ∙ ap (λ (ps : List ℕ). nat_lt s.content.frames (used s.content + length ps)) (copies-all asks)) ∙ sym (rows-are asks)

-- ---- what holds where nothing refuses

-- ---- a snapshot that is asked for, by what it was found to see

pub asked-of : {s : State} {name parent : VmoName} {t : Target} {offset size : ℕ} {resizable no_write : Bool} {part : SeenPart}
    → IsSeenPart s.content (is_pinned s.pins t.koid.0) t offset size resizable no_write part → s.names parent.0 ≡ Some t → s.names name.0 ≡ None
    → IsAsked s name parent t offset size resizable no_write part.first part.seen
asked-of is named closed = record { named = named; closed = closed; asked = is.asked; few = is.few; sees = is.sees; at = is.at }
