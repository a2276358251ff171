-- What an access through mappings does to pages, and to what is ready.
use Rattle.std.specs.Prelude.{◌≡◌, ℕ, Bool, true, not, List, length, None, Some, is_some, ◌⊎◌}
use Rattle.std.specs.List.{list_any}
use Rattle.vm_base.specs.declared.refusal.Refusal.{Refusal}
use Rattle.vm_base.specs.declared.refusal.Refusal.TheVariants.{HostMemory}
use Rattle.vm_model.specs.Contents.Content.{Content}
use Rattle.vm_model.specs.Contents.Writing.{touched}
use Rattle.vm_model.specs.Space.Readiness.{Ready, is_writable}
use Rattle.vm_model.specs.Machine.Access.{bytes_through, read_faults, after_reading, WritesThrough}
use Rattle.vm_model.specs.Machine.Refusals.{read_refusals, write_refusals, first_of}
use Rattle.ready_pages.specs.Changes.{Entries}

-- some page that a read of `len` bytes from the address touches is not ready
abbrev pub wants_reading : Ready → (root addr len : ℕ) → Bool
wants_reading ready root addr len = list_any (λ p. not (is_some (ready root p))) (touched addr len)

-- some page that a write of `len` bytes from the address touches is not ready for writing
abbrev pub wants_writing : Ready → (root addr len : ℕ) → Bool
wants_writing ready root addr len = list_any (λ p. not (is_writable (ready root p))) (touched addr len)

-- The refusal is the first of these whose condition holds, or it is that the host lacks memory, if memory may be
-- wanted.
pub record IsDenied (rows : List (Bool × Refusal)) (wants : Bool) (refusal : Refusal) : Type 0 where
  pub why : (first_of rows ≡ Some refusal) ⊎ ((first_of rows ≡ None) × (refusal ≡ HostMemory) × (wants ≡ true))

-- the read is refused, and what is ready stays
abbrev pub DeniesRead : Content → Entries → (root addr len : ℕ) → (old new : Ready) → Refusal → Type 0
DeniesRead c table root addr len old new refusal =
    IsDenied (read_refusals c (table root) (touched addr len)) (wants_reading old root addr len) refusal × (new ≡ old)

-- the write is refused, and the content and what is ready stay
abbrev pub DeniesWrite : Content → Entries → (root addr len : ℕ) → (old : Ready) → Content → (new : Ready) → Refusal → Type 0
DeniesWrite c table root addr len old d new refusal =
    IsDenied (write_refusals c (table root) (touched addr len)) (wants_writing old root addr len) refusal × (d ≡ c) × (new ≡ old)

-- Nothing refuses the read. It gave these bytes with so many page faults, and this is ready afterwards.
pub record ReadsReady (c : Content) (table : Entries) (root addr len : ℕ) (old : Ready) (faults : ℕ) (bytes : List ℕ) (new : Ready) : Type 0 where
  pub free : first_of (read_refusals c (table root) (touched addr len)) ≡ None
  pub faults_are : faults ≡ read_faults (old root) (touched addr len)
  pub bytes_are : bytes ≡ bytes_through c (table root) addr len
  pub ready : new ≡ after_reading root (touched addr len) old

-- Nothing refuses the write. It was done page by page with so many page faults.
pub record WritesReady (c : Content) (table : Entries) (root addr : ℕ) (bytes : List ℕ) (old : Ready) (faults : ℕ) (d : Content) (new : Ready) : Type 0 where
  pub free : first_of (write_refusals c (table root) (touched addr (length bytes))) ≡ None
  pub writes : WritesThrough table root addr bytes (touched addr (length bytes)) (record { content = c; ready = old }) faults (record { content = d; ready = new })
