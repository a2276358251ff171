-- What an access through mappings does to a store and the translations.
use Rattle.std.specs.Prelude.{◌≡◌, ℕ, List, length, Result, MatchResult}
use Rattle.vm_base.specs.declared.refusal.Refusal.{Refusal}
use Rattle.vm_model.specs.Contents.Content.{Content}
use Rattle.vm_model.specs.Contents.Writing.{touched}
use Rattle.vm_model.specs.Machine.Refusals.{read_refusals, write_refusals}
use Rattle.ready_pages.specs.Access.{wants_reading, wants_writing, IsDenied, ReadsReady, WritesReady}
use Rattle.ready_pages.specs.Changes.{Entries}
use Rattle.fault.specs.Table.{Places, ready_of}

-- the read is refused, and no translation changes
abbrev pub RefusesRead : Content → Entries → (root addr len : ℕ) → (old new : Places) → Refusal → Type 0
RefusesRead c table root addr len old new refusal =
    IsDenied (read_refusals c (table root) (touched addr len)) (wants_reading (ready_of old) root addr len) refusal × (new ≡ old)

-- the write is refused, and neither the content nor a translation changes
abbrev pub RefusesWrite : Content → Entries → (root addr len : ℕ) → (old : Places) → Content → (new : Places) → Refusal → Type 0
RefusesWrite c table root addr len old d new refusal =
    IsDenied (write_refusals c (table root) (touched addr len)) (wants_writing (ready_of old) root addr len) refusal × (d ≡ c) × (new ≡ old)

-- Nothing refuses the read. It gave these bytes with so many page faults, and the translations are those of what is
-- ready afterwards.
abbrev pub ReadsSpace : Content → Entries → (root addr len : ℕ) → (old : Places) → (faults : ℕ) → List ℕ → (new : Places) → Type 0
ReadsSpace c table root addr len old faults bytes new = ReadsReady c table root addr len (ready_of old) faults bytes (ready_of new)

-- A read of `len` bytes has this answer: how many page faults it took, with these bytes, or why it is refused.
abbrev pub AnswersRead : Content → Entries → (root addr len : ℕ) → (old : Places) → List ℕ → (new : Places) → Result ℕ Refusal → Type 0
AnswersRead c table root addr len old bytes new answer =
    MatchResult answer (λ faults. ReadsSpace c table root addr len old faults bytes new) (RefusesRead c table root addr len old new)

-- Nothing refuses the write. It was done page by page with so many page faults.
abbrev pub WritesSpace : Content → Entries → (root addr : ℕ) → List ℕ → (old : Places) → (faults : ℕ) → Content → (new : Places) → Type 0
WritesSpace c table root addr bytes old faults d new = WritesReady c table root addr bytes (ready_of old) faults d (ready_of new)

-- A write of these bytes has this answer: how many page faults it took, or why it is refused.
abbrev pub AnswersWrite : Content → Entries → (root addr : ℕ) → List ℕ → (old : Places) → Content → (new : Places) → Result ℕ Refusal → Type 0
AnswersWrite c table root addr bytes old d new answer =
    MatchResult answer (λ faults. WritesSpace c table root addr bytes old faults d new) (RefusesWrite c table root addr (length bytes) old d new)
