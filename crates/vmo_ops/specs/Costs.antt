-- What a change to a range of pages takes.
use Rattle.std.specs.Prelude.{◌≡◌, ℕ, ◌+◌, ◌<◌, ◌≤◌, ◌⊎◌, max, min, true, not, List, length}
use Rattle.std.specs.List.{filter, list_any}
use Rattle.vm_base.specs.declared.refusal.Refusal.{Refusal}
use Rattle.vm_base.specs.declared.refusal.Refusal.TheVariants.{NoMemory, HostMemory}
use Rattle.vm_model.specs.Contents.Content.{Content, is_held, sole, used}
use Rattle.vm_model.specs.Contents.Owning.{need}
use Rattle.vm_model.specs.Contents.Writing.{touched}
use Rattle.vmo_ops.specs.declared.owning.TheConstants.{UNSEEN_PAGES}

-- how many of the pages that a range touches are held
abbrev pub held_touched : Content → ℕ → ℕ → ℕ → ℕ
held_touched c v offset len = length (filter (is_held c v) (touched offset len))

-- This many spare rows are enough to own these pages of v. None are needed if each page is sole, and otherwise one for
-- each page. A sole page may take a row too, if others are owned with it.
abbrev pub HasRows : Content → ℕ → List ℕ → ℕ → Type 0
HasRows c v ps spare = (need c v ps ≡ 0) ⊎ (length ps ≤ spare)

-- Room is asked for this many rows to own these pages of v: they are enough, and no more than the pages.
abbrev pub AsksToOwn : Content → ℕ → List ℕ → ℕ → Type 0
AsksToOwn c v ps rows = HasRows c v ps rows × (rows ≤ length ps)

-- Room is asked for this many rows to make the pages zero that a range touches. They are enough for those that are held.
-- They are no more than these, unless the range is short: then one for each page may be asked for.
abbrev pub AsksToZero : Content → ℕ → ℕ → ℕ → ℕ → Type 0
AsksToZero c v offset len rows =
    (held_touched c v offset len ≤ rows)
    × (rows ≤ max (held_touched c v offset len) (min (length (touched offset len)) UNSEEN_PAGES))

-- Owning these pages of v is refused. There are too few free frames, or there are enough and the host has too little
-- memory. Memory is wanted only if some of the pages is not sole.
abbrev pub LacksRoom : Content → ℕ → List ℕ → Refusal → Type 0
LacksRoom c v ps refusal =
    ((refusal ≡ NoMemory) × (c.frames < used c + need c v ps))
    ⊎ ((refusal ≡ HostMemory) × (used c + need c v ps ≤ c.frames)
    × (list_any (λ p. not (sole c v p)) ps ≡ true))
