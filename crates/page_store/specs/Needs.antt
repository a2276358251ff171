-- The frames that owning pages takes.
use Rattle.std.specs.Prelude.{◌≡◌, ℕ, ◌<◌, ◌⊎◌, Bool, true, false, ◌==◌, if◌then◌else◌}
use Rattle.vm_model.specs.Contents.Content.{Content, sole, used}
use Rattle.page_store.specs.declared.page_store.Look.{Look}
use Rattle.page_store.specs.declared.page_store.Look.TheVariants.{Zero, Held}

-- how many frames it takes to own a page
abbrev pub need_by : Look → ℕ
need_by Zero = 1
need_by (Held tag alone) = if alone then 0 else 1

-- both pages are held, with one frame
abbrev pub have_one_frame : Look → Look → Bool
have_one_frame (Held first _) (Held second _) = first.0 == second.0
have_one_frame _ _ = false

-- page p of the VMO v is sole, or a frame is free for it
abbrev pub MayOwn : Content → (v p : ℕ) → Type 0
MayOwn c v p = (sole c v p ≡ true) ⊎ (used c < c.frames)
