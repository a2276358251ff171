-- The frames of a pool behind the rows of a clone tree.
use Rattle.std.specs.Prelude.{◌≡◌, ◌⊎◌, ℕ, ◌<◌, List, Option, None, Some}
use Rattle.vm_base.specs.Pages.{zeros}
use Rattle.vm_base.specs.Entries.{without_key}
use Rattle.frame_pool.specs.Pool.{Pool, frame_bytes, links_of, taken_count, taken_frames}
use Rattle.cow_arena.specs.Walk.{Tree, frame_shown}
use Rattle.cow_split.specs.Sight.{IsLastViewer}
use Rattle.vm_base.specs.declared.names.Tag.{Tag}
use Rattle.cow_split.specs.declared.answers.Cut.{Cut}
use Rattle.cow_split.specs.declared.answers.Cut.TheVariants as cut

-- the bytes that a page shows by this frame, or zeros
abbrev pub bytes_shown : Pool → Option ℕ → List ℕ
bytes_shown pool None = zeros
bytes_shown pool (Some t) = frame_bytes pool t

-- page p of v shows the frame t, and no other visible node does
pub record IsSole (t : Tree) (v p tag : ℕ) : Type 0 where
  pub shows : frame_shown t v p ≡ Some tag
  pub last : IsLastViewer t v tag

-- page p of v shows a frame alone
pub record HasSole (t : Tree) (v p : ℕ) : Type 0 where
  pub tag : ℕ
  pub sole : IsSole t v p tag

-- The frame that page p of v shows alone is given back, if there is one. No other frame and no backlink changes.
pub record GivesSole (t : Tree) (v p : ℕ) (before after : Pool) : Type 0 where
  pub given : (tag : ℕ) → IsSole t v p tag → taken_frames after ≡ without_key (taken_frames before) tag
  pub kept : ((tag : ℕ) → IsSole t v p tag → ⊥) → taken_frames after ≡ taken_frames before
  -- each frame keeps its bytes or is given back
  pub gives : (tag : ℕ) → (taken_frames after tag ≡ taken_frames before tag) ⊎ (taken_frames after tag ≡ None)
  pub links : links_of after ≡ links_of before
  pub frames : after.frames ≡ before.frames

-- some frame is free
abbrev pub HasFree : Pool → Type 0
HasFree pool = taken_count pool < pool.frames

-- the answer leaves a frame to the one who asked
pub record LeavesFrame (answer : Cut) : Type 0 where
  pub tag : Tag
  pub last : answer ≡ cut.LastViewer tag
