-- The pool of page frames as plain lists, and what it is to its callers: a number of frames, and a map from the tags of
-- those that are taken to their bytes.
use Rattle.std.specs.Prelude.{◌≡◌, ℕ, ◌+◌, ◌<◌, ◌≤◌, Bool, true, false, ◌||◌, ◌==◌, List, [], ◌∷◌, length, slice_get, slice_index_or, if◌then◌else◌, Option, None, is_some, unwrap_or}
use Rattle.vm_base.specs.declared.limits.TheConstants.{FRAMES}
use Rattle.vm_base.specs.declared.names.Tag.{Tag}
use Rattle.vm_base.specs.Entries.{with_key, entry_count}
use Rattle.frame_pool.specs.declared.frame_pool.Backlink.{Backlink}

-- the number of frames, the bytes of those that were taken at some time, by tag, the backlinks of all, and those of the
-- frames that were taken at some time that were given back, the last one first
pub record Pool : Type 0 where
  pub frames : ℕ
  pub buffer : List (List ℕ)
  pub links : List Backlink
  pub idle : List Tag

-- the tag t is in the list
unfoldable pub is_idle : List Tag → ℕ → Bool
is_idle [] t = false
is_idle (tag ∷ tags) t = (tag.0 == t) || is_idle tags t

-- the frames that are taken, with their bytes. None if a frame is free, or no frame of the machine
unfoldable pub taken_frames : Pool → ℕ → Option (List ℕ)
taken_frames p t = if is_idle p.idle t then None else slice_get p.buffer t

-- the frame of this tag is taken
abbrev pub is_taken : Pool → ℕ → Bool
is_taken p t = is_some (taken_frames p t)

-- the bytes of a frame that is taken
abbrev pub frame_bytes : Pool → ℕ → List ℕ
frame_bytes p t = unwrap_or (taken_frames p t) []

-- the backlink of a frame that none was given
abbrev pub no_link : Backlink
no_link = record { list = 0; page = 0 }

-- the backlink of each frame
abbrev pub links_of : Pool → ℕ → Backlink
links_of p t = slice_index_or p.links t no_link

-- how many frames are taken
abbrev pub taken_count : Pool → ℕ
taken_count p = entry_count p.frames (λ bytes. true) (taken_frames p)

-- the frame t was free, and is taken now with these bytes
pub record Takes (old new : Pool) (t : ℕ) (bytes : List ℕ) : Type 0 where
  pub below : t < old.frames
  pub was_free : taken_frames old t ≡ None
  pub taken : taken_frames new ≡ with_key (taken_frames old) t bytes

-- the tags are below n, and no two are equal
unfoldable pub AreDistinctBelow : ℕ → List Tag → Type 0
AreDistinctBelow n [] = Unit {0}
AreDistinctBelow n (tag ∷ tags) = (tag.0 < n) × (is_idle tags tag.0 ≡ false) × AreDistinctBelow n tags

-- What holds of every pool.
pub record IsPool (p : Pool) : Type 0 where
  pub bound : p.frames ≤ FRAMES
  pub fits : length p.buffer ≤ p.frames
  pub idle : AreDistinctBelow (length p.buffer) p.idle
  pub counted : taken_count p + length p.idle ≡ length p.buffer
