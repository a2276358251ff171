-- What a checker of transcripts keeps: a machine whose frames have numbers of its own, and the numbers that were seen of the
-- frames of pinned pages. It stands for all machines that may have answered so.
use Rattle.std.specs.Prelude.{◌≡◌, ℕ, ◌<◌, Bool, true, false, not, ◌&&◌, ◌==◌, nat_lt, List, [], ◌∷◌, map, Option, None, Some}
use Rattle.vm_base.specs.Search.{any_below}
use Rattle.vm_base.specs.Entries.{with_key, passes}
use Rattle.vm_model.specs.Contents.Content.{Page}
use Rattle.vm_model.specs.Naming.Pins.{is_pinned}
use Rattle.vm_model.specs.Machine.Machine.{Machine}
use Rattle.moving_model.specs.Renaming.{Renaming, KeepsFrom, machine_renamed}

-- The machine own stands for other, where these are the numbers that were seen of own frames: other is own with its frames
-- renamed, and each pinned page has the number that was seen.
pub record StandsFor (own : Machine) (numbers : ℕ → Option ℕ) (other : Machine) : Type 0 where
  pub by : Renaming
  pub within : KeepsFrom by own.state.content.frames
  pub seen : (v p : ℕ) (held : Page) → is_pinned own.state.pins v p ≡ true → own.state.content.page v p ≡ Some held → numbers held.tag ≡ Some (by.to held.tag)
  pub is : other ≡ machine_renamed by own

-- the numbers, with these in place of what was seen of those frames
abbrev pub with_seen : (ℕ → Option ℕ) → List ℕ → List ℕ → ℕ → Option ℕ
with_seen numbers (frame ∷ frames) (seen ∷ more) = with_seen (with_key numbers frame seen) frames more
with_seen numbers frames more = numbers

-- The numbers that a pin tells may be those of these own frames: some renaming gives each frame its number, and each page that
-- was pinned before the number that was seen.
pub record Fits (own : Machine) (numbers : ℕ → Option ℕ) (frames told : List ℕ) : Type 0 where
  pub by : Renaming
  pub within : KeepsFrom by own.state.content.frames
  pub seen : (v p : ℕ) (held : Page) → is_pinned own.state.pins v p ≡ true → own.state.content.page v p ≡ Some held → numbers held.tag ≡ Some (by.to held.tag)
  pub tells : map by.to frames ≡ told

-- ---- which numbers fit, one after another

-- some frame has this number
abbrev pub is_number_taken : ℕ → (ℕ → Option ℕ) → ℕ → Bool
is_number_taken bound numbers k = any_below bound (λ t. passes (λ (seen : ℕ). seen == k) (numbers t))

-- a frame for which this was seen may have the number: the one that was seen, or else one that no frame has
abbrev pub may_have : ℕ → (ℕ → Option ℕ) → Option ℕ → ℕ → Bool
may_have bound numbers (Some seen) k = seen == k
may_have bound numbers None k = nat_lt k bound && not (is_number_taken bound numbers k)

-- these frames may have these numbers, one after another
abbrev pub may_tell : ℕ → (ℕ → Option ℕ) → List ℕ → List ℕ → Bool
may_tell bound numbers [] [] = true
may_tell bound numbers (frame ∷ frames) (k ∷ told) = may_have bound numbers (numbers frame) k && may_tell bound (with_key numbers frame k) frames told
may_tell bound numbers [] (k ∷ told) = false
may_tell bound numbers (frame ∷ frames) [] = false

-- What was seen are numbers of the machine, each of one frame, and exactly the frames of pinned pages have one.
pub record AreSeen (own : Machine) (numbers : ℕ → Option ℕ) : Type 0 where
  pub below : (t k : ℕ) → numbers t ≡ Some k → (t < own.state.content.frames) × (k < own.state.content.frames)
  pub one : (t u k : ℕ) → numbers t ≡ Some k → numbers u ≡ Some k → t ≡ u
  pub each : (v p : ℕ) (held : Page) → is_pinned own.state.pins v p ≡ true → own.state.content.page v p ≡ Some held → (k : ℕ) × (numbers held.tag ≡ Some k)
  pub only : (t k : ℕ) → numbers t ≡ Some k → (v p : ℕ) × (held : Page) × (is_pinned own.state.pins v p ≡ true) × (own.state.content.page v p ≡ Some held) × (held.tag ≡ t)

-- Of the numbers those are left whose frames pinned pages have.
pub record AreLeft (own : Machine) (numbers later : ℕ → Option ℕ) : Type 0 where
  pub same : (v p : ℕ) (held : Page) → is_pinned own.state.pins v p ≡ true → own.state.content.page v p ≡ Some held → later held.tag ≡ numbers held.tag
  pub only : (t k : ℕ) → later t ≡ Some k
      → (numbers t ≡ Some k) × ((v p : ℕ) × (held : Page) × (is_pinned own.state.pins v p ≡ true) × (own.state.content.page v p ≡ Some held) × (held.tag ≡ t))
