-- The state of the machine: what the page store contains, the names of VMOs, the lineage of each VMO, the pins, and the
-- address spaces.
use Rattle.std.specs.Prelude.{◌≡◌, ℕ, ◌+◌, ◌-◌, ◌*◌, ◌<◌, ◌≤◌, min, Bool, true, false, ◌||◌, List, Option, None, Some, IsSome, is_some, unwrap_or}
use Rattle.std.specs.List.{filter, range_with_len}
use Rattle.vm_base.specs.declared.limits.TheConstants.{PAGE, NAMES, PIN_PAGES}
use Rattle.vm_model.specs.declared.names.NameKind.TheVariants.{Slice}
use Rattle.vm_model.specs.declared.names.Origin.TheVariants.{Created}
use Rattle.vm_model.specs.Contents.Content.{Content, nothing, pages_of, sole, IsGood}
use Rattle.vm_model.specs.declared.names.Target.{Target}
use Rattle.vm_model.specs.Naming.Names.{Lineage, owner, is_named}
use Rattle.vm_model.specs.Naming.Pins.{Pin, is_pinned, has_pin, pin_count}
use Rattle.vm_model.specs.Space.AddressSpaces.{Spaces, no_spaces, is_mapped, mapped_count, AreGoodSpaces}

pub record State : Type 0 where
  pub content : Content
  pub names : ℕ → Option Target
  pub lineage : ℕ → Option Lineage
  pub pins : ℕ → Option Pin
  pub spaces : Spaces

-- a machine with this many frames and nothing else
unfoldable pub empty_state : ℕ → State
empty_state frames = record { content = record nothing { frames = frames }; names = λ n. None; lineage = λ v. None; pins = λ n. None; spaces = no_spaces }

abbrev pub is_open : State → ℕ → Bool
is_open s name = is_some (s.names name)

-- the name was given to a region
abbrev pub is_given : State → ℕ → Bool
is_given s name = is_some (s.spaces.regions name)

-- what the name stands for. If the name is not open, this means nothing
unfoldable pub target_of : State → ℕ → Target
target_of s name = unwrap_or (s.names name) (owner 0 false false)

-- the koid of the VMO that the name stands for
abbrev pub koid_of : State → ℕ → ℕ
koid_of s name = (target_of s name).koid.0

-- how many pages the name has
abbrev pub name_pages : Content → Target → ℕ
name_pages c target = unwrap_or target.limit (pages_of c target.koid.0)

-- the bytes of the name
abbrev pub size_of : State → ℕ → ℕ
size_of s name = name_pages s.content (target_of s name) * PAGE

-- the place in the VMO, in bytes, of an offset in the name
abbrev pub place_of : State → ℕ → ℕ → ℕ
place_of s name offset = (target_of s name).first * PAGE + offset

-- how many pages of a name a snapshot of `pages` pages sees, from page `start` of the name on. Differences stop at 0
abbrev pub seen_pages : Content → Target → ℕ → ℕ → ℕ
seen_pages c target start pages = min pages (name_pages c target - start)

-- those pages of the snapshot that are copies of pinned pages, in ascending order
abbrev pub pinned_copies : State → Target → ℕ → ℕ → List ℕ
pinned_copies s target start pages =
    filter (λ q. is_pinned s.pins target.koid.0 (target.first + start + q)) (range_with_len 0 (seen_pages s.content target start pages))

-- the lineage of the VMO v. If there is none, this means nothing
unfoldable pub lineage_of : State → ℕ → Lineage
lineage_of s v = unwrap_or (s.lineage v) (record { resizable = false; origin = Created; parent = None })

-- a VMO is live as long as a name stands for it, a pin is of it, or some page of an address space shows a page of it
unfoldable pub is_live : State → ℕ → Bool
is_live s v = is_named s.names v || (has_pin s.pins v || is_mapped s.spaces v)

-- how many keepers the VMO v has beside its names: the pins that are of it, and the pages of address spaces that show a
-- page of it
abbrev pub keeper_count : State → ℕ → ℕ
keeper_count s v = pin_count s.pins v + mapped_count s.spaces v

-- What holds of every name: it stands for a VMO. A name of a part is a slice of a VMO that keeps its size, and the part
-- lies inside the VMO.
pub record IsGoodName (s : State) (target : Target) : Type 0 where
  pub vmo : IsSome (s.content.count target.koid.0)
  pub whole : target.limit ≡ None → target.first ≡ 0
  pub part : (n : ℕ) → target.limit ≡ Some n → (target.kind ≡ Slice) × ((lineage_of s target.koid.0).resizable ≡ false) × (target.first + n ≤ pages_of s.content target.koid.0)
  pub resize : target.may_resize ≡ true → (lineage_of s target.koid.0).resizable ≡ true

-- What holds of every pin: it is of a VMO, and its pages, from 1 to PIN_PAGES, lie inside the VMO and are sole.
pub record IsGoodPin (s : State) (pin : Pin) : Type 0 where
  pub vmo : IsSome (s.content.count pin.koid)
  pub few : (1 ≤ pin.count) × (pin.count ≤ PIN_PAGES)
  pub inside : pin.first + pin.count ≤ pages_of s.content pin.koid
  pub alone : (p : ℕ) → pin.first ≤ p → p < pin.first + pin.count → sole s.content pin.koid p ≡ true

-- What holds of every state that the machine comes to.
pub record IsGoodState (s : State) : Type 0 where
  pub content : IsGood s.content
  pub names : (n : ℕ) (target : Target) → s.names n ≡ Some target → (n < NAMES) × IsGoodName s target
  -- the VMOs of the content have a lineage, and no other koid has. Each of them is live
  pub known : (v : ℕ) → is_some (s.lineage v) ≡ is_some (s.content.count v)
  pub live : (v : ℕ) → IsSome (s.lineage v) → is_live s v ≡ true
  -- a parent is a VMO, and older than its child
  pub parents : (v p : ℕ) (l : Lineage) → s.lineage v ≡ Some l → l.parent ≡ Some p → (p < v) × IsSome (s.lineage p)
  pub pins : (n : ℕ) (pin : Pin) → s.pins n ≡ Some pin → (n < NAMES) × IsGoodPin s pin
  pub spaces : AreGoodSpaces s.content s.spaces
