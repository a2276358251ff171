-- How the translations of each page of each VMO are linked to a list.
use Rattle.std.specs.Prelude.{◌≡◌, ℕ, zero, suc, ◌-◌, ◌<◌, ◌==◌, ◌&&◌, ◌⊎◌, min, Bool, false, if◌then◌else◌, Option, None, Some, IsSome}
use Rattle.std.specs.Option.{option_map}
use Rattle.slab.specs.Slab.{Slab, get, slab_len}
use Rattle.balanced_tree.specs.Pairs.{with_pair}
use Rattle.vm_base.specs.Entries.{with_key, without_key}
use Rattle.vm_base.specs.declared.names.Tag.{Tag}
use Rattle.vm_model.specs.declared.space.Readiness.TheVariants.{Read}
use Rattle.fault.specs.declared.translation.Translation.{Translation}
use Rattle.fault.specs.declared.translation.Place.{Place}
use Rattle.fault.specs.declared.translation.Link.{Link}
use Rattle.fault.specs.declared.translation.Kept.{Kept}
use Rattle.fault.specs.inside.Pages.{Pages, room_left}

-- the link of each number, if there is one
abbrev pub Links : Type 0
Links = ℕ → Option Link

-- page p of an address space
abbrev pub place_in_space : (root p : ℕ) → Place
place_in_space root p = record { root = record { 0 = root }; page = p }

-- how many translations more fit: one takes room in each map, and a link
abbrev pub room_in : Pages → Pages → Slab Link → ℕ
room_in places lists links = min (min (room_left places) (room_left lists)) (links.capacity - slab_len links)

-- the translation that was found
abbrev pub translation_in : Option Kept → Option Translation
translation_in kept = option_map (λ (k : Kept). k.translation) kept

-- ---- what a link says

-- a page of a VMO, by koid and number, and the frame that a translation of it holds
abbrev pub Shown : Type 0
Shown = ℕ × ℕ × Option Tag

-- the page that a translation shows, and its frame
abbrev pub page_and_frame : Translation → Shown
page_and_frame x = (x.entry.koid.0, x.entry.page, x.frame)

-- what the link with this number shows
abbrev pub shown_in : Links → ℕ → Option Shown
shown_in links x = option_map (λ (k : Link). page_and_frame k.translation) (links x)

-- the page that the link with this number is of
abbrev pub place_in : Links → ℕ → Option Place
place_in links x = option_map (λ (k : Link). k.place) (links x)

-- a link that a link leads to, if that is there
abbrev pub led_to : (Link → Option ℕ) → Option Link → Option ℕ
led_to side None = None
led_to side (Some k) = side k

-- what is before the link with this number
abbrev pub previous_in : Links → ℕ → Option ℕ
previous_in links x = led_to (λ k. k.previous) (links x)

-- what is behind it
abbrev pub next_in : Links → ℕ → Option ℕ
next_in links x = led_to (λ k. k.next) (links x)

-- the link with this number holds this frame
abbrev pub Holds : Links → Option Tag → ℕ → Type 0
Holds links frame x = (k : Link) → links x ≡ Some k → k.translation.frame ≡ frame

-- The link with this number may hold this frame with no other translation forgotten: it holds it already, or is alone in
-- its list.
abbrev pub MayHold : Links → Option Tag → ℕ → Type 0
MayHold links frame x = (k : Link) → links x ≡ Some k → (k.translation.frame ≡ frame) ⊎ ((k.previous ≡ None) × (k.next ≡ None))

-- ---- what holds of all links

-- Links are lists, one for each page of a VMO that has a translation. The links of a list show its page and hold one
-- frame. What is behind a link has that link before it, and the other way round. Links have an order in which each comes
-- behind the one before it, so each list begins with a link that has none before it.
pub record AreLists (shown : ℕ → Option Shown) (previous next : ℕ → Option ℕ) (lists : ℕ → ℕ → Option ℕ) (count : ℕ) : Type 0 where
  pub order : ℕ → ℕ
  pub first : (v p x : ℕ) → lists v p ≡ Some x → (frame : Option Tag) × (shown x ≡ Some (v, p, frame)) × (previous x ≡ None)
  pub head : (v p x : ℕ) (frame : Option Tag) → shown x ≡ Some (v, p, frame) → previous x ≡ None → lists v p ≡ Some x
  pub before : (x y : ℕ) → previous x ≡ Some y → (next y ≡ Some x) × (shown y ≡ shown x) × (order y < order x)
  pub behind : (x y : ℕ) → next x ≡ Some y → previous y ≡ Some x
  pub there : (x y : ℕ) → previous x ≡ Some y → IsSome (shown x)
  pub below : (x : ℕ) → IsSome (shown x) → order x < count
  pub apart : (x y : ℕ) → IsSome (shown x) → IsSome (shown y) → order x ≡ order y → x ≡ y

-- each page that is translated has a link, and each link is of such a page
pub record ArePlaced (places : ℕ → ℕ → Option ℕ) (at : ℕ → Option Place) : Type 0 where
  pub link : (root p x : ℕ) → places root p ≡ Some x → at x ≡ Some (place_in_space root p)
  pub place : (x : ℕ) (w : Place) → at x ≡ Some w → places w.root.0 w.page ≡ Some x

-- The links are those of the pages that are translated, and stand in their lists.
pub record AreLinkedInLists (places lists : ℕ → ℕ → Option ℕ) (links : Links) (count : ℕ) : Type 0 where
  pub placed : ArePlaced places (place_in links)
  pub listed : AreLists (shown_in links) (previous_in links) (next_in links) lists count

-- the link is the first of a list
pub record BeginsList (links : Slab Link) (first : ℕ) : Type 0 where
  pub lists : ℕ → ℕ → Option ℕ
  pub listed : AreLists (shown_in (get links)) (previous_in (get links)) (next_in (get links)) lists (slab_len links)
  pub v : ℕ
  pub p : ℕ
  pub is : lists v p ≡ Some first

-- ---- changes of links

-- a link with something else behind it
abbrev pub to_next : Option ℕ → Link → Link
to_next next k = record k { next = next }

-- a link with something else before it
abbrev pub to_previous : Option ℕ → Link → Link
to_previous previous k = record k { previous = previous }

-- the links, one of them changed, if there is one to change
unfoldable pub set_in : (Link → Link) → Option ℕ → Links → Links
set_in change None links = links
set_in change (Some y) links = λ x. if x == y then option_map change (links x) else links x

-- a link between two others
abbrev pub link_between : Translation → Place → (previous next : Option ℕ) → Link
link_between x w previous next = record { translation = x; place = w; previous = previous; next = next }

-- the links, with a link more behind this one
abbrev pub linked_behind : Links → (first number : ℕ) → Translation → Place → Links
linked_behind links first number x w =
    set_in (to_previous (Some number)) (next_in links first) (set_in (to_next (Some number)) (Some first)
    (with_key links number (link_between x w (Some first) (next_in links first))))

-- the links without this one, and those beside it linked to each other
abbrev pub unlinked : Links → ℕ → Links
unlinked links x = set_in (to_previous (previous_in links x)) (next_in links x) (set_in (to_next (next_in links x)) (previous_in links x) (without_key links x))

-- the first links of all lists, once a link is gone that had this one before it
abbrev pub first_behind : Option ℕ → (ℕ → ℕ → Option ℕ) → Link → ℕ → ℕ → Option ℕ
first_behind None lists k = with_pair lists k.translation.entry.koid.0 k.translation.entry.page k.next
first_behind (Some y) lists k = lists

-- the first links of all lists, once this link is gone
abbrev pub first_after : (ℕ → ℕ → Option ℕ) → Link → ℕ → ℕ → Option ℕ
first_after lists k = first_behind k.previous lists k

-- the link is left for reading alone
abbrev pub read_only : Link → Link
read_only k = record k { translation = record k.translation { readiness = Read } }

-- the link shows this page of a VMO
abbrev pub is_shown : Option Shown → Link → Bool
is_shown None k = false
is_shown (Some page) k = (k.translation.entry.koid.0 == page.0) && (k.translation.entry.page == page.1)

-- the links, those that show the page of this one left for reading alone
unfoldable pub restricted_beside : Links → ℕ → Links
restricted_beside links first x = option_map (λ k. if is_shown (shown_in links first) k then read_only k else k) (links x)

-- ---- the way through a list

-- what is so many links behind
abbrev pub ahead : (ℕ → Option ℕ) → ℕ → Option ℕ → Option ℕ
ahead next zero at = at
ahead next (suc n) None = None
ahead next (suc n) (Some x) = ahead next n (next x)

-- how many links are there from one on, counted up to a limit
abbrev pub steps_from : (ℕ → Option ℕ) → ℕ → Option ℕ → ℕ
steps_from next zero at = 0
steps_from next (suc n) None = 0
steps_from next (suc n) (Some x) = suc (steps_from next n (next x))
