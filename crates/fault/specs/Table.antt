-- The translations as their callers see them, when they are true, and what the resets leave of them.
use Rattle.std.specs.Prelude.{◌≡◌, ℕ, ◌+◌, ◌<◌, Bool, true, not, ◌&&◌, ◌==◌, if◌then◌else◌, Option, None, Some, IfSome}
use Rattle.std.specs.Option.{option_map}
use Rattle.vm_base.specs.Entries.{passes}
use Rattle.vm_model.specs.declared.space.Entry.{Entry}
use Rattle.vm_model.specs.declared.space.Readiness.{Readiness}
use Rattle.vm_model.specs.declared.space.Readiness.TheVariants.{Read, Write}
use Rattle.vm_model.specs.Contents.Content.{Content, sole, pages_of}
use Rattle.vm_model.specs.Contents.Zeroing.{is_within}
use Rattle.vm_model.specs.Space.Readiness.{Ready, frame_at, is_same_frame, shows_in, frame_number}
use Rattle.slab.specs.Slab.{Slab, get}
use Rattle.fault.specs.declared.translation.Translation.{Translation}
use Rattle.fault.specs.declared.translation.Link.{Link}
use Rattle.fault.specs.inside.Pages.{Pages, link_numbers}

-- the translation of each page of each address space
abbrev pub Places : Type 0
Places = ℕ → ℕ → Option Translation

-- The number of the link of each page that is translated, and of the first link of each page of a VMO that has
-- translations; the links; and how many more translations fit with no memory from the host.
pub record Table : Type 0 where
  pub rows : Pages
  pub lists : Pages
  pub links : Slab Link
  pub room : ℕ

-- the translation of the link with this number, if there is one
abbrev pub translation_at : (ℕ → Option Link) → Option ℕ → Option Translation
translation_at links None = None
translation_at links (Some x) = option_map (λ (k : Link). k.translation) (links x)

-- the translation of each page, by the number of its link
abbrev pub translations_in : (ℕ → Option Link) → (ℕ → ℕ → Option ℕ) → Places
translations_in links rows root p = translation_at links (rows root p)

-- the translation of each page of each address space
abbrev pub translations_of : Table → Places
translations_of t = translations_in (get t.links) (link_numbers t.rows)

-- the number of the link of each page
abbrev pub link_of : Table → ℕ → ℕ → Option ℕ
link_of t = link_numbers t.rows

-- the number of the first link of each page of a VMO
abbrev pub first_links_of : Table → ℕ → ℕ → Option ℕ
first_links_of t = link_numbers t.lists

-- how many more translations fit with no memory from the host
abbrev pub room_of : Table → ℕ
room_of t = t.room

-- what a page is ready for by its translation, if it has one
abbrev pub readiness_of : Option Translation → Option Readiness
readiness_of place = option_map (λ (x : Translation). x.readiness) place

-- what each page is ready for by its translation
abbrev pub ready_of : Places → Ready
ready_of places root p = readiness_of (places root p)

-- the number of the frame that a translation holds
abbrev pub translated_frame : Translation → Option ℕ
translated_frame x = frame_number x.frame

-- Each translation is of an entry of the table, and holds the frame that the page of the VMO has. That page lies in its
-- VMO. If the translation may be written by, the page is sole.
pub record AreTrue (c : Content) (table : ℕ → ℕ → Option Entry) (places : Places) : Type 0 where
  pub entry : (root p : ℕ) (x : Translation) → places root p ≡ Some x → table root p ≡ Some x.entry
  pub frame : (root p : ℕ) (x : Translation) → places root p ≡ Some x → translated_frame x ≡ frame_at c x.entry.koid.0 x.entry.page
  pub below : (root p : ℕ) (x : Translation) → places root p ≡ Some x → x.entry.page < pages_of c x.entry.koid.0
  pub alone : (root p : ℕ) (x : Translation) → places root p ≡ Some x → x.readiness ≡ Write → sole c x.entry.koid.0 x.entry.page ≡ true

-- the translation of page p of an address space, if it has one, is of this entry
abbrev pub IsOfEntry : Places → (root p : ℕ) → Entry → Type 0
IsOfEntry places root p entry = IfSome (places root p) (λ x. x.entry ≡ entry)

-- the translations, with this one of a page
unfoldable pub with_translation : Places → (root p : ℕ) → Translation → Places
with_translation places root p x r q = if (r == root) && (q == p) then Some x else places r q

-- the translations, without those that pass
unfoldable pub translations_without : (ℕ → ℕ → Translation → Bool) → Places → Places
translations_without goes places root p = if passes (goes root p) (places root p) then None else places root p

-- the translation is of a page of the VMO v from `first` to below `end`
abbrev pub is_translation_of : (v first end : ℕ) → ℕ → ℕ → Translation → Bool
is_translation_of v first end root p x = shows_in v first end x.entry

-- the translation is of such a page, and the page has another frame than the translation holds
abbrev pub is_stale : Content → (v first end : ℕ) → ℕ → ℕ → Translation → Bool
is_stale c v first end root p x = shows_in v first end x.entry && not (is_same_frame (translated_frame x) (frame_at c v x.entry.page))

-- the translation is of page p of the VMO v, and holds another frame than this one
abbrev pub is_outdated : (v p : ℕ) → Option ℕ → ℕ → ℕ → Translation → Bool
is_outdated v p frame root q x = shows_in v p (p + 1) x.entry && not (is_same_frame (translated_frame x) frame)

-- the translation is of a page of the address space from `first` to below `end`
abbrev pub is_at : (root first end : ℕ) → ℕ → ℕ → Translation → Bool
is_at root first end r p x = (r == root) && is_within first end p

-- the translation, left for reading alone if it is of a page of the VMO v from `first` to below `end`
abbrev pub restricted : (v first end : ℕ) → Translation → Translation
restricted v first end x = if shows_in v first end x.entry then record x { readiness = Read } else x

-- the translations, with those of pages of the VMO v from `first` to below `end` left for reading alone
unfoldable pub with_read_only : (v first end : ℕ) → Places → Places
with_read_only v first end places root p = option_map (restricted v first end) (places root p)
