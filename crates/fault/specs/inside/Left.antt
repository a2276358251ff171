-- What a change of pages leaves of the translations.
use Rattle.std.specs.Prelude.{ℕ, Bool, if◌then◌else◌, Option}
use Rattle.std.specs.Option.{option_map}
use Rattle.vm_base.specs.declared.limits.TheConstants.{VMO_PAGES}
use Rattle.vm_model.specs.declared.space.Readiness.TheVariants.{Read}
use Rattle.vm_model.specs.Contents.Content.{Content}
use Rattle.vm_model.specs.Naming.Pins.{Pin, is_pinned}
use Rattle.vm_model.specs.Space.Readiness.{shows_but}
use Rattle.ready_pages.specs.declared.change.Change.{Change}
use Rattle.fault.specs.declared.translation.Translation.{Translation}
use Rattle.fault.specs.Table.{Places, translations_without, is_translation_of, is_stale, is_at}

-- the translation, left for reading alone if it is of a page of the VMO v, from `first` to below `end`, that does not
-- pass
abbrev pub restricted_but : (stays : ℕ → Bool) → (v first end : ℕ) → Translation → Translation
restricted_but stays v first end x = if shows_but stays v first end x.entry then record x { readiness = Read } else x

-- the translations, with those of such pages left for reading alone
unfoldable pub with_read_only_but : (stays : ℕ → Bool) → (v first end : ℕ) → Places → Places
with_read_only_but stays v first end places root p = option_map (restricted_but stays v first end) (places root p)

-- the translations that the change leaves, once the content is this
abbrev pub left_by : Change → Content → (ℕ → Option Pin) → Places → Places
left_by Change.None d pins places = places
left_by (Change.Frames v first end) d pins places = translations_without (is_stale d v.0 first end) places
left_by (Change.Past v first) d pins places = translations_without (is_translation_of v.0 first VMO_PAGES) places
left_by (Change.Shared v first end) d pins places = with_read_only_but (is_pinned pins v.0) v.0 first end places
left_by (Change.Mapped root first end) d pins places = translations_without (is_at root.0 first end) places
