-- The arguments of commands of one shape, and the flags of regions and mappings.
use Rattle.std.specs.Prelude.{ℕ, ◌+◌, Bool, false, List, [], ◌∷◌, length, slice_index, codes, Option, None, Some}
use Rattle.vm_base.specs.declared.names.VmoName.{VmoName}
use Rattle.vm_base.specs.declared.names.RegionName.{RegionName}
use Rattle.vm_base.specs.declared.flags.MapFlags.{MapFlags}
use Rattle.vm_base.specs.declared.flags.Perm.{Perm}
use Rattle.vm_model.specs.Space.Rights.{reading, writing, executing, specific, overwrite, upper_limit, allow_faults}
use Rattle.vm_model.specs.Language.Reading.{vmo, region, byte_data, bit, is_blank, stands}
use Rattle.script_text.specs.inside.Groups.{range_of_vmo, range_of_region}

-- the argument of a command of one VMO
abbrev pub one_vmo : List (List ℕ) → Option VmoName
one_vmo (a ∷ []) = vmo a
one_vmo _ = None

-- the arguments of a command of a range of a VMO
abbrev pub vmo_range : List (List ℕ) → Option (VmoName × ℕ × ℕ)
vmo_range (a ∷ b ∷ c ∷ []) = range_of_vmo a b c
vmo_range _ = None

-- the three words that there are
abbrev pub three_words : List (List ℕ) → Option (List ℕ × List ℕ × List ℕ)
three_words (a ∷ b ∷ c ∷ []) = Some (a, b, c)
three_words _ = None

-- the byte data that is the only word
abbrev pub only_data : List (List ℕ) → Option (List ℕ)
only_data (w ∷ []) = byte_data w
only_data _ = None

-- the last byte is a blank
abbrev pub ends_blank : List ℕ → Bool
ends_blank [] = false
ends_blank (b ∷ bs) = is_blank (slice_index (b ∷ bs) (length bs))

-- the argument of a command of one region
abbrev pub one_region : List (List ℕ) → Option RegionName
one_region (a ∷ []) = region a
one_region _ = None

-- the arguments of a command of a range of a region
abbrev pub region_range : List (List ℕ) → Option (RegionName × ℕ × ℕ)
region_range (a ∷ b ∷ c ∷ []) = range_of_region a b c
region_range _ = None

-- the flags of a region
abbrev pub region_flag_words : List (List ℕ)
region_flag_words =
    codes "specific" ∷ codes "upper_limit" ∷ codes "can_read" ∷ codes "can_write" ∷ codes "can_execute" ∷ []

-- the flags of a mapping
abbrev pub map_flag_words : List (List ℕ)
map_flag_words = codes "specific" ∷ codes "specific_overwrite" ∷ codes "upper_limit" ∷ codes "allow_faults" ∷ []

-- how a region is placed, by its flags
abbrev pub region_flags : List (List ℕ) → MapFlags
region_flags ws = record { 0 = bit (stands (codes "specific") ws) specific + bit (stands (codes "upper_limit") ws) upper_limit }

-- what a region allows, by its flags
abbrev pub region_caps : List (List ℕ) → Perm
region_caps ws = record {
  0 = bit (stands (codes "can_read") ws) reading + bit (stands (codes "can_write") ws) writing
      + bit (stands (codes "can_execute") ws) executing;
}

-- how a mapping is placed, by its flags
abbrev pub map_flags : List (List ℕ) → MapFlags
map_flags ws = record {
  0 = bit (stands (codes "specific") ws) specific + bit (stands (codes "specific_overwrite") ws) overwrite
      + bit (stands (codes "upper_limit") ws) upper_limit + bit (stands (codes "allow_faults") ws) allow_faults;
}
