-- What is spelled canonically is read back as the same command.
use Rattle.std.proofs.Common.{◌≡◌, ℕ, ◌+◌, ◌*◌, ◌^◌, ◌<◌, ◌≤◌, ◌==◌, inl, inr, Bool, true, false, not, ◌&&◌, ◌||◌, List, [], ◌∷◌, length, Some, refl, arith}
use Rattle.std.specs.Prelude.{codes, decimal, bit_and, nat_lt, nat_le}
use Rattle.std.specs.List.{join_with_byte}
use Rattle.std.proofs.lemmas.Nat.{and_le_r}
use Rattle.std.proofs.lemmas.Bool.{and_parts, or_cases, eqb-true, ltb-true, leb-true, le-ltb, agree_below, agree_below_at, not-true, eq-eqb, both_ways}
use Rattle.vm_base.specs.declared.names.VmoName.{VmoName}
use Rattle.vm_base.specs.declared.names.RegionName.{RegionName}
use Rattle.vm_base.specs.declared.names.PinName.{PinName}
use Rattle.vm_base.specs.declared.flags.Perm.{Perm}
use Rattle.vm_base.specs.declared.flags.MapFlags.{MapFlags}
use Rattle.vm_model.specs.declared.command.ChildKind.{ChildKind}
use Rattle.vm_model.specs.Machine.Words.{Command}
use Rattle.vm_model.specs.declared.command.Command.TheVariants.{VmoCreate, VmoChild, VmoClose, VmoSize, VmoSetSize, VmoRead, VmoWrite, VmoFill, VmoCommit, VmoDecommit, VmoZero, VmoPin, VmoUnpin, VmoInfo, RootCreate, VmarAllocate, VmarMap, VmarUnmap, VmarProtect, VmarDestroy, Maps, MemRead, MemWrite, Stat}
use Rattle.vm_model.specs.Language.Reading.{Order, reading, is_comment, command, are_flags, stands, bit, flags, named, ranged, vmo, region, vmar_allocate, vmar_map}
use Rattle.vm_model.specs.Language.Text.{data_text, perm_text}
use Rattle.vm_model.specs.Space.Rights.{has}
use Rattle.vm_model.specs.Language.Spelling.{set_flags, vmo_word, region_word, pin_word, kind_word, command_words, spelling, has_spelling, IsData, HasRanges}
use Rattle.vm_model.proofs.WordLaws.{is_one_word, are_words, words-join, spaced_length, length-join}
use Rattle.vm_model.proofs.FieldLaws.{number-decimal, byte-decimal, decimal_word, length-decimal, name_word, vmo-vmo_word, region-region_word, pin-pin_word, byte_data-data_text, data_word, length-data_text, child_kind-kind_word, kind_is_word, length-kind_word, perm-perm_text, perm_word, length-perm_text, IsBytes-from_All}
use Rattle.vm_base.specs.declared.limits.TheConstants.{DATA_BYTES, LINE_BYTES}

-- ---- arguments, of which each is one word, and few bytes with their spaces

record Fields (limit : ℕ) (ws : List (List ℕ)) : Type 0 where
  solid : are_words ws ≡ true
  few : spaced_length ws ≤ limit

no_field : Fields 0 []
no_field = record { solid = refl; few = omega arith }

field : (most : ℕ) (w : List ℕ) {limit : ℕ} {ws : List (List ℕ)} → is_one_word w ≡ true → length w ≤ most → Fields limit ws → Fields (1 + most + limit) (w ∷ ws)
field most w s few rest =
    let more = rest.few in
    record { solid = rw s rest.solid; few = omega (arith, few, more) }

number_field : (n : ℕ) {limit : ℕ} {ws : List (List ℕ)} → n < 2 ^ 64 → Fields limit ws → Fields (21 + limit) (decimal n ∷ ws)
number_field n h rest = field 20 (decimal n) (decimal_word n h) (length-decimal n h) rest

name_field : (letter n : ℕ) {limit : ℕ} {ws : List (List ℕ)} → n < 2 ^ 32 → is_one_word (letter ∷ []) ≡ true → Fields limit ws → Fields (22 + limit) ((letter ∷ decimal n) ∷ ws)
name_field letter n h solid rest =
    let len = length-decimal n (omega arith) in
    field 21 (letter ∷ decimal n) (name_word letter n (not-true _ (and_parts _ _ solid).0) h) (omega (arith, len)) rest

vmo_field : (name : VmoName) {limit : ℕ} {ws : List (List ℕ)} → name.0 < 2 ^ 32 → Fields limit ws → Fields (22 + limit) (vmo_word name ∷ ws)
vmo_field name h rest = name_field 118 name.0 h refl rest

region_field : (name : RegionName) {limit : ℕ} {ws : List (List ℕ)} → name.0 < 2 ^ 32 → Fields limit ws → Fields (22 + limit) (region_word name ∷ ws)
region_field name h rest = name_field 114 name.0 h refl rest

pin_field : (name : PinName) {limit : ℕ} {ws : List (List ℕ)} → name.0 < 2 ^ 32 → Fields limit ws → Fields (22 + limit) (pin_word name ∷ ws)
pin_field name h rest = name_field 112 name.0 h refl rest

data_field : (bytes : List ℕ) {limit : ℕ} {ws : List (List ℕ)} → IsData bytes → Fields limit ws → Fields (1 + 2 * DATA_BYTES + limit) (data_text bytes ∷ ws)
data_field bytes h rest = field (2 * DATA_BYTES) (data_text bytes) (data_word bytes (IsBytes-from_All bytes h.1)) (length-data_text bytes h.0) rest

kind_field : (kind : ChildKind) {limit : ℕ} {ws : List (List ℕ)} → Fields limit ws → Fields (10 + limit) (kind_word kind ∷ ws)
kind_field kind rest = field 9 (kind_word kind) (kind_is_word kind) (length-kind_word kind) rest

perm_field : (n : ℕ) {limit : ℕ} {ws : List (List ℕ)} → n < 8 → Fields limit ws → Fields (5 + limit) (perm_text n ∷ ws)
perm_field n h rest = field 4 (perm_text n) (perm_word n h) (leb-true _ _ (length-perm_text n h)) rest

-- ---- a line of a command word and its arguments

-- a command word
abbrev is_command_word : List ℕ → Bool
is_command_word word = not (is_comment word) && is_one_word word && nat_le (length word) 20

reading-spelling : (c : Command) (word : List ℕ) {limit : ℕ} {arguments : List (List ℕ)} → is_command_word word ≡ true → Fields limit arguments → limit ≤ 8270 → command_words c ≡ word ∷ arguments → command word arguments ≡ Some c → reading (spelling c) ≡ Order c
unfolding reading spelling
reading-spelling c word {arguments = arguments} w fields small spelled read =
    let parts = and_parts (not (is_comment word) && is_one_word word) (nat_le (length word) 20) w in
    let front = and_parts (not (is_comment word)) (is_one_word word) parts.0 in
    let short : length word ≤ 20 = leb-true (length word) 20 parts.1 in
    let more = fields.few in
    let len = length-join (word ∷ arguments) in
    let fits : nat_lt LINE_BYTES (length (spelling c)) ≡ false = rw spelled (le-ltb LINE_BYTES (length (join_with_byte 32 (word ∷ arguments))) (omega (arith, len, more))) in
    let solid : are_words (word ∷ arguments) ≡ true = rw front.1 fields.solid in
    let comment = not-true (is_comment word) front.0 in
    rw fits (rw (spelled, words-join (word ∷ arguments) solid, comment, read) refl)

-- ---- flags

-- the flag that a VMO is made with
abbrev size_flags : Bool → List (List ℕ)
size_flags resizable = set_flags ((codes "resizable", resizable) ∷ [])

size_flags-fields : (resizable : Bool) → Fields 60 (size_flags resizable)
size_flags-fields true = record { solid = refl; few = omega arith }
size_flags-fields false = record { solid = refl; few = omega arith }

size_flags-read : (name : VmoName) (size : ℕ) (resizable : Bool) → flags {C = Command} (codes "resizable" ∷ []) (λ flag. VmoCreate name size (flag (codes "resizable"))) (size_flags resizable) ≡ Some (VmoCreate name size resizable)
size_flags-read name size true = refl
size_flags-read name size false = refl

-- the flags that a child is made with
abbrev child_flags : Bool → Bool → List (List ℕ)
child_flags resizable no_write = set_flags ((codes "resizable", resizable) ∷ (codes "no_write", no_write) ∷ [])

child_flags-fields : (resizable no_write : Bool) → Fields 60 (child_flags resizable no_write)
child_flags-fields true true = record { solid = refl; few = omega arith }
child_flags-fields true false = record { solid = refl; few = omega arith }
child_flags-fields false true = record { solid = refl; few = omega arith }
child_flags-fields false false = record { solid = refl; few = omega arith }

child_flags-read : (name parent : VmoName) (kind : ChildKind) (offset size : ℕ) (resizable no_write : Bool)
    → flags {C = Command} (codes "resizable" ∷ codes "no_write" ∷ [])
    (λ flag. VmoChild name parent kind offset size (flag (codes "resizable")) (flag (codes "no_write"))) (child_flags resizable no_write)
    ≡ Some (VmoChild name parent kind offset size resizable no_write)
child_flags-read name parent kind offset size true true = refl
child_flags-read name parent kind offset size true false = refl
child_flags-read name parent kind offset size false true = refl
child_flags-read name parent kind offset size false false = refl

-- The words are flags of the list, one word each and few, and they spell this set by this reading.
abbrev spells_set : List (List ℕ) → (List (List ℕ) → ℕ) → List (List ℕ) → ℕ → Bool
spells_set known value ws n = are_flags known ws && (value ws == n) && are_words ws && nat_le (spaced_length ws) 60

record SpellsSet (known : List (List ℕ)) (value : List (List ℕ) → ℕ) (ws : List (List ℕ)) (n : ℕ) : Type 0 where
  flags : are_flags known ws ≡ true
  bits : value ws ≡ n
  fields : Fields 60 ws

SpellsSet-test : (known : List (List ℕ)) (value : List (List ℕ) → ℕ) (ws : List (List ℕ)) (n : ℕ) → spells_set known value ws n ≡ true → SpellsSet known value ws n
SpellsSet-test known value ws n h =
    let few = and_parts (are_flags known ws && (value ws == n) && are_words ws) (nat_le (spaced_length ws) 60) h in
    let solid = and_parts (are_flags known ws && (value ws == n)) (are_words ws) few.0 in
    let same = and_parts (are_flags known ws) (value ws == n) solid.0 in
    record {
      flags = same.0;
      bits = eqb-true (value ws) n same.1;
      fields = record { solid = solid.1; few = leb-true (spaced_length ws) 60 few.1 };
    }

-- the flags of a mapping
abbrev known_map_flags : List (List ℕ)
known_map_flags = codes "specific" ∷ codes "specific_overwrite" ∷ codes "upper_limit" ∷ codes "allow_faults" ∷ []

abbrev map_flags : ℕ → List (List ℕ)
map_flags n = set_flags ((codes "specific", has n 1) ∷ (codes "specific_overwrite", has n 2) ∷ (codes "upper_limit", has n 4) ∷ (codes "allow_faults", has n 8) ∷ [])

abbrev map_bits : List (List ℕ) → ℕ
map_bits ws = bit (stands (codes "specific") ws) 1 + bit (stands (codes "specific_overwrite") ws) 2 + bit (stands (codes "upper_limit") ws) 4 + bit (stands (codes "allow_faults") ws) 8

map_flags-spell : (n : ℕ) → n < 16 → SpellsSet known_map_flags map_bits (map_flags n) n
map_flags-spell n h = SpellsSet-test known_map_flags map_bits (map_flags n) n (agree_below_at (λ k. spells_set known_map_flags map_bits (map_flags k) k) (λ k. true) 16 n refl h)

-- the flags of a region, which are of two sets
abbrev known_region_flags : List (List ℕ)
known_region_flags = codes "specific" ∷ codes "upper_limit" ∷ codes "can_read" ∷ codes "can_write" ∷ codes "can_execute" ∷ []

abbrev region_flags : ℕ → ℕ → List (List ℕ)
region_flags n m = set_flags ((codes "specific", has n 1) ∷ (codes "upper_limit", has n 4) ∷ (codes "can_read", has m 1) ∷ (codes "can_write", has m 2) ∷ (codes "can_execute", has m 4) ∷ [])

abbrev place_bits : List (List ℕ) → ℕ
place_bits ws = bit (stands (codes "specific") ws) 1 + bit (stands (codes "upper_limit") ws) 4

abbrev right_bits : List (List ℕ) → ℕ
right_bits ws = bit (stands (codes "can_read") ws) 1 + bit (stands (codes "can_write") ws) 2 + bit (stands (codes "can_execute") ws) 4

-- both sets, at these two numbers
abbrev spells_region : ℕ → ℕ → Bool
spells_region n m =
    spells_set known_region_flags place_bits (region_flags n m) n && spells_set known_region_flags right_bits (region_flags n m) m

-- the first set has just its two bits, and then both are spelled
abbrev spells_regions : ℕ → Bool
spells_regions n = not (n == bit_and n 5) || agree_below (spells_region n) (λ k. true) 8

region_flags-spell : (n m : ℕ) → n ≡ bit_and n 5 → m < 8
    → SpellsSet known_region_flags place_bits (region_flags n m) n × SpellsSet known_region_flags right_bits (region_flags n m) m
region_flags-spell n m e h =
    let small : n < 6 = omega (arith, e, and_le_r n 5) in
    let same : (n == bit_and n 5) ≡ true = eq-eqb n (bit_and n 5) e in
    let all = agree_below_at spells_regions (λ k. true) 6 n refl small in
    let here : agree_below (spells_region n) (λ k. true) 8 ≡ true = elim (or_cases (not (n == bit_and n 5)) (agree_below (spells_region n) (λ k. true) 8) all) [
      | inl other ↦ absurd (both_ways (n == bit_and n 5) (not-true (n == bit_and n 5) other) same)
      | inr every ↦ every
    ] in
    let both = and_parts (spells_set known_region_flags place_bits (region_flags n m) n) (spells_set known_region_flags right_bits (region_flags n m) m) (agree_below_at (spells_region n) (λ k. true) 8 m here h) in
    (SpellsSet-test known_region_flags place_bits (region_flags n m) n both.0, SpellsSet-test known_region_flags right_bits (region_flags n m) m both.1)

-- ---- the arguments of several commands

vmo_only : (make : VmoName → Command) (name : VmoName) → name.0 < 2 ^ 32 → Fields 22 (vmo_word name ∷ []) × (named vmo make (vmo_word name ∷ []) ≡ Some (make name))
vmo_only make name h = (vmo_field name h no_field, rw (vmo-vmo_word name h) refl)

region_only : (make : RegionName → Command) (name : RegionName) → name.0 < 2 ^ 32 → Fields 22 (region_word name ∷ []) × (named region make (region_word name ∷ []) ≡ Some (make name))
region_only make name h = (region_field name h no_field, rw (region-region_word name h) refl)

vmo_range : (make : VmoName → ℕ → ℕ → Command) (name : VmoName) (offset len : ℕ) → (name.0 < 2 ^ 32) × (offset < 2 ^ 64) × (len < 2 ^ 64)
    → Fields 64 (vmo_word name ∷ decimal offset ∷ decimal len ∷ []) × (ranged vmo make (vmo_word name ∷ decimal offset ∷ decimal len ∷ []) ≡ Some (make name offset len))
vmo_range make name offset len h = (
  vmo_field name h.0 (number_field offset h.1 (number_field len h.2 no_field)),
  rw (vmo-vmo_word name h.0, number-decimal offset h.1, number-decimal len h.2) refl,
)

region_range : (make : RegionName → ℕ → ℕ → Command) (name : RegionName) (addr len : ℕ) → (name.0 < 2 ^ 32) × (addr < 2 ^ 64) × (len < 2 ^ 64)
    → Fields 64 (region_word name ∷ decimal addr ∷ decimal len ∷ []) × (ranged region make (region_word name ∷ decimal addr ∷ decimal len ∷ []) ≡ Some (make name addr len))
region_range make name addr len h = (
  region_field name h.0 (number_field addr h.1 (number_field len h.2 no_field)),
  rw (region-region_word name h.0, number-decimal addr h.1, number-decimal len h.2) refl,
)

-- ---- each command

-- the command's spelling is read back
abbrev IsReadBack : Command → Type 0
IsReadBack c = reading (spelling c) ≡ Order c

vmar_allocate-words : (region parent : RegionName) (offset len : ℕ) (flags : MapFlags) (caps : Perm) (ws : List (List ℕ))
    → HasRanges (VmarAllocate region parent offset len flags caps) → are_flags known_region_flags ws ≡ true → place_bits ws ≡ flags.0 → right_bits ws ≡ caps.0
    → vmar_allocate (region_word region ∷ region_word parent ∷ decimal offset ∷ decimal len ∷ ws) ≡ Some (VmarAllocate region parent offset len flags caps)
vmar_allocate-words region parent offset len flags caps ws h known place right =
    rw (region-region_word region h.0, region-region_word parent h.1, number-decimal offset h.2, number-decimal len h.3, known, place, right) refl

vmar_map-words : (region : RegionName) (offset : ℕ) (name : VmoName) (vmo_offset len : ℕ) (allowed : Perm) (flags : MapFlags) (ws : List (List ℕ))
    → HasRanges (VmarMap region offset name vmo_offset len allowed flags) → allowed.0 < 8 → are_flags known_map_flags ws ≡ true → map_bits ws ≡ flags.0
    → vmar_map (region_word region ∷ decimal offset ∷ vmo_word name ∷ decimal vmo_offset ∷ decimal len ∷ perm_text allowed.0 ∷ ws) ≡ Some (VmarMap region offset name vmo_offset len allowed flags)
vmar_map-words region offset name vmo_offset len allowed flags ws h rights known bits =
    rw (region-region_word region h.0, number-decimal offset h.1, vmo-vmo_word name h.2, number-decimal vmo_offset h.3, number-decimal len h.4, perm-perm_text allowed rights, known, bits) refl

-- what is spelled canonically is read back as the same command
pub spelling-read : (c : Command) → HasRanges c → has_spelling c ≡ true → IsReadBack c
unfolding command_words command has_spelling
spelling-read (VmoCreate name size resizable) h s =
    reading-spelling _ (codes "vmo_create") refl
    (vmo_field name h.0 (number_field size h.1 (size_flags-fields resizable))) (omega arith) refl
    (rw (vmo-vmo_word name h.0, number-decimal size h.1) (size_flags-read name size resizable))
spelling-read (VmoChild name parent kind offset size resizable no_write) h s =
    reading-spelling _ (codes "vmo_create_child") refl
    (vmo_field name h.0 (vmo_field parent h.1 (kind_field kind (number_field offset h.2 (number_field size h.3 (child_flags-fields resizable no_write)))))) (omega arith) refl
    (rw (vmo-vmo_word name h.0, vmo-vmo_word parent h.1, child_kind-kind_word kind, number-decimal offset h.2, number-decimal size h.3)
    (child_flags-read name parent kind offset size resizable no_write))
spelling-read (VmoClose name) h s = let r = vmo_only VmoClose name h in reading-spelling _ (codes "vmo_close") refl r.0 (omega arith) refl r.1
spelling-read (VmoSize name) h s = let r = vmo_only VmoSize name h in reading-spelling _ (codes "vmo_size") refl r.0 (omega arith) refl r.1
spelling-read (VmoSetSize name size) h s =
    reading-spelling _ (codes "vmo_set_size") refl (vmo_field name h.0 (number_field size h.1 no_field)) (omega arith) refl
    (rw (vmo-vmo_word name h.0, number-decimal size h.1) refl)
spelling-read (VmoRead name offset len) h s = let r = vmo_range VmoRead name offset len h in reading-spelling _ (codes "vmo_read") refl r.0 (omega arith) refl r.1
spelling-read (VmoWrite name offset bytes) h s =
    reading-spelling _ (codes "vmo_write") refl
    (vmo_field name h.0 (number_field offset h.1 (data_field bytes h.2 no_field))) (omega arith) refl
    (rw (vmo-vmo_word name h.0, number-decimal offset h.1, byte_data-data_text bytes h.2.0 (IsBytes-from_All bytes h.2.1)) refl)
spelling-read (VmoFill name offset len value) h s =
    reading-spelling _ (codes "vmo_fill") refl
    (vmo_field name h.0 (number_field offset h.1 (number_field len h.2 (number_field value (omega arith) no_field)))) (omega arith) refl
    (rw (vmo-vmo_word name h.0, number-decimal offset h.1, number-decimal len h.2, byte-decimal value h.3) refl)
spelling-read (VmoCommit name offset len) h s = let r = vmo_range VmoCommit name offset len h in reading-spelling _ (codes "vmo_commit") refl r.0 (omega arith) refl r.1
spelling-read (VmoDecommit name offset len) h s = let r = vmo_range VmoDecommit name offset len h in reading-spelling _ (codes "vmo_decommit") refl r.0 (omega arith) refl r.1
spelling-read (VmoZero name offset len) h s = let r = vmo_range VmoZero name offset len h in reading-spelling _ (codes "vmo_zero") refl r.0 (omega arith) refl r.1
spelling-read (VmoPin token name offset len) h s =
    reading-spelling _ (codes "vmo_pin") refl
    (pin_field token h.0 (vmo_field name h.1 (number_field offset h.2 (number_field len h.3 no_field)))) (omega arith) refl
    (rw (pin-pin_word token h.0, vmo-vmo_word name h.1, number-decimal offset h.2, number-decimal len h.3) refl)
spelling-read (VmoUnpin token) h s =
    reading-spelling _ (codes "vmo_unpin") refl (pin_field token h no_field) (omega arith) refl (rw (pin-pin_word token h) refl)
spelling-read (VmoInfo name) h s = let r = vmo_only VmoInfo name h in reading-spelling _ (codes "vmo_info") refl r.0 (omega arith) refl r.1
spelling-read (RootCreate region) h s = let r = region_only RootCreate region h in reading-spelling _ (codes "root_create") refl r.0 (omega arith) refl r.1
spelling-read (VmarAllocate region parent offset len flags caps) h s =
    let parts = and_parts (flags.0 == bit_and flags.0 5) (nat_lt caps.0 8) s in
    let sets = region_flags-spell flags.0 caps.0 (eqb-true flags.0 (bit_and flags.0 5) parts.0) (ltb-true caps.0 8 parts.1) in
    reading-spelling _ (codes "vmar_allocate") refl
    (region_field region h.0 (region_field parent h.1 (number_field offset h.2 (number_field len h.3 sets.0.fields)))) (omega arith) refl
    (vmar_allocate-words region parent offset len flags caps (region_flags flags.0 caps.0) h sets.0.flags sets.0.bits sets.1.bits)
spelling-read (VmarMap region offset name vmo_offset len allowed flags) h s =
    let parts = and_parts (nat_lt allowed.0 8) (nat_lt flags.0 16) s in
    let rights = ltb-true allowed.0 8 parts.0 in
    let set = map_flags-spell flags.0 (ltb-true flags.0 16 parts.1) in
    reading-spelling _ (codes "vmar_map") refl
    (region_field region h.0 (number_field offset h.1 (vmo_field name h.2 (number_field vmo_offset h.3 (number_field len h.4 (perm_field allowed.0 rights set.fields)))))) (omega arith) refl
    (vmar_map-words region offset name vmo_offset len allowed flags (map_flags flags.0) h rights set.flags set.bits)
spelling-read (VmarUnmap region addr len) h s = let r = region_range VmarUnmap region addr len h in reading-spelling _ (codes "vmar_unmap") refl r.0 (omega arith) refl r.1
spelling-read (VmarProtect region addr len allowed) h s =
    let rights = ltb-true allowed.0 8 s in
    reading-spelling _ (codes "vmar_protect") refl
    (region_field region h.0 (number_field addr h.1 (number_field len h.2 (perm_field allowed.0 rights no_field)))) (omega arith) refl
    (rw (region-region_word region h.0, number-decimal addr h.1, number-decimal len h.2, perm-perm_text allowed rights) refl)
spelling-read (VmarDestroy region) h s = let r = region_only VmarDestroy region h in reading-spelling _ (codes "vmar_destroy") refl r.0 (omega arith) refl r.1
spelling-read (Maps region) h s = let r = region_only Maps region h in reading-spelling _ (codes "maps") refl r.0 (omega arith) refl r.1
spelling-read (MemRead region addr len) h s = let r = region_range MemRead region addr len h in reading-spelling _ (codes "mem_read") refl r.0 (omega arith) refl r.1
spelling-read (MemWrite region addr bytes) h s =
    reading-spelling _ (codes "mem_write") refl
    (region_field region h.0 (number_field addr h.1 (data_field bytes h.2 no_field))) (omega arith) refl
    (rw (region-region_word region h.0, number-decimal addr h.1, byte_data-data_text bytes h.2.0 (IsBytes-from_All bytes h.2.1)) refl)
spelling-read Stat h s = reading-spelling _ (codes "stat") refl no_field (omega arith) refl refl
