-- Laws of reading: a name that a line gives is one that there is.
use Rattle.std.proofs.Common.{◌≡◌, ℕ, ◌<◌, Bool, true, false, not, cond, ◌&&◌, ◌==◌, List, [], ◌∷◌, length, Option, None, Some, refl, ap, subst}
use Rattle.std.specs.Prelude.{nat_lt, option_and_then}
use Rattle.std.specs.List.{AllByRecursion}
use Rattle.std.proofs.lemmas.Bool.{ltb-true}
use Rattle.vm_base.specs.declared.limits.TheConstants.{LINE_BYTES, NAMES}
use Rattle.vm_base.specs.declared.names.VmoName.{VmoName}
use Rattle.vm_base.specs.declared.names.RegionName.{RegionName}
use Rattle.vm_base.specs.declared.names.PinName.{PinName}
use Rattle.vm_base.proofs.EntryLaws.{some_same}
use Rattle.vm_model.specs.Machine.Words.{Command}
use Rattle.vm_model.specs.declared.command.Command.TheVariants.{VmoClose, VmoSize, VmoRead, VmoCommit, VmoDecommit, VmoZero, VmoPin, VmoUnpin, VmoInfo, RootCreate, VmarUnmap, VmarDestroy, Maps, MemRead, Stat}
use Rattle.vm_model.specs.Language.Reading.{digit, digits, below, has_leading_zero, name_behind, vmo, region, pin, number, byte, byte_data, perm, child_kind, arg, end, named, ranged, vmo_create, vmo_create_child, vmo_set_size, vmo_write, vmo_fill, vmo_pin, vmar_allocate, vmar_map, vmar_protect, mem_write, by_word, commands, command, is_word, is_comment, Blank, Order, Outside, order_or_outside, reading_of_words, words, reading}
use Rattle.vm_model.specs.Machine.Given.{GivesName}

-- a command that is read gives a name that there is
record Fine (o : Option Command) : Type 0 where
  pub gives : (c : Command) → o ≡ Some c → GivesName c

fine_none : Fine None
fine_none = record { gives = λ c e. absurd cc }

fine_some : (c : Command) → GivesName c → Fine (Some c)
fine_some c h = record { gives = λ d e. subst GivesName (some_same e) h }

fine_bind : {A : Type 0} (o : Option A) (f : A → Option Command) → ((a : A) → o ≡ Some a → Fine (f a)) → Fine (option_and_then f o)
fine_bind None f each = fine_none
fine_bind (Some a) f each = each a refl

fine_where : (b : Bool) (c : Command) → GivesName c → Fine (cond b (Some c) None)
fine_where true c h = fine_some c h
fine_where false c h = fine_none

-- ---- names

below_less : (bound : ℕ) (o : Option ℕ) (n : ℕ) → below bound o ≡ Some n → n < bound
below_less bound None n e = absurd cc
below_less bound (Some m) n e = go (nat_lt m bound) refl e where
  go : (b : Bool) → nat_lt m bound ≡ b → cond b (Some m) None ≡ Some n → n < bound
  go true h f = subst (λ (k : ℕ). k < bound) (some_same f) (ltb-true m bound h)
  go false h f = absurd cc

name_less : (letter : ℕ) (word : List ℕ) (n : ℕ) → name_behind letter word ≡ Some n → n < NAMES
name_less letter [] n e = absurd cc
name_less letter (b ∷ bs) n e = go ((b == letter) && not (has_leading_zero bs)) e where
  go : (fits : Bool) → cond fits (below NAMES (digits 10 digit bs)) None ≡ Some n → n < NAMES
  go true f = below_less NAMES (digits 10 digit bs) n f
  go false f = absurd cc

vmo_less : (word : List ℕ) (name : VmoName) → vmo word ≡ Some name → name.0 < NAMES
unfolding vmo
vmo_less word name e = go (name_behind 118 word) refl e where
  go : (o : Option ℕ) → name_behind 118 word ≡ o → option_and_then (λ (n : ℕ). Some (record { 0 = n })) o ≡ Some name → name.0 < NAMES
  go None h f = absurd cc
  go (Some n) h f = subst (λ (v : VmoName). v.0 < NAMES) (some_same f) (name_less 118 word n h)

region_less : (word : List ℕ) (name : RegionName) → region word ≡ Some name → name.0 < NAMES
unfolding region
region_less word name e = go (name_behind 114 word) refl e where
  go : (o : Option ℕ) → name_behind 114 word ≡ o → option_and_then (λ (n : ℕ). Some (record { 0 = n })) o ≡ Some name → name.0 < NAMES
  go None h f = absurd cc
  go (Some n) h f = subst (λ (v : RegionName). v.0 < NAMES) (some_same f) (name_less 114 word n h)

pin_less : (word : List ℕ) (name : PinName) → pin word ≡ Some name → name.0 < NAMES
unfolding pin
pin_less word name e = go (name_behind 112 word) refl e where
  go : (o : Option ℕ) → name_behind 112 word ≡ o → option_and_then (λ (n : ℕ). Some (record { 0 = n })) o ≡ Some name → name.0 < NAMES
  go None h f = absurd cc
  go (Some n) h f = subst (λ (v : PinName). v.0 < NAMES) (some_same f) (name_less 112 word n h)

-- ---- commands

-- an argument, then the others
arg_fine : {A : Type 0} (read : List ℕ → Option A) (next : A → List (List ℕ) → Option Command)
    → ((w : List ℕ) (value : A) → read w ≡ Some value → (ws : List (List ℕ)) → Fine (next value ws))
    → (ws : List (List ℕ)) → Fine (arg read next ws)
arg_fine read next each [] = fine_none
arg_fine read next each (w ∷ ws) = fine_bind (read w) _ (λ value e. each w value e ws)

end_fine : (c : Command) → GivesName c → (ws : List (List ℕ)) → Fine (end c ws)
end_fine c h [] = fine_some c h
end_fine c h (w ∷ ws) = fine_none

named_fine : {A : Type 0} (read : List ℕ → Option A) (make : A → Command)
    → ((w : List ℕ) (name : A) → read w ≡ Some name → GivesName (make name)) → (ws : List (List ℕ)) → Fine (named read make ws)
named_fine read make each = arg_fine read _ (λ w name e. end_fine (make name) (each w name e))

ranged_fine : {A : Type 0} (read : List ℕ → Option A) (make : A → ℕ → ℕ → Command)
    → ((name : A) (at len : ℕ) → GivesName (make name at len)) → (ws : List (List ℕ)) → Fine (ranged read make ws)
ranged_fine read make each =
    arg_fine read _ (λ w name e. arg_fine number _ (λ w at e. arg_fine number _ (λ w len e. end_fine (make name at len) (each name at len))))

vmo_create_fine : (ws : List (List ℕ)) → Fine (vmo_create ws)
vmo_create_fine = arg_fine vmo _ (λ w name e. arg_fine number _ (λ v size f ws. fine_where _ _ (vmo_less w name e)))

vmo_create_child_fine : (ws : List (List ℕ)) → Fine (vmo_create_child ws)
vmo_create_child_fine =
    arg_fine vmo _ (λ w name e. arg_fine vmo _ (λ v parent f. arg_fine child_kind _ (λ v kind f. arg_fine number _ (λ v offset f. arg_fine number _ (λ v size f ws.
    fine_where _ _ (vmo_less w name e))))))

vmo_set_size_fine : (ws : List (List ℕ)) → Fine (vmo_set_size ws)
vmo_set_size_fine = arg_fine vmo _ (λ w name e. arg_fine number _ (λ w size e. end_fine _ tt))

vmo_write_fine : (ws : List (List ℕ)) → Fine (vmo_write ws)
vmo_write_fine = arg_fine vmo _ (λ w name e. arg_fine number _ (λ w offset e. arg_fine byte_data _ (λ w bytes e. end_fine _ tt)))

vmo_fill_fine : (ws : List (List ℕ)) → Fine (vmo_fill ws)
vmo_fill_fine = arg_fine vmo _ (λ w name e. arg_fine number _ (λ w offset e. arg_fine number _ (λ w len e. arg_fine byte _ (λ w value e. end_fine _ tt))))

vmo_pin_fine : (ws : List (List ℕ)) → Fine (vmo_pin ws)
vmo_pin_fine = arg_fine pin _ (λ w token e. ranged_fine vmo (VmoPin token) (λ name offset len. pin_less w token e))

vmar_allocate_fine : (ws : List (List ℕ)) → Fine (vmar_allocate ws)
vmar_allocate_fine =
    arg_fine region _ (λ w name e. arg_fine region _ (λ v parent f. arg_fine number _ (λ v offset f. arg_fine number _ (λ v len f ws.
    fine_where _ _ (region_less w name e)))))

vmar_map_fine : (ws : List (List ℕ)) → Fine (vmar_map ws)
vmar_map_fine =
    arg_fine region _ (λ w name e. arg_fine number _ (λ w offset e. arg_fine vmo _ (λ w source e. arg_fine number _ (λ w start e. arg_fine number _ (λ w len e.
    arg_fine perm _ (λ w allowed e ws. fine_where _ _ tt))))))

vmar_protect_fine : (ws : List (List ℕ)) → Fine (vmar_protect ws)
vmar_protect_fine = arg_fine region _ (λ w name e. arg_fine number _ (λ w addr e. arg_fine number _ (λ w len e. arg_fine perm _ (λ w allowed e. end_fine _ tt))))

mem_write_fine : (ws : List (List ℕ)) → Fine (mem_write ws)
mem_write_fine = arg_fine region _ (λ w name e. arg_fine number _ (λ w addr e. arg_fine byte_data _ (λ w bytes e. end_fine _ tt)))

-- ---- lines

by_word_fine : (rows : List (List ℕ × (List (List ℕ) → Option Command))) (word : List ℕ) (ws : List (List ℕ)) → AllByRecursion (λ row. Fine (row.1 ws)) rows → Fine (by_word rows word ws)
by_word_fine [] word ws all = fine_none
by_word_fine (row ∷ rows) word ws all = let rest = by_word_fine rows word ws all.1 in go (is_word word row.0) rest where
  go : (b : Bool) → Fine (by_word rows word ws) → Fine (cond b (row.1 ws) (by_word rows word ws))
  go true rest = all.0
  go false rest = rest

-- what is read after one word, and after the others
infixr 30 ◌&◌
◌&◌ : {A B : Type 0} → A → B → A × B
a & b = (a, b)

command_fine : (word : List ℕ) (ws : List (List ℕ)) → Fine (command word ws)
unfolding command
command_fine word ws = by_word_fine commands word ws (
    vmo_create_fine ws
    & vmo_create_child_fine ws
    & named_fine vmo VmoClose (λ w name e. tt) ws
    & named_fine vmo VmoSize (λ w name e. tt) ws
    & vmo_set_size_fine ws
    & ranged_fine vmo VmoRead (λ name offset len. tt) ws
    & vmo_write_fine ws
    & vmo_fill_fine ws
    & ranged_fine vmo VmoCommit (λ name offset len. tt) ws
    & ranged_fine vmo VmoDecommit (λ name offset len. tt) ws
    & ranged_fine vmo VmoZero (λ name offset len. tt) ws
    & vmo_pin_fine ws
    & named_fine pin VmoUnpin (λ w token e. tt) ws
    & named_fine vmo VmoInfo (λ w name e. tt) ws
    & named_fine region RootCreate region_less ws
    & vmar_allocate_fine ws
    & vmar_map_fine ws
    & ranged_fine region VmarUnmap (λ name addr len. tt) ws
    & vmar_protect_fine ws
    & named_fine region VmarDestroy (λ w name e. tt) ws
    & named_fine region Maps (λ w name e. tt) ws
    & ranged_fine region MemRead (λ name addr len. tt) ws
    & mem_write_fine ws
    & end_fine Stat tt ws
    & tt)

order_same : {c d : Command} → Order c ≡ Order d → c ≡ d
order_same e = cc

-- a line that is read as a command gives a name that there is, if it gives one
pub reading_gives : (line : List ℕ) (c : Command) → reading line ≡ Order c → GivesName c
unfolding reading
reading_gives line c e = by_length (nat_lt LINE_BYTES (length line)) e where
  of_option : (o : Option Command) → Fine o → order_or_outside o ≡ Order c → GivesName c
  of_option None fine f = absurd cc
  of_option (Some d) fine f = fine.gives c (ap (λ (x : Command). Some x) (order_same f))

  by_comment : (b : Bool) (word : List ℕ) (ws : List (List ℕ)) → cond b Blank (order_or_outside (command word ws)) ≡ Order c → GivesName c
  by_comment true word ws f = absurd cc
  by_comment false word ws f = of_option (command word ws) (command_fine word ws) f

  by_words : (ws : List (List ℕ)) → reading_of_words ws ≡ Order c → GivesName c
  by_words [] f = absurd cc
  by_words (word ∷ ws) f = by_comment (is_comment word) word ws f

  by_length : (b : Bool) → cond b Outside (reading_of_words (words line)) ≡ Order c → GivesName c
  by_length true f = absurd cc
  by_length false f = by_words (words line) f
