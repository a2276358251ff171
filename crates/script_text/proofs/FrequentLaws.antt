-- Lines of the four commands that most lines are.
use Rattle.std.proofs.Common.{◌≡◌, ℕ, zero, suc, cond, ◌&&◌, ◌*◌, ◌<◌, ◌≤◌, Bool, true, false, List, [], ◌∷◌, ◌++◌, length, take, drop}
use Rattle.std.proofs.Common.{get_or, refl, sym, ◌∙◌, ap, subst, inl, inr, arith, length-drop}
use Rattle.std.specs.Prelude.{Option, Some, None, Ok, Err, Result, codes, nat_eq, nat_lt, nat_le, option_and_then, slice_get, ◌==◌, IfSome}
use Rattle.std.specs.Result.{result_ok}
use Rattle.std.specs.List.{position_or_len}
use Rattle.std.specs.Cmp.Lexicographic.{pointwise}
use Rattle.std.proofs.lemmas.Bool.{cases_eq, eqb-true, ne_eqb, both_ways}
use Rattle.std.proofs.lemmas.List.Elements.{All-get_or}
use Rattle.std.proofs.lemmas.Bool.Decides.{nat_tests}
use Rattle.std.proofs.lemmas.List.{take-append-drop, take_all, drop_all}
use Rattle.std.proofs.lemmas.Slice.Eq.{bytes_eq-Decides}
use Rattle.hex.specs.Hex.{decode_of, is_hex_digit}
use Rattle.hex.specs.declared.error.FromHexError.{FromHexError}
use Rattle.hex.proofs.HexLemmas.{decode_of-ok}
use Rattle.vm_base.specs.declared.limits.TheConstants.{DATA_BYTES}
use Rattle.vm_base.specs.declared.names.VmoName.{VmoName}
use Rattle.vm_base.specs.declared.names.RegionName.{RegionName}
use Rattle.vm_model.specs.Machine.Words.{Command}
use Rattle.vm_model.specs.declared.command.Command.TheVariants.{VmoRead, VmoWrite, MemRead, MemWrite}
use Rattle.vm_model.specs.Language.Reading.{words, is_blank, begins_blank, byte_data, vmo, region, number, ranged, vmo_write, mem_write, command}
use Rattle.script_text.specs.Lines.{order_in}
use Rattle.script_text.specs.inside.Shapes.{only_data, ends_blank, three_words}
use Rattle.script_text.specs.inside.Groups.{range_of_vmo, range_of_region, vmo_and_number, region_and_number}
use Rattle.script_text.proofs.GroupLaws.{of_two, joined, behind_two}
use Rattle.script_text.proofs.ShapeLaws.{steps, vmo_write-apart, mem_write-apart, vmo_range_by_range, region_range_by_range}
use Rattle.script_text.proofs.Cutting.{words-blank, words-first, len-solid, len-blank}

-- a line that begins with a word
pub begins_with : (line word behind : List ℕ) → pointwise nat_eq (take (length word) line) word ≡ true
    → behind ≡ drop (length word) line → line ≡ word ++ behind
begins_with line word behind e same =
    sym (take-append-drop (length word) line)
    ∙ rw ((bytes_eq-Decides (take (length word) line) word).0 e, same) refl

words_vmo_read : (bs : List ℕ) → begins_blank bs ≡ true
    → words (codes "vmo_read" ++ bs) ≡ codes "vmo_read" ∷ words bs
unfolding words
words_vmo_read bs e = rw e refl

words_vmo_write : (bs : List ℕ) → begins_blank bs ≡ true
    → words (codes "vmo_write" ++ bs) ≡ codes "vmo_write" ∷ words bs
unfolding words
words_vmo_write bs e = rw e refl

words_mem_read : (bs : List ℕ) → begins_blank bs ≡ true
    → words (codes "mem_read" ++ bs) ≡ codes "mem_read" ∷ words bs
unfolding words
words_mem_read bs e = rw e refl

words_mem_write : (bs : List ℕ) → begins_blank bs ≡ true
    → words (codes "mem_write" ++ bs) ≡ codes "mem_write" ∷ words bs
unfolding words
words_mem_write bs e = rw e refl

-- a list with a first element is not empty
not_none : {A : Type 0} (x : A) (xs : List A) → (length (x ∷ xs) == 0) ≡ false
not_none x xs = ne_eqb (length (x ∷ xs)) 0 (λ e. absurd (omega (arith, e)))

-- a line that begins with a byte of a word has one
some_word : (b : ℕ) (bs : List ℕ) → is_blank b ≡ false → (length (words (b ∷ bs)) == 0) ≡ false
some_word b bs begun =
    let n = position_or_len is_blank (b ∷ bs) in
    ap (λ ws. length ws == 0) (words-first b bs begun) ∙ not_none (take n (b ∷ bs)) (words (drop n (b ∷ bs)))

-- a line has no word where nothing is left behind its blanks
pub no_word : (xs ys : List ℕ) → words ys ≡ words xs → IfSome (slice_get ys 0) (λ b. is_blank b ≡ false)
    → (length ys == 0) ≡ (length (words xs) == 0)
unfolding words
no_word xs [] same begun = rw (← same) refl
no_word xs (b ∷ bs) same begun =
    not_none b bs ∙ sym (some_word b bs begun) ∙ ap (λ ws. length ws == 0) same

-- a word too many
four : (a b c : List ℕ) (ws : List (List ℕ)) → (length ws == 0) ≡ false → three_words (a ∷ b ∷ c ∷ ws) ≡ None
four a b c [] e = absurd cc
four a b c (d ∷ ds) e = refl

none_behind : (ws : List (List ℕ)) → (length ws == 0) ≡ true → ws ≡ []
none_behind [] e = refl
none_behind (w ∷ ws) e = absurd (omega (arith, eqb-true (length (w ∷ ws)) 0 e))

-- Three words, one behind another
module _ (xs ys zs us a b c : List ℕ) (first : words xs ≡ a ∷ words ys) (second : words ys ≡ b ∷ words zs)
    (third : words zs ≡ c ∷ words us) where
  all : words xs ≡ a ∷ b ∷ c ∷ words us
  all = first ∙ ap (λ ws. a ∷ ws) (second ∙ ap (λ ws. b ∷ ws) third)

  pub three-more : (length (words us) == 0) ≡ false → three_words (words xs) ≡ None
  three-more more = ap three_words all ∙ four a b c (words us) more

  pub three-only : (length (words us) == 0) ≡ true → three_words (words xs) ≡ Some (a, b, c)
  three-only none = ap three_words (all ∙ ap (λ ws. a ∷ b ∷ c ∷ ws) (none_behind (words us) none))

-- a command of three words, by a field group of them
pub vmo_range_of_three : (command : VmoName → ℕ → ℕ → Command) (ws : List (List ℕ)) → ranged vmo command ws
    ≡ option_and_then (λ (p : VmoName × ℕ × ℕ). Some (command p.0 p.1 p.2))
    (option_and_then (λ (w : List ℕ × List ℕ × List ℕ). range_of_vmo w.0 w.1 w.2) (three_words ws))
vmo_range_of_three command [] = refl
vmo_range_of_three command (a ∷ []) = vmo_range_by_range command (a ∷ [])
vmo_range_of_three command (a ∷ b ∷ []) = vmo_range_by_range command (a ∷ b ∷ [])
vmo_range_of_three command (a ∷ b ∷ c ∷ []) = steps command (vmo a) (number b) (number c)
vmo_range_of_three command (a ∷ b ∷ c ∷ d ∷ ds) = vmo_range_by_range command (a ∷ b ∷ c ∷ d ∷ ds)

pub region_range_of_three : (command : RegionName → ℕ → ℕ → Command) (ws : List (List ℕ)) → ranged region command ws
    ≡ option_and_then (λ (p : RegionName × ℕ × ℕ). Some (command p.0 p.1 p.2))
    (option_and_then (λ (w : List ℕ × List ℕ × List ℕ). range_of_region w.0 w.1 w.2) (three_words ws))
region_range_of_three command [] = refl
region_range_of_three command (a ∷ []) = region_range_by_range command (a ∷ [])
region_range_of_three command (a ∷ b ∷ []) = region_range_by_range command (a ∷ b ∷ [])
region_range_of_three command (a ∷ b ∷ c ∷ []) = steps command (region a) (number b) (number c)
region_range_of_three command (a ∷ b ∷ c ∷ d ∷ ds) = region_range_by_range command (a ∷ b ∷ c ∷ d ∷ ds)

-- one word too many for data
pub data-more : (w : List ℕ) (ws : List (List ℕ)) → (length ws == 0) ≡ false → only_data (w ∷ ws) ≡ None
data-more w [] e = absurd cc
data-more w (v ∷ vs) e = refl

pub data-one : (w : List ℕ) (ws : List (List ℕ)) → (length ws == 0) ≡ true → only_data (w ∷ ws) ≡ byte_data w
data-one w ws e = ap (λ vs. only_data (w ∷ vs)) (none_behind ws e)

-- no digit is a blank
blank_digit : (b : ℕ) → is_blank b ≡ true → is_hex_digit b ≡ false
blank_digit b e = grind (arith, nat_tests)

-- a line that ends with a byte of a word has one
words-some : (xs : List ℕ) → 0 < length xs → ends_blank xs ≡ false → (length (words xs) == 0) ≡ false
words-some [] some e = absurd (omega arith)
words-some (b ∷ []) some e = some_word b [] e
words-some (b ∷ c ∷ cs) some e = elim (is_blank b) as (λ v. is_blank b ≡ v → (length (words (b ∷ c ∷ cs)) == 0) ≡ false) [
  | true ↦ λ f. ap (λ ws. length ws == 0) (words-blank b (c ∷ cs) f) ∙ words-some (c ∷ cs) (omega arith) e
  | false ↦ λ f. some_word b (c ∷ cs) f
] refl

-- the end of a line stays where its front is cut off
ends-drop : (n : ℕ) (xs : List ℕ) → n < length xs → ends_blank (drop n xs) ≡ ends_blank xs
ends-drop zero xs h = refl
ends-drop (suc n) [] h = absurd (omega arith)
ends-drop (suc n) (b ∷ []) h = absurd (omega arith)
ends-drop (suc n) (b ∷ c ∷ cs) h = ends-drop n (c ∷ cs) (omega arith)

few_before : (xs : List ℕ) → position_or_len is_blank xs ≤ length xs
few_before [] = omega arith
few_before (b ∷ bs) = elim (is_blank b) as (λ v. is_blank b ≡ v → position_or_len is_blank (b ∷ bs) ≤ length (b ∷ bs)) [
  | true ↦ λ e. omega (arith, len-blank b bs e)
  | false ↦ λ e. omega (arith, len-solid b bs e, few_before bs)
] refl

-- the first blank is one
at_blank : (xs : List ℕ) → position_or_len is_blank xs < length xs
    → is_blank (get_or xs (position_or_len is_blank xs) 0) ≡ true
at_blank [] h = absurd (omega arith)
at_blank (b ∷ bs) h =
    let goal : Type 0 = is_blank (get_or (b ∷ bs) (position_or_len is_blank (b ∷ bs)) 0) ≡ true in
    elim (is_blank b) as (λ v. is_blank b ≡ v → goal) [
      | true ↦ λ e. rw (len-blank b bs e) e
      | false ↦ λ e. rw (len-solid b bs e) (at_blank bs (omega (arith, h, len-solid b bs e)))
    ] refl

-- what has a blank in it is no digits
no_digits : (xs : List ℕ) (n : ℕ) → n < length xs → is_blank (get_or xs n 0) ≡ true → result_ok (decode_of xs) ≡ None
no_digits xs n h blank = go (decode_of xs) refl where
  go : (r : Result (List ℕ) FromHexError) → decode_of xs ≡ r → result_ok r ≡ None
  go (Err error) e = refl
  go (Ok bytes) e =
      let digit = All-get_or (λ b. is_hex_digit b ≡ true) xs n 0 h (decode_of-ok xs bytes e).1 in
      absurd (both_ways (is_hex_digit (get_or xs n 0)) (blank_digit (get_or xs n 0) blank) digit)

-- and no data
no_data : (xs : List ℕ) (n : ℕ) → n < length xs → is_blank (get_or xs n 0) ≡ true → byte_data xs ≡ None
unfolding byte_data
no_data xs n h blank = go (pointwise nat_eq xs (codes "-")) refl where
  dash : (k : ℕ) → k < 1 → is_blank (get_or (codes "-") k 0) ≡ true → ⊥
  dash zero l e = cc e
  dash (suc k) l e = absurd (omega (arith, l))

  go : (b : Bool) → pointwise nat_eq xs (codes "-") ≡ b
      → cond b (Some []) (cond (nat_lt 0 (length xs) && nat_le (length xs) (2 * DATA_BYTES)) (result_ok (decode_of xs)) None) ≡ None
  go true e =
      let same = (bytes_eq-Decides xs (codes "-")).0 e in
      absurd (dash n (subst (λ ys. n < length ys) same h) (subst (λ ys. is_blank (get_or ys n 0) ≡ true) same blank))
  go false e = rest (nat_lt 0 (length xs) && nat_le (length xs) (2 * DATA_BYTES)) where
    rest : (c : Bool) → cond c (result_ok (decode_of xs)) None ≡ None
    rest true = no_digits xs n h blank
    rest false = refl

no_words : (length (words []) == 0) ≡ true
unfolding words
no_words = refl

no_bytes : byte_data [] ≡ only_data (words [])
unfolding words byte_data
no_bytes = refl

-- data is one word where it neither begins nor ends with a blank, since with a blank in it it is no data
pub data_of_whole : (xs : List ℕ) → IfSome (slice_get xs 0) (λ b. is_blank b ≡ false) → ends_blank xs ≡ false
    → byte_data xs ≡ only_data (words xs)
data_of_whole [] begun solid = no_bytes
data_of_whole (b ∷ bs) begun solid =
    let n = position_or_len is_blank (b ∷ bs) in
    let first = words-first b bs begun in
    elim (cases_eq n (length (b ∷ bs))) [
      | inl whole ↦
          let none : (length (words (drop n (b ∷ bs))) == 0) ≡ true =
          ap (λ ys. length (words ys) == 0) (drop_all n (b ∷ bs) (omega (arith, whole))) ∙ no_words in
          sym (ap only_data first ∙ data-one (take n (b ∷ bs)) (words (drop n (b ∷ bs))) none
          ∙ ap byte_data (take_all n (b ∷ bs) (omega (arith, whole))))
      | inr apart ↦
          let less : n < length (b ∷ bs) = omega (arith, apart, few_before (b ∷ bs)) in
          let some : 0 < length (drop n (b ∷ bs)) = rw length-drop (omega (arith, less)) in
          no_data (b ∷ bs) n less (at_blank (b ∷ bs) less)
          ∙ sym (ap only_data first ∙ data-more (take n (b ∷ bs)) (words (drop n (b ∷ bs)))
          (words-some (drop n (b ∷ bs)) some (ends-drop n (b ∷ bs) less ∙ solid)))
    ]

-- two steps before one that fails
none_after_two : {A : Type 0} (o : Option A) (p : Option ℕ)
    → option_and_then {U = Command} (λ name. option_and_then {U = Command} (λ offset. None) p) o ≡ None
none_after_two None p = refl
none_after_two (Some x) None = refl
none_after_two (Some x) (Some y) = refl

-- the command `vmo_write` by its last word
vmo_write_by_data : (a b : List ℕ) (ws : List (List ℕ)) → vmo_write (a ∷ b ∷ ws)
    ≡ option_and_then (λ name. option_and_then (λ offset. option_and_then (λ bytes. Some (VmoWrite name offset bytes))
    (only_data ws)) (number b)) (vmo a)
vmo_write_by_data a b [] = refl
vmo_write_by_data a b (c ∷ []) = refl
vmo_write_by_data a b (c ∷ d ∷ ds) =
    vmo_write-apart (a ∷ b ∷ c ∷ d ∷ ds) (λ e. absurd (omega (arith, e))) ∙ sym (none_after_two (vmo a) (number b))

-- the command `mem_write` by its last word
mem_write_by_data : (a b : List ℕ) (ws : List (List ℕ)) → mem_write (a ∷ b ∷ ws)
    ≡ option_and_then (λ name. option_and_then (λ addr. option_and_then (λ bytes. Some (MemWrite name addr bytes))
    (only_data ws)) (number b)) (region a)
mem_write_by_data a b [] = refl
mem_write_by_data a b (c ∷ []) = refl
mem_write_by_data a b (c ∷ d ∷ ds) =
    mem_write-apart (a ∷ b ∷ c ∷ d ∷ ds) (λ e. absurd (omega (arith, e))) ∙ sym (none_after_two (region a) (number b))

-- their words, one behind another
module _ (xs ys zs a b : List ℕ) (first : words xs ≡ a ∷ words ys) (second : words ys ≡ b ∷ words zs) where
  pub vmo_write_of_words : (o : Option (VmoName × ℕ)) (q : Option (List ℕ)) → o ≡ vmo_and_number a b → q ≡ only_data (words zs)
      → of_two (λ (p : VmoName × ℕ) x. VmoWrite p.0 p.1 x) o q ≡ vmo_write (words xs)
  vmo_write_of_words o q front last =
      joined (λ (p : VmoName × ℕ) x. VmoWrite p.0 p.1 x) o _ q _ front last
      ∙ sym (ap vmo_write (first ∙ ap (λ ws. a ∷ ws) second) ∙ vmo_write_by_data a b (words zs)
      ∙ behind_two VmoWrite (vmo a) (number b) (only_data (words zs)))

  pub mem_write_of_words : (o : Option (RegionName × ℕ)) (q : Option (List ℕ)) → o ≡ region_and_number a b → q ≡ only_data (words zs)
      → of_two (λ (p : RegionName × ℕ) x. MemWrite p.0 p.1 x) o q ≡ mem_write (words xs)
  mem_write_of_words o q front last =
      joined (λ (p : RegionName × ℕ) x. MemWrite p.0 p.1 x) o _ q _ front last
      ∙ sym (ap mem_write (first ∙ ap (λ ws. a ∷ ws) second) ∙ mem_write_by_data a b (words zs)
      ∙ behind_two MemWrite (region a) (number b) (only_data (words zs)))

-- what lines that begin with these words say
pub vmo_read_line : (line behind : List ℕ) → line ≡ codes "vmo_read" ++ behind → begins_blank behind ≡ true
    → order_in (words line) ≡ ranged vmo VmoRead (words behind)
unfolding command
vmo_read_line line behind is cut = ap order_in (ap words is ∙ words_vmo_read behind cut)

pub vmo_write_line : (line behind : List ℕ) → line ≡ codes "vmo_write" ++ behind → begins_blank behind ≡ true
    → order_in (words line) ≡ vmo_write (words behind)
unfolding command
vmo_write_line line behind is cut = ap order_in (ap words is ∙ words_vmo_write behind cut)

pub mem_read_line : (line behind : List ℕ) → line ≡ codes "mem_read" ++ behind → begins_blank behind ≡ true
    → order_in (words line) ≡ ranged region MemRead (words behind)
unfolding command
mem_read_line line behind is cut = ap order_in (ap words is ∙ words_mem_read behind cut)

pub mem_write_line : (line behind : List ℕ) → line ≡ codes "mem_write" ++ behind → begins_blank behind ≡ true
    → order_in (words line) ≡ mem_write (words behind)
unfolding command
mem_write_line line behind is cut = ap order_in (ap words is ∙ words_mem_write behind cut)
