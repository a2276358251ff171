-- More arguments than any command has: its flags are words of a list, each at most once, and so no more than the list.
use Rattle.std.proofs.Common.{◌≡◌, ℕ, suc, ◌<◌, ◌≤◌, Bool, true, false, ◌&&◌, ◌||◌, not, List, [], ◌∷◌, length, refl, ◌∙◌}
use Rattle.std.proofs.Common.{ap, arith}
use Rattle.std.specs.Prelude.{Option, Some, None, codes, nat_eq, if◌then◌else◌}
use Rattle.std.specs.List.{IsDistinct, AllByRecursion}
use Rattle.std.specs.Cmp.Lexicographic.{pointwise}
use Rattle.std.proofs.lemmas.Cmp.{nat_list_eq_equiv}
use Rattle.std.proofs.lemmas.Map.Made.{length-le_from_is_member}
use Rattle.std.proofs.lemmas.Slice.Eq.{bytes_eq-Decides}
use Rattle.vm_model.specs.Machine.Words.{Command}
use Rattle.vm_model.specs.declared.command.Command.TheVariants.{Stat}
use Rattle.vm_model.specs.Language.Reading.{command, commands, by_word, arg, end, named, ranged, are_flags, stands, is_word}
use Rattle.vm_model.specs.Language.Reading.{vmo, region, pin, number, child_kind, perm, vmo_create, vmo_create_child, vmo_set_size}
use Rattle.vm_model.specs.Language.Reading.{vmo_write, vmo_fill, vmo_pin, vmar_allocate, vmar_map, vmar_protect, mem_write}
use Rattle.script_text.proofs.ShapeLaws.{IsNoneApart, after, end-apart, named-apart, ranged-apart, vmo_set_size-apart, vmo_write-apart}
use Rattle.script_text.proofs.ShapeLaws.{vmo_fill-apart, vmo_pin-apart, vmar_protect-apart, mem_write-apart}
use Rattle.script_text.specs.inside.Shapes.{map_flag_words, region_flag_words}

-- three tests that hold
three : (a b c : Bool) → (a && not b && c) ≡ true → (a ≡ true) × (b ≡ false) × (c ≡ true)
three true false true e = (refl, refl, refl)
three true false false e = absurd cc
three true true c e = absurd cc
three false b c e = absurd cc

-- a word that stands nowhere differs from each
apart : (w : List ℕ) (ws : List (List ℕ)) → stands w ws ≡ false → AllByRecursion (λ v. is_word w v ≡ false) ws
apart w [] e = tt
apart w (v ∷ vs) e = elim (is_word w v) as
    (λ b. (b || stands w vs) ≡ false → (b ≡ false) × AllByRecursion (λ v. is_word w v ≡ false) vs) [
      | true ↦ λ f. absurd cc
      | false ↦ λ f. (refl, apart w vs f)
    ] e

-- no flag stands twice
distinct_flags : (known ws : List (List ℕ)) → are_flags known ws ≡ true → IsDistinct (pointwise nat_eq) ws
unfolding IsDistinct
distinct_flags known [] e = tt
distinct_flags known (w ∷ ws) e =
    let parts = three (stands w known) (stands w ws) (are_flags known ws) e in
    (apart w ws parts.1, distinct_flags known ws parts.2)

-- each flag is known
known_flags : (known ws : List (List ℕ)) → are_flags known ws ≡ true → (q : List ℕ) → stands q ws ≡ true
    → stands q known ≡ true
known_flags known [] e q h = absurd cc
known_flags known (w ∷ ws) e q h =
    let parts = three (stands w known) (stands w ws) (are_flags known ws) e in
    elim (is_word q w) as (λ b. is_word q w ≡ b → (b || stands q ws) ≡ true → stands q known ≡ true) [
      | true ↦ λ same _. ap (λ v. stands v known) ((bytes_eq-Decides q w).0 same) ∙ parts.0
      | false ↦ λ _ rest. known_flags known ws parts.2 q rest
    ] refl h

-- there are no more flags than are known
few_flags : (known ws : List (List ℕ)) → are_flags known ws ≡ true → length ws ≤ length known
few_flags known ws e = length-le_from_is_member nat_list_eq_equiv ws known (distinct_flags known ws e)
    (known_flags known ws e)

-- nothing is read from more arguments than so many
abbrev IsNoneAbove : ℕ → (List (List ℕ) → Option Command) → Type 0
IsNoneAbove n f = (ws : List (List ℕ)) → n < length ws → f ws ≡ None

above : (n m : ℕ) (f : List (List ℕ) → Option Command) → n ≤ m → IsNoneApart n f → IsNoneAbove m f
above n m f few apart ws h = apart ws (λ e. absurd (omega (arith, few, h, e)))

flags-above : (known ws : List (List ℕ)) (c : Command) → length known < length ws
    → (if are_flags known ws then Some c else None) ≡ None
flags-above known ws c h = elim (are_flags known ws) as
    (λ b. are_flags known ws ≡ b → (if b then Some c else None) ≡ None) [
      | true ↦ λ e. absurd (omega (arith, few_flags known ws e, h))
      | false ↦ λ e. refl
    ] refl

arg-above : {A : Type 0} (n : ℕ) (read : List ℕ → Option A) (next : A → List (List ℕ) → Option Command)
    → ((value : A) → IsNoneAbove n (next value)) → IsNoneAbove (suc n) (arg read next)
arg-above n read next each [] h = refl
arg-above n read next each (w ∷ ws) h = after (read w) _ (λ value. each value ws (omega (arith, h)))

vmo_create-above : IsNoneAbove 3 vmo_create
vmo_create-above = arg-above 2 vmo _ (λ name. arg-above 1 number _ (λ size ws h. flags-above (codes "resizable" ∷ []) ws _ h))

vmo_create_child-above : IsNoneAbove 7 vmo_create_child
vmo_create_child-above =
    arg-above 6 vmo _ (λ name. arg-above 5 vmo _ (λ parent. arg-above 4 child_kind _ (λ kind. arg-above 3 number _ (λ offset.
    arg-above 2 number _ (λ size ws h. flags-above (codes "resizable" ∷ codes "no_write" ∷ []) ws _ h)))))

vmar_allocate-above : IsNoneAbove 9 vmar_allocate
vmar_allocate-above =
    arg-above 8 region _ (λ name. arg-above 7 region _ (λ parent. arg-above 6 number _ (λ offset. arg-above 5 number _ (λ len ws h.
    flags-above region_flag_words ws _ h))))

vmar_map-above : IsNoneAbove 10 vmar_map
vmar_map-above =
    arg-above 9 region _ (λ name. arg-above 8 number _ (λ offset. arg-above 7 vmo _ (λ source. arg-above 6 number _ (λ start.
    arg-above 5 number _ (λ len. arg-above 4 perm _ (λ allowed ws h. flags-above map_flag_words ws _ h))))))

-- rows of which none reads these arguments
by_word-none : (rows : List (List ℕ × (List (List ℕ) → Option Command))) (word : List ℕ) (ws : List (List ℕ))
    → AllByRecursion (λ row. row.1 ws ≡ None) rows → by_word rows word ws ≡ None
by_word-none [] word ws all = refl
by_word-none (row ∷ rows) word ws all = go (is_word word row.0) (by_word-none rows word ws all.1) where
  go : (b : Bool) → by_word rows word ws ≡ None → (if b then row.1 ws else by_word rows word ws) ≡ None
  go true rest = all.0
  go false rest = rest

infixr 30 ◌&◌
◌&◌ : {A B : Type 0} → A → B → A × B
a & b = (a, b)

module _ (ws : List (List ℕ)) (h : 10 < length ws) where
  of_name : {A : Type 0} (read : List ℕ → Option A) (make : A → Command) → named read make ws ≡ None
  of_name read make = above 1 10 (named read make) (omega arith) (named-apart read make) ws h

  of_range : {A : Type 0} (read : List ℕ → Option A) (make : A → ℕ → ℕ → Command) → ranged read make ws ≡ None
  of_range read make = above 3 10 (ranged read make) (omega arith) (ranged-apart read make) ws h

  none_of_many : AllByRecursion (λ (row : List ℕ × (List (List ℕ) → Option Command)). row.1 ws ≡ None) commands
  none_of_many =
      vmo_create-above ws (omega (arith, h))
      & vmo_create_child-above ws (omega (arith, h))
      & of_name vmo _
      & of_name vmo _
      & above 2 10 vmo_set_size (omega arith) vmo_set_size-apart ws h
      & of_range vmo _
      & above 3 10 vmo_write (omega arith) vmo_write-apart ws h
      & above 4 10 vmo_fill (omega arith) vmo_fill-apart ws h
      & of_range vmo _
      & of_range vmo _
      & of_range vmo _
      & above 4 10 vmo_pin (omega arith) vmo_pin-apart ws h
      & of_name pin _
      & of_name vmo _
      & of_name region _
      & vmar_allocate-above ws (omega (arith, h))
      & vmar_map-above ws h
      & of_range region _
      & above 4 10 vmar_protect (omega arith) vmar_protect-apart ws h
      & of_name region _
      & of_name region _
      & of_range region _
      & above 3 10 mem_write (omega arith) mem_write-apart ws h
      & above 0 10 (end Stat) (omega arith) (end-apart Stat) ws h
      & tt

-- a command word and more than ten arguments
pub command_of_many : (word : List ℕ) (arguments : List (List ℕ)) → 10 < length arguments
    → command word arguments ≡ None
unfolding command
command_of_many word arguments h = by_word-none commands word arguments (none_of_many arguments h)
