-- Commands of one shape, by their arguments.
use Rattle.std.proofs.Common.{◌≡◌, ℕ, suc, ◌<◌, ◌≢◌, List, [], ◌∷◌, length, refl, ap, arith}
use Rattle.std.specs.Prelude.{Option, Some, None, option_and_then}
use Rattle.vm_base.specs.declared.names.VmoName.{VmoName}
use Rattle.vm_base.specs.declared.names.RegionName.{RegionName}
use Rattle.vm_model.specs.Machine.Words.{Command}
use Rattle.vm_model.specs.declared.command.Command.TheVariants.{VmoPin}
use Rattle.vm_model.specs.Language.Reading.{vmo, region, pin, number, byte, byte_data, perm, child_kind, arg, end, named, ranged}
use Rattle.vm_model.specs.Language.Reading.{vmo_create, vmo_create_child, vmo_set_size, vmo_write, vmo_fill, vmo_pin, vmar_allocate, vmar_map, vmar_protect, mem_write}
use Rattle.script_text.specs.inside.Shapes.{one_vmo, vmo_range, one_region, region_range}

-- a step that fails, whatever was before it
pub after : {A B : Type 0} (o : Option A) (f : A → Option B) → ((x : A) → f x ≡ None) → option_and_then f o ≡ None
after None f h = refl
after (Some x) f h = h x

-- nothing is read but from so many arguments
abbrev pub IsNoneApart : ℕ → (List (List ℕ) → Option Command) → Type 0
IsNoneApart n f = (ws : List (List ℕ)) → length ws ≢ n → f ws ≡ None

pub end-apart : (command : Command) → IsNoneApart 0 (end command)
end-apart command [] h = absurd (h refl)
end-apart command (w ∷ ws) h = refl

pub arg-apart : {A : Type 0} (n : ℕ) (read : List ℕ → Option A) (next : A → List (List ℕ) → Option Command)
    → ((value : A) → IsNoneApart n (next value)) → IsNoneApart (suc n) (arg read next)
arg-apart n read next each [] h = refl
arg-apart n read next each (w ∷ ws) h = after (read w) _ (λ value. each value ws (λ e. h (ap suc e)))

-- three steps that may fail, before a command
pub steps : {A : Type 0} (command : A → ℕ → ℕ → Command) (a : Option A) (b c : Option ℕ)
    → option_and_then (λ x. option_and_then (λ y. option_and_then (λ z. Some (command x y z)) c) b) a
    ≡ option_and_then (λ (p : A × ℕ × ℕ). Some (command p.0 p.1 p.2))
    (option_and_then (λ x. option_and_then (λ y. option_and_then (λ z. Some (x, y, z)) c) b) a)
steps command None b c = refl
steps command (Some x) None c = refl
steps command (Some x) (Some y) None = refl
steps command (Some x) (Some y) (Some z) = refl

module _ {A : Type 0} (read : List ℕ → Option A) where
  pub named-apart : (command : A → Command) → IsNoneApart 1 (named read command)
  named-apart command = arg-apart 0 read _ (λ name. end-apart (command name))

  pub ranged-apart : (command : A → ℕ → ℕ → Command) → IsNoneApart 3 (ranged read command)
  ranged-apart command =
      arg-apart 2 read _ (λ name. arg-apart 1 number _ (λ at. arg-apart 0 number _ (λ len. end-apart (command name at len))))

-- ---- how many arguments each other command has

pub vmo_set_size-apart : IsNoneApart 2 vmo_set_size
vmo_set_size-apart = arg-apart 1 vmo _ (λ name. arg-apart 0 number _ (λ size. end-apart _))

pub vmo_write-apart : IsNoneApart 3 vmo_write
vmo_write-apart = arg-apart 2 vmo _ (λ name. arg-apart 1 number _ (λ offset. arg-apart 0 byte_data _ (λ bytes. end-apart _)))

pub vmo_fill-apart : IsNoneApart 4 vmo_fill
vmo_fill-apart =
    arg-apart 3 vmo _ (λ name. arg-apart 2 number _ (λ offset. arg-apart 1 number _ (λ len. arg-apart 0 byte _ (λ value. end-apart _))))

pub vmo_pin-apart : IsNoneApart 4 vmo_pin
vmo_pin-apart = arg-apart 3 pin _ (λ token. ranged-apart vmo (VmoPin token))

pub vmar_protect-apart : IsNoneApart 4 vmar_protect
vmar_protect-apart =
    arg-apart 3 region _ (λ name. arg-apart 2 number _ (λ addr. arg-apart 1 number _ (λ len. arg-apart 0 perm _ (λ allowed. end-apart _))))

pub mem_write-apart : IsNoneApart 3 mem_write
mem_write-apart = arg-apart 2 region _ (λ name. arg-apart 1 number _ (λ addr. arg-apart 0 byte_data _ (λ bytes. end-apart _)))

-- ---- commands of one name, and of a range

pub vmo_by_one : (command : VmoName → Command) (arguments : List (List ℕ))
    → named vmo command arguments ≡ option_and_then (λ name. Some (command name)) (one_vmo arguments)
vmo_by_one command [] = refl
vmo_by_one command (a ∷ []) = refl
vmo_by_one command (a ∷ b ∷ cs) = named-apart vmo command (a ∷ b ∷ cs) (λ e. absurd (omega (arith, e)))

pub region_by_one : (command : RegionName → Command) (arguments : List (List ℕ))
    → named region command arguments ≡ option_and_then (λ name. Some (command name)) (one_region arguments)
region_by_one command [] = refl
region_by_one command (a ∷ []) = refl
region_by_one command (a ∷ b ∷ cs) = named-apart region command (a ∷ b ∷ cs) (λ e. absurd (omega (arith, e)))

pub vmo_range_by_range : (command : VmoName → ℕ → ℕ → Command) (arguments : List (List ℕ))
    → ranged vmo command arguments
    ≡ option_and_then (λ (p : VmoName × ℕ × ℕ). Some (command p.0 p.1 p.2)) (vmo_range arguments)
vmo_range_by_range command [] = refl
vmo_range_by_range command (a ∷ []) = ranged-apart vmo command (a ∷ []) (λ e. absurd (omega (arith, e)))
vmo_range_by_range command (a ∷ b ∷ []) = ranged-apart vmo command (a ∷ b ∷ []) (λ e. absurd (omega (arith, e)))
vmo_range_by_range command (a ∷ b ∷ c ∷ []) = steps command (vmo a) (number b) (number c)
vmo_range_by_range command (a ∷ b ∷ c ∷ d ∷ ds) = ranged-apart vmo command (a ∷ b ∷ c ∷ d ∷ ds) (λ e. absurd (omega (arith, e)))

pub region_range_by_range : (command : RegionName → ℕ → ℕ → Command) (arguments : List (List ℕ))
    → ranged region command arguments
    ≡ option_and_then (λ (p : RegionName × ℕ × ℕ). Some (command p.0 p.1 p.2)) (region_range arguments)
region_range_by_range command [] = refl
region_range_by_range command (a ∷ []) = ranged-apart region command (a ∷ []) (λ e. absurd (omega (arith, e)))
region_range_by_range command (a ∷ b ∷ []) = ranged-apart region command (a ∷ b ∷ []) (λ e. absurd (omega (arith, e)))
region_range_by_range command (a ∷ b ∷ c ∷ []) = steps command (region a) (number b) (number c)
region_range_by_range command (a ∷ b ∷ c ∷ d ∷ ds) = ranged-apart region command (a ∷ b ∷ c ∷ d ∷ ds) (λ e. absurd (omega (arith, e)))
