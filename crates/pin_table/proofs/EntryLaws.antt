-- What the entries of the map of pins are as a map from numbers, after a call of the library.
use Rattle.std.proofs.Common.{◌≡◌, ℕ, ◌==◌, Bool, true, false, cond, List, [], Option, None, Some, IsSome, is_some, Result, Ok, Err, refl, sym, ap, ◌∙◌, arith}
use Rattle.std.specs.Option.{option_map}
use Rattle.std.specs.Prelude.{IsOk, OnOk}
use Rattle.std.specs.Map.{lookup}
use Rattle.std.proofs.lemmas.Bool.Decides.{nat_tests}
use Rattle.vm_base.specs.declared.names.PinName.{PinName}
use Rattle.vm_base.specs.Entries.{with_key, without_key}
use Rattle.pin_table.specs.declared.pin_table.Pin.{Pin}
use Rattle.pin_table.specs.Table.{pin_of_held, pins_in}

-- an entry of the map
abbrev pub held_at : List (PinName × Pin) → ℕ → Option Pin
held_at entries n = lookup (λ (name : PinName). n == name.0) entries

pub pins_in-is : (entries : List (PinName × Pin)) (n : ℕ) → pins_in entries n ≡ option_map pin_of_held (held_at entries n)
unfolding pins_in
pins_in-is entries n = refl

pub pins_in_found : (entries : List (PinName × Pin)) (n : ℕ) (pin : Pin) → held_at entries n ≡ Some pin → pins_in entries n ≡ Some (pin_of_held pin)
pins_in_found entries n pin e = pins_in-is entries n ∙ ap (option_map pin_of_held) e

-- a pin that is there is in the map
pub held_there : (entries : List (PinName × Pin)) (n : ℕ) → IsSome (pins_in entries n) → IsSome (held_at entries n)
held_there entries n h = of (held_at entries n) (sym (ap is_some (pins_in-is entries n)) ∙ h)
  where
    of : (o : Option Pin) → IsSome (option_map pin_of_held o) → IsSome o
    of None e = absurd (cc)
    of (Some pin) e = refl

-- nothing is in an empty map
pub pins_in-empty : (entries : List (PinName × Pin)) → entries ≡ [] → (n : ℕ) → pins_in entries n ≡ None
unfolding pins_in
pins_in-empty entries e n = ap (λ (es : List (PinName × Pin)). option_map pin_of_held (held_at es n)) e

-- ---- what a call leaves

flipped : (a b : ℕ) → (a == b) ≡ (b == a)
flipped a b = grind (arith, nat_tests)

-- a value of a condition, in plain numbers
plain : (b : Bool) (o p : Option Pin) → option_map pin_of_held (cond b o p) ≡ cond b (option_map pin_of_held o) (option_map pin_of_held p)
plain true o p = refl
plain false o p = refl

pub pins_in-same : (old new : List (PinName × Pin)) → ((q : PinName) → held_at new q.0 ≡ held_at old q.0) → pins_in new ≡ pins_in old
unfolding pins_in
pins_in-same old new each = λ i n. option_map pin_of_held (each (record { 0 = n }) i)

pub pins_in-put : (old new : List (PinName × Pin)) (k : ℕ) (pin : Pin) → ((q : PinName) → held_at new q.0 ≡ cond (k == q.0) (Some pin) (held_at old q.0)) → pins_in new ≡ with_key (pins_in old) k (pin_of_held pin)
unfolding pins_in with_key
pins_in-put old new k pin each = λ i n.
    (ap (option_map pin_of_held) (each (record { 0 = n }) ∙ ap (λ (b : Bool). cond b (Some pin) (held_at old n)) (flipped k n)) ∙ plain (n == k) (Some pin) (held_at old n)) i

pub pins_in-taken : (old new : List (PinName × Pin)) (k : ℕ) → ((q : PinName) → held_at new q.0 ≡ cond (k == q.0) None (held_at old q.0)) → pins_in new ≡ without_key (pins_in old) k
unfolding pins_in without_key
pins_in-taken old new k each = λ i n.
    (ap (option_map pin_of_held) (each (record { 0 = n }) ∙ ap (λ (b : Bool). cond b None (held_at old n)) (flipped k n)) ∙ plain (n == k) None (held_at old n)) i

-- what holds on success holds
pub from_ok : {T E P : Type 0} (r : Result T E) → IsOk r → OnOk r P → P
from_ok (Ok x) e h = h
from_ok (Err d) e h = absurd cc
