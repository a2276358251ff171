-- Commands by the groups of their fields.
use Rattle.std.proofs.Common.{◌≡◌, ℕ, ◌-◌, ◌<◌, ◌≤◌, Bool, List, [], ◌∷◌, length, map, get_or, take, drop, refl, sym, ◌∙◌, ap}
use Rattle.std.proofs.Common.{Bor, arith}
use Rattle.std.specs.Prelude.{Option, Some, None, option_and_then, if◌then◌else◌, codes}
use Rattle.std.specs.Option.{option_zip}
use Rattle.std.proofs.lemmas.List.{take_all}
use Rattle.vm_base.specs.declared.names.VmoName.{VmoName}
use Rattle.vm_base.specs.declared.names.RegionName.{RegionName}
use Rattle.vm_base.specs.declared.names.PinName.{PinName}
use Rattle.vm_base.specs.declared.flags.MapFlags.{MapFlags}
use Rattle.vm_base.specs.declared.flags.Perm.{Perm}
use Rattle.vm_model.specs.declared.command.ChildKind.{ChildKind}
use Rattle.vm_model.specs.Machine.Words.{Command}
use Rattle.vm_model.specs.declared.command.Command.TheVariants.{VmoWrite, VmoFill, VmoPin, VmarProtect, MemWrite}
use Rattle.vm_model.specs.declared.command.Command.TheVariants.{VmoCreate, VmoChild, VmoSetSize, VmarAllocate, VmarMap}
use Rattle.vm_model.specs.Language.Reading.{vmo, region, number, byte, byte_data, perm, pin}
use Rattle.vm_model.specs.Language.Reading.{vmo_write, vmo_fill, vmo_pin, vmar_protect, mem_write, child_kind, are_flags, stands}
use Rattle.vm_model.specs.Language.Reading.{vmo_create, vmo_create_child, vmo_set_size, vmar_allocate, vmar_map}
use Rattle.script_text.specs.inside.Groups.{vmo_and_number, range_of_vmo, region_and_number, range_of_region, child, range}
use Rattle.script_text.specs.inside.Shapes.{region_flag_words, region_flags, region_caps, map_flag_words, map_flags}

-- a word of a list
abbrev pub word : List (Bor (List ℕ)) → Bor (List ℕ) → ℕ → List ℕ
word xs d k = (get_or xs k d).now

two_words : (xs : List (Bor (List ℕ))) (d : Bor (List ℕ)) → 2 ≤ length xs → length xs < 3
    → map (λ a. a.now) xs ≡ word xs d 0 ∷ word xs d 1 ∷ []
two_words [] d some few = absurd (omega arith)
two_words (a ∷ []) d some few = absurd (omega arith)
two_words (a ∷ b ∷ []) d some few = refl
two_words (a ∷ b ∷ c ∷ cs) d some few = absurd (omega arith)

three_words : (xs : List (Bor (List ℕ))) (d : Bor (List ℕ)) → 3 ≤ length xs → length xs < 4
    → map (λ a. a.now) xs ≡ word xs d 0 ∷ word xs d 1 ∷ word xs d 2 ∷ []
three_words [] d some few = absurd (omega arith)
three_words (a ∷ []) d some few = absurd (omega arith)
three_words (a ∷ b ∷ []) d some few = absurd (omega arith)
three_words (a ∷ b ∷ c ∷ []) d some few = refl
three_words (a ∷ b ∷ c ∷ e ∷ es) d some few = absurd (omega arith)

four_words : (xs : List (Bor (List ℕ))) (d : Bor (List ℕ)) → 4 ≤ length xs → length xs < 5
    → map (λ a. a.now) xs ≡ word xs d 0 ∷ word xs d 1 ∷ word xs d 2 ∷ word xs d 3 ∷ []
four_words [] d some few = absurd (omega arith)
four_words (a ∷ []) d some few = absurd (omega arith)
four_words (a ∷ b ∷ []) d some few = absurd (omega arith)
four_words (a ∷ b ∷ c ∷ []) d some few = absurd (omega arith)
four_words (a ∷ b ∷ c ∷ e ∷ []) d some few = refl
four_words (a ∷ b ∷ c ∷ e ∷ f ∷ fs) d some few = absurd (omega arith)

-- a command of two groups
abbrev pub of_two : {A B : Type 0} → (A → B → Command) → Option A → Option B → Option Command
of_two f None q = None
of_two f (Some x) None = None
of_two f (Some x) (Some y) = Some (f x y)

-- a field behind two others, and behind three
pub behind_two : {A B C : Type 0} (f : A → B → C → Command) (a : Option A) (b : Option B) (c : Option C)
    → option_and_then (λ x. option_and_then (λ y. option_and_then (λ z. Some (f x y z)) c) b) a
    ≡ of_two (λ (p : A × B) z. f p.0 p.1 z) (option_zip a b) c
behind_two f None b c = refl
behind_two f (Some x) None c = refl
behind_two f (Some x) (Some y) None = refl
behind_two f (Some x) (Some y) (Some z) = refl

behind_three : {A B C D : Type 0} (f : A → B → C → D → Command) (a : Option A) (b : Option B) (c : Option C) (d : Option D)
    → option_and_then (λ x. option_and_then (λ y. option_and_then (λ z. option_and_then (λ v. Some (f x y z v)) d) c) b) a
    ≡ of_two (λ (p : A × B × C) v. f p.0 p.1 p.2 v)
    (option_and_then (λ x. option_and_then (λ y. option_and_then (λ z. Some (x, y, z)) c) b) a) d
behind_three f None b c d = refl
behind_three f (Some x) None c d = refl
behind_three f (Some x) (Some y) None d = refl
behind_three f (Some x) (Some y) (Some z) None = refl
behind_three f (Some x) (Some y) (Some z) (Some v) = refl

before_three : {A B C D : Type 0} (f : A → B → C → D → Command) (a : Option A) (b : Option B) (c : Option C) (d : Option D)
    → option_and_then (λ x. option_and_then (λ y. option_and_then (λ z. option_and_then (λ v. Some (f x y z v)) d) c) b) a
    ≡ of_two (λ x (p : B × C × D). f x p.0 p.1 p.2) a
    (option_and_then (λ y. option_and_then (λ z. option_and_then (λ v. Some (y, z, v)) d) c) b)
before_three f None b c d = refl
before_three f (Some x) None c d = refl
before_three f (Some x) (Some y) None d = refl
before_three f (Some x) (Some y) (Some z) None = refl
before_three f (Some x) (Some y) (Some z) (Some v) = refl

-- two fields alone
pair_alone : {A B : Type 0} (f : A → B → Command) (a : Option A) (b : Option B)
    → option_and_then (λ x. option_and_then (λ y. Some (f x y)) b) a
    ≡ option_and_then (λ (p : A × B). Some (f p.0 p.1)) (option_zip a b)
pair_alone f None b = refl
pair_alone f (Some x) None = refl
pair_alone f (Some x) (Some y) = refl

-- the answers of both groups give the command
module _ {A B : Type 0} (f : A → B → Command) (o o' : Option A) (q q' : Option B) (first : o ≡ o') (second : q ≡ q') where
  pub joined : of_two f o q ≡ of_two f o' q'
  joined = ap (λ x. of_two f x q) first ∙ ap (λ x. of_two f o' x) second

module _ (xs : List (Bor (List ℕ))) (d : Bor (List ℕ)) where
  pub set_size_of_one : 2 ≤ length xs → length xs < 3 → (o : Option (VmoName × ℕ))
      → o ≡ vmo_and_number (word xs d 0) (word xs d 1)
      → option_and_then (λ (p : VmoName × ℕ). Some (VmoSetSize p.0 p.1)) o ≡ vmo_set_size (map (λ a. a.now) xs)
  set_size_of_one some few o group =
      ap (λ v. option_and_then (λ (p : VmoName × ℕ). Some (VmoSetSize p.0 p.1)) v) group
      ∙ sym (ap vmo_set_size (two_words xs d some few)
      ∙ pair_alone VmoSetSize (vmo (word xs d 0)) (number (word xs d 1)))

  pub pin_of_two : 4 ≤ length xs → length xs < 5 → (o : Option PinName) (q : Option (VmoName × ℕ × ℕ))
      → o ≡ pin (word xs d 0) → q ≡ range_of_vmo (word xs d 1) (word xs d 2) (word xs d 3)
      → of_two (λ x p. VmoPin x p.0 p.1 p.2) o q ≡ vmo_pin (map (λ a. a.now) xs)
  pin_of_two some few o q first second =
      joined _ o _ q _ first second
      ∙ sym (ap vmo_pin (four_words xs d some few)
      ∙ before_three VmoPin (pin (word xs d 0)) (vmo (word xs d 1)) (number (word xs d 2)) (number (word xs d 3)))

  pub fill_of_two : 4 ≤ length xs → length xs < 5 → (o : Option (VmoName × ℕ × ℕ)) (q : Option ℕ)
      → o ≡ range_of_vmo (word xs d 0) (word xs d 1) (word xs d 2) → q ≡ byte (word xs d 3)
      → of_two (λ p x. VmoFill p.0 p.1 p.2 x) o q ≡ vmo_fill (map (λ a. a.now) xs)
  fill_of_two some few o q first second =
      joined _ o _ q _ first second
      ∙ sym (ap vmo_fill (four_words xs d some few)
      ∙ behind_three VmoFill (vmo (word xs d 0)) (number (word xs d 1)) (number (word xs d 2)) (byte (word xs d 3)))

  pub protect_of_two : 4 ≤ length xs → length xs < 5 → (o : Option (RegionName × ℕ × ℕ)) (q : Option Perm)
      → o ≡ range_of_region (word xs d 0) (word xs d 1) (word xs d 2) → q ≡ perm (word xs d 3)
      → of_two (λ p x. VmarProtect p.0 p.1 p.2 x) o q ≡ vmar_protect (map (λ a. a.now) xs)
  protect_of_two some few o q first second =
      joined _ o _ q _ first second
      ∙ sym (ap vmar_protect (four_words xs d some few)
      ∙ behind_three VmarProtect (region (word xs d 0)) (number (word xs d 1)) (number (word xs d 2)) (perm (word xs d 3)))

  pub vmo_write_of_two : 3 ≤ length xs → length xs < 4 → (o : Option (VmoName × ℕ)) (q : Option (List ℕ))
      → o ≡ vmo_and_number (word xs d 0) (word xs d 1) → q ≡ byte_data (word xs d 2)
      → of_two (λ p x. VmoWrite p.0 p.1 x) o q ≡ vmo_write (map (λ a. a.now) xs)
  vmo_write_of_two some few o q first second =
      joined _ o _ q _ first second
      ∙ sym (ap vmo_write (three_words xs d some few)
      ∙ behind_two VmoWrite (vmo (word xs d 0)) (number (word xs d 1)) (byte_data (word xs d 2)))

  pub mem_write_of_two : 3 ≤ length xs → length xs < 4 → (o : Option (RegionName × ℕ)) (q : Option (List ℕ))
      → o ≡ region_and_number (word xs d 0) (word xs d 1) → q ≡ byte_data (word xs d 2)
      → of_two (λ p x. MemWrite p.0 p.1 x) o q ≡ mem_write (map (λ a. a.now) xs)
  mem_write_of_two some few o q first second =
      joined _ o _ q _ first second
      ∙ sym (ap mem_write (three_words xs d some few)
      ∙ behind_two MemWrite (region (word xs d 0)) (number (word xs d 1)) (byte_data (word xs d 2)))

-- a command of a group, where its flags are known
abbrev pub of_flags : {A : Type 0} → (A → Command) → Option A → Bool → Option Command
of_flags f o known = option_and_then (λ x. if known then Some (f x) else None) o

-- the words behind so many
abbrev pub behind : List (Bor (List ℕ)) → ℕ → List (List ℕ)
behind xs k = map (λ a. a.now) (take (length xs - k) (drop k xs))

two_and_more : (xs : List (Bor (List ℕ))) (d : Bor (List ℕ)) → 2 ≤ length xs
    → map (λ a. a.now) xs ≡ word xs d 0 ∷ word xs d 1 ∷ behind xs 2
two_and_more [] d some = absurd (omega arith)
two_and_more (a ∷ []) d some = absurd (omega arith)
two_and_more (a ∷ b ∷ xs) d some =
    ap (λ ys. a.now ∷ b.now ∷ map (λ v. v.now) ys) (sym (take_all (length (a ∷ b ∷ xs) - 2) xs (omega arith)))

four_and_more : (xs : List (Bor (List ℕ))) (d : Bor (List ℕ)) → 4 ≤ length xs
    → map (λ a. a.now) xs ≡ word xs d 0 ∷ word xs d 1 ∷ word xs d 2 ∷ word xs d 3 ∷ behind xs 4
four_and_more [] d some = absurd (omega arith)
four_and_more (a ∷ []) d some = absurd (omega arith)
four_and_more (a ∷ b ∷ []) d some = absurd (omega arith)
four_and_more (a ∷ b ∷ c ∷ []) d some = absurd (omega arith)
four_and_more (a ∷ b ∷ c ∷ e ∷ xs) d some =
    ap (λ ys. a.now ∷ b.now ∷ c.now ∷ e.now ∷ map (λ v. v.now) ys)
    (sym (take_all (length (a ∷ b ∷ c ∷ e ∷ xs) - 4) xs (omega arith)))

five_and_more : (xs : List (Bor (List ℕ))) (d : Bor (List ℕ)) → 5 ≤ length xs → map (λ a. a.now) xs
    ≡ word xs d 0 ∷ word xs d 1 ∷ word xs d 2 ∷ word xs d 3 ∷ word xs d 4 ∷ behind xs 5
five_and_more [] d some = absurd (omega arith)
five_and_more (a ∷ []) d some = absurd (omega arith)
five_and_more (a ∷ b ∷ []) d some = absurd (omega arith)
five_and_more (a ∷ b ∷ c ∷ []) d some = absurd (omega arith)
five_and_more (a ∷ b ∷ c ∷ e ∷ []) d some = absurd (omega arith)
five_and_more (a ∷ b ∷ c ∷ e ∷ f ∷ xs) d some =
    ap (λ ys. a.now ∷ b.now ∷ c.now ∷ e.now ∷ f.now ∷ map (λ v. v.now) ys)
    (sym (take_all (length (a ∷ b ∷ c ∷ e ∷ f ∷ xs) - 5) xs (omega arith)))

six_and_more : (xs : List (Bor (List ℕ))) (d : Bor (List ℕ)) → 6 ≤ length xs → map (λ a. a.now) xs
    ≡ word xs d 0 ∷ word xs d 1 ∷ word xs d 2 ∷ word xs d 3 ∷ word xs d 4 ∷ word xs d 5 ∷ behind xs 6
six_and_more [] d some = absurd (omega arith)
six_and_more (a ∷ []) d some = absurd (omega arith)
six_and_more (a ∷ b ∷ []) d some = absurd (omega arith)
six_and_more (a ∷ b ∷ c ∷ []) d some = absurd (omega arith)
six_and_more (a ∷ b ∷ c ∷ e ∷ []) d some = absurd (omega arith)
six_and_more (a ∷ b ∷ c ∷ e ∷ f ∷ []) d some = absurd (omega arith)
six_and_more (a ∷ b ∷ c ∷ e ∷ f ∷ g ∷ xs) d some =
    ap (λ ys. a.now ∷ b.now ∷ c.now ∷ e.now ∷ f.now ∷ g.now ∷ map (λ v. v.now) ys)
    (sym (take_all (length (a ∷ b ∷ c ∷ e ∷ f ∷ g ∷ xs) - 6) xs (omega arith)))

-- fields before flags, by their groups
flags_of_two : {A B : Type 0} (f : A → B → Command) (known : Bool) (a : Option A) (b : Option B)
    → option_and_then (λ x. option_and_then (λ y. if known then Some (f x y) else None) b) a
    ≡ of_flags (λ (p : A × B). f p.0 p.1) (option_zip a b) known
flags_of_two f known None b = refl
flags_of_two f known (Some x) None = refl
flags_of_two f known (Some x) (Some y) = refl

flags_of_five : {A B C D E : Type 0} (f : A → B → C → D → E → Command) (known : Bool)
    (a : Option A) (b : Option B) (c : Option C) (d : Option D) (e : Option E)
    → option_and_then (λ x. option_and_then (λ y. option_and_then (λ z. option_and_then (λ v. option_and_then
    (λ w. if known then Some (f x y z v w) else None) e) d) c) b) a
    ≡ of_flags (λ (p : (A × B × C) × (D × E)). f p.0.0 p.0.1 p.0.2 p.1.0 p.1.1)
    (option_zip (option_and_then (λ x. option_and_then (λ y. option_and_then (λ z. Some (x, y, z)) c) b) a)
    (option_zip d e)) known
flags_of_five f known None b c d e = refl
flags_of_five f known (Some x) None c d e = refl
flags_of_five f known (Some x) (Some y) None d e = refl
flags_of_five f known (Some x) (Some y) (Some z) None e = refl
flags_of_five f known (Some x) (Some y) (Some z) (Some v) None = refl
flags_of_five f known (Some x) (Some y) (Some z) (Some v) (Some w) = refl

flags_of_four : {A B C D : Type 0} (f : A → B → C → D → Command) (known : Bool)
    (a : Option A) (b : Option B) (c : Option C) (d : Option D)
    → option_and_then (λ x. option_and_then (λ y. option_and_then (λ z. option_and_then
    (λ v. if known then Some (f x y z v) else None) d) c) b) a
    ≡ of_flags (λ (p : A × (B × C × D)). f p.0 p.1.0 p.1.1 p.1.2)
    (option_zip a (option_and_then (λ y. option_and_then (λ z. option_and_then (λ v. Some (y, z, v)) d) c) b)) known
flags_of_four f known None b c d = refl
flags_of_four f known (Some x) None c d = refl
flags_of_four f known (Some x) (Some y) None d = refl
flags_of_four f known (Some x) (Some y) (Some z) None = refl
flags_of_four f known (Some x) (Some y) (Some z) (Some v) = refl

flags_of_six : {A B C D E F : Type 0} (f : A → B → C → D → E → F → Command) (known : Bool)
    (a : Option A) (b : Option B) (c : Option C) (d : Option D) (e : Option E) (g : Option F)
    → option_and_then (λ x. option_and_then (λ y. option_and_then (λ z. option_and_then (λ v. option_and_then
    (λ w. option_and_then (λ u. if known then Some (f x y z v w u) else None) g) e) d) c) b) a
    ≡ of_flags (λ (p : ((A × B) × (C × D × E)) × F). f p.0.0.0 p.0.0.1 p.0.1.0 p.0.1.1 p.0.1.2 p.1)
    (option_zip (option_zip (option_zip a b)
    (option_and_then (λ z. option_and_then (λ v. option_and_then (λ w. Some (z, v, w)) e) d) c)) g) known
flags_of_six f known None b c d e g = refl
flags_of_six f known (Some x) None c d e g = refl
flags_of_six f known (Some x) (Some y) None d e g = refl
flags_of_six f known (Some x) (Some y) (Some z) None e g = refl
flags_of_six f known (Some x) (Some y) (Some z) (Some v) None g = refl
flags_of_six f known (Some x) (Some y) (Some z) (Some v) (Some w) None = refl
flags_of_six f known (Some x) (Some y) (Some z) (Some v) (Some w) (Some u) = refl

module _ {A : Type 0} (f : A → Command) (o o' : Option A) (b b' : Bool) (first : o ≡ o') (known : b ≡ b') where
  flagged_alike : of_flags f o b ≡ of_flags f o' b'
  flagged_alike = ap (λ x. of_flags f x b) first ∙ ap (λ v. of_flags f o' v) known

zip_alike : {A B : Type 0} (o o' : Option A) (q q' : Option B) → o ≡ o' → q ≡ q' → option_zip o q ≡ option_zip o' q'
zip_alike o o' q q' first second = ap (λ x. option_zip x q) first ∙ ap (λ x. option_zip o' x) second

module _ (xs : List (Bor (List ℕ))) (d : Bor (List ℕ)) where
  pub create_of_flags : 2 ≤ length xs → (o : Option (VmoName × ℕ)) (known resizable : Bool)
      → o ≡ vmo_and_number (word xs d 0) (word xs d 1) → known ≡ are_flags (codes "resizable" ∷ []) (behind xs 2)
      → resizable ≡ stands (codes "resizable") (behind xs 2)
      → of_flags (λ p. VmoCreate p.0 p.1 resizable) o known ≡ vmo_create (map (λ a. a.now) xs)
  create_of_flags some o known resizable first second flag =
      ap (λ v. of_flags (λ (p : VmoName × ℕ). VmoCreate p.0 p.1 v) o known) flag
      ∙ flagged_alike _ o _ known _ first second
      ∙ sym (ap vmo_create (two_and_more xs d some)
      ∙ flags_of_two (λ x y. VmoCreate x y (stands (codes "resizable") (behind xs 2)))
      (are_flags (codes "resizable" ∷ []) (behind xs 2)) (vmo (word xs d 0)) (number (word xs d 1)))

  pub child_of_flags : 5 ≤ length xs → (o : Option (VmoName × VmoName × ChildKind)) (q : Option (ℕ × ℕ))
      → (known resizable no_write : Bool) → o ≡ child (word xs d 0) (word xs d 1) (word xs d 2)
      → q ≡ range (word xs d 3) (word xs d 4)
      → known ≡ are_flags (codes "resizable" ∷ codes "no_write" ∷ []) (behind xs 5)
      → resizable ≡ stands (codes "resizable") (behind xs 5) → no_write ≡ stands (codes "no_write") (behind xs 5)
      → of_flags (λ p. VmoChild p.0.0 p.0.1 p.0.2 p.1.0 p.1.1 resizable no_write) (option_zip o q) known
      ≡ vmo_create_child (map (λ a. a.now) xs)
  child_of_flags some o q known resizable no_write first second flags one two =
      ap (λ v. of_flags (λ (p : (VmoName × VmoName × ChildKind) × (ℕ × ℕ)).
      VmoChild p.0.0 p.0.1 p.0.2 p.1.0 p.1.1 v no_write) (option_zip o q) known) one
      ∙ ap (λ v. of_flags (λ (p : (VmoName × VmoName × ChildKind) × (ℕ × ℕ)).
      VmoChild p.0.0 p.0.1 p.0.2 p.1.0 p.1.1 (stands (codes "resizable") (behind xs 5)) v) (option_zip o q) known) two
      ∙ flagged_alike _ (option_zip o q) _ known _ (zip_alike o _ q _ first second) flags
      ∙ sym (ap vmo_create_child (five_and_more xs d some)
      ∙ flags_of_five (λ x y z v w.
      VmoChild x y z v w (stands (codes "resizable") (behind xs 5)) (stands (codes "no_write") (behind xs 5)))
      (are_flags (codes "resizable" ∷ codes "no_write" ∷ []) (behind xs 5)) (vmo (word xs d 0)) (vmo (word xs d 1))
      (child_kind (word xs d 2)) (number (word xs d 3)) (number (word xs d 4)))

  pub allocate_of_flags : 4 ≤ length xs → (o : Option RegionName) (q : Option (RegionName × ℕ × ℕ)) (known : Bool)
      → (flags : MapFlags) (caps : Perm) → o ≡ region (word xs d 0)
      → q ≡ range_of_region (word xs d 1) (word xs d 2) (word xs d 3)
      → known ≡ are_flags region_flag_words (behind xs 4) → flags ≡ region_flags (behind xs 4)
      → caps ≡ region_caps (behind xs 4)
      → of_flags (λ p. VmarAllocate p.0 p.1.0 p.1.1 p.1.2 flags caps) (option_zip o q) known
      ≡ vmar_allocate (map (λ a. a.now) xs)
  allocate_of_flags some o q known flags caps first second third placed allowed =
      ap (λ v. of_flags (λ (p : RegionName × (RegionName × ℕ × ℕ)).
      VmarAllocate p.0 p.1.0 p.1.1 p.1.2 v caps) (option_zip o q) known) placed
      ∙ ap (λ v. of_flags (λ (p : RegionName × (RegionName × ℕ × ℕ)).
      VmarAllocate p.0 p.1.0 p.1.1 p.1.2 (region_flags (behind xs 4)) v) (option_zip o q) known) allowed
      ∙ flagged_alike _ (option_zip o q) _ known _ (zip_alike o _ q _ first second) third
      ∙ sym (ap vmar_allocate (four_and_more xs d some)
      ∙ flags_of_four (λ x y z v. VmarAllocate x y z v (region_flags (behind xs 4)) (region_caps (behind xs 4)))
      (are_flags region_flag_words (behind xs 4)) (region (word xs d 0)) (region (word xs d 1)) (number (word xs d 2))
      (number (word xs d 3)))

  pub map_of_flags : 6 ≤ length xs → (o : Option (RegionName × ℕ)) (q : Option (VmoName × ℕ × ℕ)) (r : Option Perm)
      → (known : Bool) (flags : MapFlags) → o ≡ region_and_number (word xs d 0) (word xs d 1)
      → q ≡ range_of_vmo (word xs d 2) (word xs d 3) (word xs d 4) → r ≡ perm (word xs d 5)
      → known ≡ are_flags map_flag_words (behind xs 6) → flags ≡ map_flags (behind xs 6)
      → of_flags (λ p. VmarMap p.0.0.0 p.0.0.1 p.0.1.0 p.0.1.1 p.0.1.2 p.1 flags) (option_zip (option_zip o q) r) known
      ≡ vmar_map (map (λ a. a.now) xs)
  map_of_flags some o q r known flags first second third words placed =
      ap (λ v. of_flags (λ (p : ((RegionName × ℕ) × (VmoName × ℕ × ℕ)) × Perm).
      VmarMap p.0.0.0 p.0.0.1 p.0.1.0 p.0.1.1 p.0.1.2 p.1 v) (option_zip (option_zip o q) r) known) placed
      ∙ flagged_alike _ (option_zip (option_zip o q) r) _ known _
      (zip_alike (option_zip o q) _ r _ (zip_alike o _ q _ first second) third) words
      ∙ sym (ap vmar_map (six_and_more xs d some)
      ∙ flags_of_six (λ x y z v w u. VmarMap x y z v w u (map_flags (behind xs 6)))
      (are_flags map_flag_words (behind xs 6)) (region (word xs d 0)) (number (word xs d 1)) (vmo (word xs d 2))
      (number (word xs d 3)) (number (word xs d 4)) (perm (word xs d 5)))
