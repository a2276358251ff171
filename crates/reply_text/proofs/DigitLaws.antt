-- Numbers by their digits, read from the last one: what a word of digits spells, in decimal and in hexadecimal.
use Rattle.std.proofs.Common.{◌≡◌, ◌≢◌, ℕ, ◌+◌, ◌-◌, ◌*◌, ◌/◌, ◌%◌, ◌^◌, ◌<◌, ◌≤◌, false, List, [], ◌∷◌, ◌++◌, length, Option, None, Some, ◌⊎◌, refl, sym, ap, subst, ◌∙◌, inl, inr, length-append, arith}
use Rattle.std.specs.Prelude.{MatchOption}
use Rattle.std.specs.Str.Parse.{digits_value}
use Rattle.std.specs.Fmt.{digits, digit_glyph, decimal}
use Rattle.std.proofs.lemmas.Bool.{cases_lt, cond-true, lt-ltb}
use Rattle.std.proofs.lemmas.List.{same_from_push}
use Rattle.std.proofs.lemmas.Fmt.{hex_one_digit, decimal_digit, decimal_step, length-decimal-le, digits_is_IsNumeral, decimal_is_IsNumeral}
use Rattle.reply_text.proofs.Hex.{hex_step, hex_short}

abbrev pub IsBase : ℕ → Type 0
IsBase base = (base ≡ 10) ⊎ (base ≡ 16)

-- ---- one digit, and more

decimal_glyph : (d : ℕ) → d < 10 → digit_glyph false d ≡ 48 + d
decimal_glyph d h = cond-true _ _ _ (lt-ltb d 10 h)

pub one_digit : (base n : ℕ) → IsBase base → n < base → digits base false n ≡ digit_glyph false n ∷ []
one_digit base n (inl e) h =
    let low : n < 10 = omega (arith, e, h) in
    ap (λ (b : ℕ). digits b false n) e ∙ (decimal_digit n low ∙ ap (λ (g : ℕ). g ∷ []) (sym (decimal_glyph n low)))
one_digit base n (inr e) h = ap (λ (b : ℕ). digits b false n) e ∙ hex_one_digit false n (omega (arith, e, h))

pub more_digits : (base n : ℕ) → IsBase base → base ≤ n → n < 2 ^ 64 → digits base false n ≡ digits base false (n / base) ++ digit_glyph false (n % base) ∷ []
more_digits base n (inl e) h fits =
    rw e (decimal_step n (omega (arith, e, h)) fits ∙ ap (λ (g : ℕ). digits 10 false (n / 10) ++ g ∷ []) (sym (decimal_glyph (n % 10) (omega arith))))
more_digits base n (inr e) h fits = rw e (hex_step n (omega (arith, e, h)) fits)

pub few_digits : (base n : ℕ) → IsBase base → n < 2 ^ 64 → length (digits base false n) ≤ 20
few_digits base n (inl e) fits = rw e (length-decimal-le 20 n (omega arith) (omega arith) fits)
few_digits base n (inr e) fits = rw e (omega (arith, hex_short n fits))

-- numbers with the same digits are the same
pub same_digits : (base m n : ℕ) → IsBase base → m < 2 ^ 64 → n < 2 ^ 64 → digits base false m ≡ digits base false n → m ≡ n
same_digits base m n (inl is) h l e =
    let same : decimal m ≡ decimal n = ap (λ (b : ℕ). digits b false m) (sym is) ∙ (e ∙ ap (λ (b : ℕ). digits b false n) is) in
    sym (decimal_is_IsNumeral m h).1 ∙ (ap (digits_value 10) same ∙ (decimal_is_IsNumeral n l).1)
same_digits base m n (inr is) h l e =
    let same : digits 16 false m ≡ digits 16 false n = ap (λ (b : ℕ). digits b false m) (sym is) ∙ (e ∙ ap (λ (b : ℕ). digits b false n) is) in
    sym (digits_is_IsNumeral 16 false (omega arith) (omega arith) m (omega (arith, h))).1 ∙ (ap (digits_value 16) same ∙ (digits_is_IsNumeral 16 false (omega arith) (omega arith) n (omega (arith, l))).1)

-- digits that look alike are the same
pub same_glyphs : (c d : ℕ) → c < 16 → d < 16 → digit_glyph false c ≡ digit_glyph false d → c ≡ d
same_glyphs c d h l e = grind arith

-- ---- one digit behind others

pub some_appended : (base high d : ℕ) → IsBase base → 0 < high → high ≤ (2 ^ 64 - 1 - d) / base → d < base → digits base false (high * base + d) ≡ digits base false high ++ digit_glyph false d ∷ []
some_appended base high d is some fits low =
    let front : (high * base + d) / base ≡ high = front_of base high d is low in
    let end : (high * base + d) % base ≡ d = end_of base high d is low in
    more_digits base (high * base + d) is (large base high d is some) (small base high d is low fits) ∙ (λ i. digits base false (front i) ++ digit_glyph false (end i) ∷ []) where
      front_of : (b h c : ℕ) → IsBase b → c < b → (h * b + c) / b ≡ h
      front_of b h c (inl e) l = rw e (let k : c < 10 = omega (arith, e, l) in omega arith)
      front_of b h c (inr e) l = rw e (let k : c < 16 = omega (arith, e, l) in omega arith)

      end_of : (b h c : ℕ) → IsBase b → c < b → (h * b + c) % b ≡ c
      end_of b h c (inl e) l = rw e (let k : c < 10 = omega (arith, e, l) in omega arith)
      end_of b h c (inr e) l = rw e (let k : c < 16 = omega (arith, e, l) in omega arith)

      large : (b h c : ℕ) → IsBase b → 0 < h → b ≤ h * b + c
      large b h c (inl e) l = rw e (omega (arith, l))
      large b h c (inr e) l = rw e (omega (arith, l))

      small : (b h c : ℕ) → IsBase b → c < b → h ≤ (2 ^ 64 - 1 - c) / b → h * b + c < 2 ^ 64
      small b h c (inl e) l k = rw e (let f : h ≤ (2 ^ 64 - 1 - c) / 10 = subst (λ (x : ℕ). h ≤ (2 ^ 64 - 1 - c) / x) e k in let g : c < 10 = omega (arith, e, l) in omega arith)
      small b h c (inr e) l k = rw e (let f : h ≤ (2 ^ 64 - 1 - c) / 16 = subst (λ (x : ℕ). h ≤ (2 ^ 64 - 1 - c) / x) e k in let g : c < 16 = omega (arith, e, l) in omega arith)

-- where the front is zero, or the whole does not fit, no number has these digits
pub none_appended : (base high d n : ℕ) → IsBase base → high < 2 ^ 64 → d < base → (high ≡ 0) ⊎ ((2 ^ 64 - 1 - d) / base < high) → n < 2 ^ 64 → base ≤ n
    → digits base false (n / base) ≡ digits base false high → n % base ≢ d
none_appended base high d n is fits low much h more e same =
    let front : n / base ≡ high = same_digits base (n / base) high is (quotient base n is h) fits e in
    elim much [ inl zero_is ↦ leading base n high is more front zero_is | inr large ↦ past base n high d is h low front same large ] where
      quotient : (b m : ℕ) → IsBase b → m < 2 ^ 64 → m / b < 2 ^ 64
      quotient b m (inl e) l = rw e (omega (arith, l))
      quotient b m (inr e) l = rw e (omega (arith, l))

      leading : (b m t : ℕ) → IsBase b → b ≤ m → m / b ≡ t → t ≡ 0 → ⊥
      leading b m t (inl e) l f z = let g : m / 10 ≡ t = subst (λ (x : ℕ). m / x ≡ t) e f in omega (arith, e, l, z)
      leading b m t (inr e) l f z = let g : m / 16 ≡ t = subst (λ (x : ℕ). m / x ≡ t) e f in omega (arith, e, l, z)

      past : (b m t c : ℕ) → IsBase b → m < 2 ^ 64 → c < b → m / b ≡ t → m % b ≡ c → (2 ^ 64 - 1 - c) / b < t → ⊥
      past b m t c (inl e) l k f g x =
          let p : m / 10 ≡ t = subst (λ (y : ℕ). m / y ≡ t) e f in
          let q : m % 10 ≡ c = subst (λ (y : ℕ). m % y ≡ c) e g in
          let u : (2 ^ 64 - 1 - c) / 10 < t = subst (λ (y : ℕ). (2 ^ 64 - 1 - c) / y < t) e x in
          omega (arith, l)
      past b m t c (inr e) l k f g x =
          let p : m / 16 ≡ t = subst (λ (y : ℕ). m / y ≡ t) e f in
          let q : m % 16 ≡ c = subst (λ (y : ℕ). m % y ≡ c) e g in
          let u : (2 ^ 64 - 1 - c) / 16 < t = subst (λ (y : ℕ). (2 ^ 64 - 1 - c) / y < t) e x in
          omega (arith, l)

-- ---- a word that spells a number, from its last byte

-- The word has one byte, the digit of the number, or its front spells the number without its last digit.
pub ends : (base n : ℕ) (front : List ℕ) (last : ℕ) → IsBase base → n < 2 ^ 64 → front ++ last ∷ [] ≡ digits base false n
    → (last ≡ digit_glyph false (n % base)) × (((front ≡ []) × (n < base)) ⊎ ((base ≤ n) × (front ≡ digits base false (n / base))))
ends base n front last is fits e = elim (cases_lt n base) [
  | inl less ↦
      let parts = same_from_push front [] last (digit_glyph false n) (e ∙ one_digit base n is less) in
      let same : n % base ≡ n = rest base n is less in
      (parts.1 ∙ ap (digit_glyph false) (sym same), inl (parts.0, less))
  | inr more ↦
      let parts = same_from_push front (digits base false (n / base)) last (digit_glyph false (n % base)) (e ∙ more_digits base n is more fits) in
      (parts.1, inr (more, parts.0))
] where
  rest : (b m : ℕ) → IsBase b → m < b → m % b ≡ m
  rest b m (inl e) l = rw e (let k : m < 10 = omega (arith, e, l) in omega arith)
  rest b m (inr e) l = rw e (let k : m < 16 = omega (arith, e, l) in omega arith)

-- ---- what a reader of a word has seen

module _ (base : ℕ) (is : IsBase base) where
  quotient_fits : (n : ℕ) → n < 2 ^ 64 → n / base < 2 ^ 64
  quotient_fits n h = go base is where
    go : (b : ℕ) → IsBase b → n / b < 2 ^ 64
    go b (inl e) = rw e (omega (arith, h))
    go b (inr e) = rw e (omega (arith, h))

  rest_less : (n : ℕ) → n % base < base
  rest_less n = go base is where
    go : (b : ℕ) → IsBase b → n % b < b
    go b (inl e) = rw e (omega arith)
    go b (inr e) = rw e (omega arith)

  -- it is too long
  pub too_long : (word : List ℕ) → 20 < length word → (n : ℕ) → n < 2 ^ 64 → word ≢ digits base false n
  too_long word more n h e = omega (arith, more, few_digits base n is h, ap length e)

  -- it has no byte
  pub no_digits : (word : List ℕ) → length word ≡ 0 → (n : ℕ) → n < 2 ^ 64 → word ≢ digits base false n
  no_digits word none n h e = elim (cases_lt n base) [
    | inl less ↦ omega (arith, none, ap length (e ∙ one_digit base n is less))
    | inr more ↦ omega (arith, none, ap length (e ∙ more_digits base n is more h), length-append (digits base false (n / base)) (digit_glyph false (n % base) ∷ []))
  ]

  module _ (word front : List ℕ) (last : ℕ) (parts : word ≡ front ++ last ∷ []) where
    -- its last byte is no digit
    pub no_digit : ((d : ℕ) → d < base → last ≢ digit_glyph false d) → (n : ℕ) → n < 2 ^ 64 → word ≢ digits base false n
    no_digit none n h e = none (n % base) (rest_less n) (ends base n front last is h (sym parts ∙ e)).0

    -- it is one digit
    pub is_digit : (d : ℕ) → length front ≡ 0 → d < base → last ≡ digit_glyph false d → word ≡ digits base false d
    is_digit d none low glyph = parts ∙ ((λ i. nil_is front none i ++ glyph i ∷ []) ∙ sym (one_digit base d is low)) where
      nil_is : (xs : List ℕ) → length xs ≡ 0 → xs ≡ []
      nil_is [] f = refl
      nil_is (x ∷ xs) f = absurd (omega (arith, f))

    -- its front spells no number
    pub no_front : length front ≢ 0 → ((m : ℕ) → m < 2 ^ 64 → front ≢ digits base false m) → (n : ℕ) → n < 2 ^ 64 → word ≢ digits base false n
    no_front some none n h e = elim (ends base n front last is h (sym parts ∙ e)).1 [
      | inl one ↦ absurd (some (ap length one.0))
      | inr more ↦ none (n / base) (quotient_fits n h) more.1
    ]

    -- its front spells a number, and its last byte is a digit
    pub appended_none : (high d : ℕ) → length front ≢ 0 → d < base → last ≡ digit_glyph false d → front ≡ digits base false high
        → ((n : ℕ) → n < 2 ^ 64 → base ≤ n → digits base false (n / base) ≡ digits base false high → n % base ≢ d) → (n : ℕ) → n < 2 ^ 64 → word ≢ digits base false n
    appended_none high d some low glyph spells none n h e =
        let end = ends base n front last is h (sym parts ∙ e) in
        elim end.1 [
          | inl one ↦ absurd (some (ap length one.0))
          | inr more ↦ none n h more.0 (sym more.1 ∙ spells) (same_glyphs (n % base) d (below_16 (n % base) (rest_less n)) (below_16 d low) (sym end.0 ∙ glyph))
        ] where
          below_16 : (k : ℕ) → k < base → k < 16
          below_16 k l = go base is l where
            go : (b : ℕ) → IsBase b → k < b → k < 16
            go b (inl e) l = omega (arith, e, l)
            go b (inr e) l = omega (arith, e, l)

    pub appended_some : (high d n : ℕ) → last ≡ digit_glyph false d → front ≡ digits base false high → digits base false n ≡ digits base false high ++ digit_glyph false d ∷ [] → word ≡ digits base false n
    appended_some high d n glyph spells e = parts ∙ ((λ i. spells i ++ glyph i ∷ []) ∙ sym e)

    pub appended_is : (high d : ℕ) (o : Option ℕ) → length front ≢ 0 → d < base → last ≡ digit_glyph false d → front ≡ digits base false high
        → MatchOption o ((n : ℕ) → n < 2 ^ 64 → base ≤ n → digits base false (n / base) ≡ digits base false high → n % base ≢ d) (λ n. digits base false n ≡ digits base false high ++ digit_glyph false d ∷ [])
        → MatchOption o ((n : ℕ) → n < 2 ^ 64 → word ≢ digits base false n) (λ n. word ≡ digits base false n)
    appended_is high d None some low glyph spells e = appended_none high d some low glyph spells e
    appended_is high d (Some n) some low glyph spells e = appended_some high d n glyph spells e
