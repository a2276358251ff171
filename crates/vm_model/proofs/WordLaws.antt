-- The words of words that are joined by spaces.
use Rattle.std.proofs.Common.{◌≡◌, ℕ, ◌+◌, ◌≤◌, Bool, true, false, not, List, [], ◌∷◌, ◌++◌, length, refl, sym, ap, ◌∙◌, arith, append-nil, length-append}
use Rattle.std.specs.List.{join_with_byte, list_all}
use Rattle.std.proofs.lemmas.Bool.{and_parts, not-true}
use Rattle.vm_model.specs.Language.Reading.{words, is_blank, begins_blank, before_first}

-- the bytes hold no blank
abbrev pub is_solid : List ℕ → Bool
is_solid bs = list_all (λ b. not (is_blank b)) bs

-- the bytes are one word
abbrev pub is_one_word : List ℕ → Bool
is_one_word [] = false
is_one_word (b ∷ bs) = is_solid (b ∷ bs)

-- each is one word
abbrev pub are_words : List (List ℕ) → Bool
are_words ws = list_all is_one_word ws

words-alone : (b : ℕ) (bs : List ℕ) → is_blank b ≡ false → begins_blank bs ≡ true → words (b ∷ bs) ≡ (b ∷ []) ∷ words bs
unfolding words
words-alone b bs e f = rw (e, f)

words-longer : (b : ℕ) (bs : List ℕ) → is_blank b ≡ false → begins_blank bs ≡ false → words (b ∷ bs) ≡ before_first b (words bs)
unfolding words
words-longer b bs e f = rw (e, f)

-- a word that ends where blanks begin, or the line ends
words-front : (b : ℕ) (bs rest : List ℕ) → is_solid (b ∷ bs) ≡ true → begins_blank rest ≡ true → words ((b ∷ bs) ++ rest) ≡ (b ∷ bs) ∷ words rest
words-front b [] rest s e =
    let solid = not-true (is_blank b) (and_parts (not (is_blank b)) true s).0 in
    words-alone b rest solid e
words-front b (c ∷ cs) rest s e =
    let parts = and_parts (not (is_blank b)) (is_solid (c ∷ cs)) s in
    let solid = not-true (is_blank b) parts.0 in
    let next = not-true (is_blank c) (and_parts (not (is_blank c)) (is_solid cs) parts.1).0 in
    words-longer b ((c ∷ cs) ++ rest) solid next ∙ ap (before_first b) (words-front c cs rest parts.1 e)

-- a word before a space
pub words-space : (w rest : List ℕ) → is_one_word w ≡ true → words (w ++ (32 ∷ rest)) ≡ w ∷ words rest
unfolding words
words-space [] rest s = cc s
words-space (b ∷ bs) rest s = words-front b bs (32 ∷ rest) s refl

-- a word alone
pub words-one : (w : List ℕ) → is_one_word w ≡ true → words w ≡ w ∷ []
unfolding words
words-one [] s = cc s
words-one (b ∷ bs) s = ap (λ (l : List ℕ). words (b ∷ l)) (sym (append-nil bs)) ∙ words-front b bs [] s refl

-- the words of joined words are these words
pub words-join : (ws : List (List ℕ)) → are_words ws ≡ true → words (join_with_byte 32 ws) ≡ ws
unfolding words
words-join [] s = refl
words-join (w ∷ []) s = words-one w (and_parts (is_one_word w) true s).0
words-join (w ∷ v ∷ vs) s =
    let parts = and_parts (is_one_word w) (are_words (v ∷ vs)) s in
    words-space w (join_with_byte 32 (v ∷ vs)) parts.0 ∙ ap (λ (l : List (List ℕ)). w ∷ l) (words-join (v ∷ vs) parts.1)

-- the bytes of words that each have a space before them
abbrev pub spaced_length : List (List ℕ) → ℕ
spaced_length [] = 0
spaced_length (w ∷ ws) = 1 + length w + spaced_length ws

-- joined words are shorter
pub length-join : (ws : List (List ℕ)) → length (join_with_byte 32 ws) ≤ spaced_length ws
length-join [] = omega arith
length-join (w ∷ []) = omega arith
length-join (w ∷ v ∷ vs) =
    let more = length-join (v ∷ vs) in
    rw length-append (omega (arith, more))
