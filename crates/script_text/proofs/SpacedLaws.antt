-- Words behind spaces, and joined words.
use Rattle.std.proofs.Common.{◌≡◌, ℕ, Bool, true, false, List, [], ◌∷◌, ◌++◌, drop, Some, refl, sym, ap, ◌∙◌}
use Rattle.std.proofs.Common.{append-nil, append_assoc}
use Rattle.std.specs.Prelude.{slice_get}
use Rattle.std.specs.List.{join_with_byte}
use Rattle.vm_model.specs.Language.Spelling.{set_flags}
use Rattle.script_text.specs.inside.Spaced.{spaced}

-- joined words are the first one, and the others behind spaces
join-spaced : (w : List ℕ) (ws : List (List ℕ)) → join_with_byte 32 (w ∷ ws) ≡ w ++ spaced ws
join-spaced w [] = sym (append-nil w)
join-spaced w (v ∷ vs) = ap (λ (l : List ℕ). w ++ (32 ∷ l)) (join-spaced v vs)

-- the same, where the first word is looked up
pub join-first : (w : List ℕ) (ws : List (List ℕ)) → slice_get ws 0 ≡ Some w
    → join_with_byte 32 ws ≡ w ++ spaced (drop 1 ws)
join-first w [] e = cc e
join-first w (v ∷ vs) e =
    let same : v ≡ w = cc e in
    join-spaced v vs ∙ ap (λ (l : List ℕ). l ++ spaced vs) same

-- the first of several flags
spaced-set_flags : (w : List ℕ) (b : Bool) (flags : List (List ℕ × Bool))
    → spaced (set_flags ((w, b) ∷ flags)) ≡ spaced (set_flags ((w, b) ∷ [])) ++ spaced (set_flags flags)
spaced-set_flags w true flags = ap (λ (l : List ℕ). 32 ∷ (l ++ spaced (set_flags flags))) (sym (append-nil w))
spaced-set_flags w false flags = refl

-- what is written behind a flag stands behind it
pub after_flag : (before after : List ℕ) (w : List ℕ) (b d : Bool) (flags : List (List ℕ × Bool))
    → after ≡ before ++ spaced (set_flags ((w, b) ∷ [])) → b ≡ d
    → after ++ spaced (set_flags flags) ≡ before ++ spaced (set_flags ((w, d) ∷ flags))
after_flag before after w b d flags e same =
    ap (λ (l : List ℕ). l ++ spaced (set_flags flags)) e
    ∙ append_assoc before (spaced (set_flags ((w, b) ∷ []))) (spaced (set_flags flags))
    ∙ ap (λ (l : List ℕ). before ++ l) (sym (spaced-set_flags w b flags))
    ∙ ap (λ (x : Bool). before ++ spaced (set_flags ((w, x) ∷ flags))) same

-- the last flag
pub last_flag : (before after : List ℕ) (w : List ℕ) (b d : Bool) → after ≡ before ++ spaced (set_flags ((w, b) ∷ []))
    → b ≡ d → after ≡ before ++ spaced (set_flags ((w, d) ∷ []))
last_flag before after w b d e same = e ∙ ap (λ (x : Bool). before ++ spaced (set_flags ((w, x) ∷ []))) same
