-- Laws of what the first line of a reply tells: a refusal, and whether it is one.
use Rattle.std.proofs.Common.{◌≡◌, ◌≢◌, ℕ, Bool, true, false, ◌&&◌, ◌==◌, List, [], ◌∷◌, ◌++◌, refl, sym, ap, subst, ◌∙◌}
use Rattle.std.proofs.lemmas.Bool.{and_from, both_ways}
use Rattle.vm_base.proofs.SearchLaws.{eqb_same}
use Rattle.std.specs.Prelude.{codes}
use Rattle.vm_base.specs.declared.refusal.Refusal.{Refusal}
use Rattle.vm_base.specs.declared.refusal.Refusal.TheVariants.{Syntax, BadHandle, NameInUse, BadState, AccessDenied, InvalidArgs, NotSupported, Unavailable, OutOfRange, BufferTooSmall, NotFound, AlreadyExists, NoResources, NoMemory, HostMemory}
use Rattle.vm_model.specs.Machine.Words.{Reply}
use Rattle.vm_model.specs.declared.reply.Reply.TheVariants.{Refused}
use Rattle.vm_model.specs.Language.Text.{refusal_name, reply_lines}
use Rattle.moving_model.specs.Following.{first_line}

-- two texts are the same, byte by byte
abbrev is_same : List ℕ → List ℕ → Bool
is_same [] [] = true
is_same (x ∷ xs) (y ∷ ys) = (x == y) && is_same xs ys
is_same [] (y ∷ ys) = false
is_same (x ∷ xs) [] = false

same_passes : (xs : List ℕ) → is_same xs xs ≡ true
same_passes [] = refl
same_passes (x ∷ xs) = and_from (x == x) (is_same xs xs) (eqb_same x) (same_passes xs)

texts_apart : (xs ys : List ℕ) → is_same xs ys ≡ false → xs ≢ ys
texts_apart xs ys off e = both_ways (is_same xs ys) off (subst (λ (zs : List ℕ). is_same xs zs ≡ true) e (same_passes xs))

-- two refusals with one name are one
name_same : (a b : Refusal) → refusal_name a ++ codes "\n" ≡ refusal_name b ++ codes "\n" → a ≡ b
name_same Syntax Syntax e = refl
name_same BadHandle BadHandle e = refl
name_same NameInUse NameInUse e = refl
name_same BadState BadState e = refl
name_same AccessDenied AccessDenied e = refl
name_same InvalidArgs InvalidArgs e = refl
name_same NotSupported NotSupported e = refl
name_same Unavailable Unavailable e = refl
name_same OutOfRange OutOfRange e = refl
name_same BufferTooSmall BufferTooSmall e = refl
name_same NotFound NotFound e = refl
name_same AlreadyExists AlreadyExists e = refl
name_same NoResources NoResources e = refl
name_same NoMemory NoMemory e = refl
name_same HostMemory HostMemory e = refl
name_same a b e = absurd (texts_apart (refusal_name a ++ codes "\n") (refusal_name b ++ codes "\n") refl e)

-- no refusal begins as what is done
name_apart : (a : Refusal) (rest : List ℕ) → refusal_name a ++ codes "\n" ≢ 79 ∷ 75 ∷ rest
name_apart Syntax rest e = texts_apart (refusal_name Syntax ++ codes "\n") (79 ∷ 75 ∷ rest) refl e
name_apart a rest e = texts_apart (refusal_name a ++ codes "\n") (79 ∷ 75 ∷ rest) refl e

refused_first : (a : Refusal) → first_line (Refused a) ≡ refusal_name a ++ codes "\n"
unfolding reply_lines
refused_first a = refl

-- A reply with the first line of a refusal is this refusal.
pub refused_text : (reply : Reply) (refusal : Refusal) → first_line reply ≡ first_line (Refused refusal) → reply ≡ Refused refusal
unfolding reply_lines
refused_text (Refused a) refusal e = ap (λ (x : Refusal). Refused x) (name_same a refusal (sym (refused_first a) ∙ (e ∙ refused_first refusal)))
refused_text reply refusal e = absurd (name_apart refusal _ (sym (e ∙ refused_first refusal)))
