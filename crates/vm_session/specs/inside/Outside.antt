-- Lines outside the grammar, as the plain machine answers them.
use Rattle.std.specs.Prelude.{◌≡◌, ℕ, ◌<◌, cond, List, [], ◌∷◌, length, refl}
use Rattle.std.proofs.Common.{sym, ap, subst}
use Rattle.std.proofs.lemmas.Bool.Decides.{Decides-ltb}
use Rattle.vm_base.specs.declared.limits.TheConstants.{LINE_BYTES}
use Rattle.vm_base.specs.declared.refusal.Refusal.TheVariants.{Syntax}
use Rattle.vm_model.specs.declared.reply.Reply.TheVariants.{Refused}
use Rattle.vm_model.specs.Machine.Machine.{Machine}
use Rattle.vm_model.specs.Language.Reading.{Reading, Outside, reading, reading_of_words, words}
use Rattle.vm_model.specs.Language.Text.{reply_lines, text, texts}
use Rattle.vm_model.specs.Scripts.Run.{GivesAs}
use Rattle.line_server.specs.Answering.{syntax_text}
use Rattle.vm_session.specs.Plain.{GivesText}

-- the refusal of a line outside the grammar
pub text-syntax : syntax_text ≡ texts (Refused Syntax ∷ [])
unfolding text reply_lines
text-syntax = refl

-- a line outside the grammar
pub GivesText-outside : (line : List ℕ) (s : Machine) → Outside ≡ reading line → GivesText line s syntax_text s
GivesText-outside line s e = record {
  replies = Refused Syntax ∷ [];
  gives = record { answer = subst (λ (r : Reading). GivesAs r s (Refused Syntax ∷ []) s) e (refl, refl) };
  text = text-syntax;
}

-- a line over the limit is outside the grammar
pub GivesText-long : (s : Machine) (line : List ℕ) → LINE_BYTES < length line → GivesText line s syntax_text s
unfolding reading
GivesText-long s line long =
    GivesText-outside line s (sym (ap (λ t. cond t Outside (reading_of_words (words line))) ((Decides-ltb LINE_BYTES (length line)).1 long)))
