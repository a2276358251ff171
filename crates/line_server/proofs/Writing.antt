-- What a sink took of the text of a reply.
use Rattle.std.proofs.Common.{◌≡◌, ℕ, zero, suc, ◌+◌, ◌<◌, ◌≤◌, List, [], ◌∷◌, ◌++◌, length, take, Option, Some, sym, ap, subst, ◌∙◌, append_assoc, append-nil, arith}
use Rattle.std.specs.Prelude.{slice_get}
use Rattle.std.specs.List.{concat}
use Rattle.std.specs.Io.KnownBytes.{Appends}
use Rattle.std.proofs.KnownBytes.{Appends-trans}
use Rattle.std.proofs.lemmas.List.{length-append, take_all}
use Rattle.script_io.specs.Faults.{IsCutOff}
use Rattle.vm_model.specs.Machine.Words.{Reply}
use Rattle.vm_model.specs.declared.reply.Reply.TheVariants.{Done, Number, Bytes, Pins, Address, Access, Faults, Info}
use Rattle.vm_model.specs.declared.reply.Reply.TheVariants.{Runs, Stat, Refused}
use Rattle.vm_model.specs.Language.Text.{reply_lines, text}

-- the pieces up to one, the piece, and those behind it
pub concat_parts : (xs : List (List ℕ)) (i : ℕ) (x : List ℕ) → slice_get xs i ≡ Some x → (concat (take (i + 1) xs) ≡ concat (take i xs) ++ x) × ((rest : List ℕ) × (concat xs ≡ concat (take i xs) ++ (x ++ rest)))
concat_parts [] i x e = absurd cc
concat_parts (y ∷ xs) zero x e =
    let same : y ≡ x = cc in
    (append-nil y ∙ same, (concat xs, ap (λ (z : List ℕ). z ++ concat xs) same))
concat_parts (y ∷ xs) (suc i) x e =
    let more : suc i + 1 ≡ suc (i + 1) = omega arith in
    let found = concat_parts xs i x e in (
      ap (λ (m : ℕ). concat (take m (y ∷ xs))) more ∙ (ap (λ (z : List ℕ). y ++ z) found.0 ∙ sym (append_assoc y (concat (take i xs)) x)),
      (found.1.0, ap (λ (z : List ℕ). y ++ z) found.1.1 ∙ sym (append_assoc y (concat (take i xs)) (x ++ found.1.0))),
    )

-- one piece more was written
pub piece_written : (pieces : List (List ℕ)) (i : ℕ) (piece : List ℕ) (before mid after : Option (List ℕ)) → slice_get pieces i ≡ Some piece
    → Appends before mid (concat (take i pieces)) → Appends mid after piece → Appends before after (concat (take (i + 1) pieces))
piece_written pieces i piece before mid after e first second =
    subst (Appends before after) (sym (concat_parts pieces i piece e).0) (Appends-trans before mid after (concat (take i pieces)) piece first second)

-- a piece was cut off
pub piece_cut : (pieces : List (List ℕ)) (i : ℕ) (piece : List ℕ) (before mid after : Option (List ℕ)) → slice_get pieces i ≡ Some piece
    → Appends before mid (concat (take i pieces)) → IsCutOff mid after piece → IsCutOff before after (concat pieces)
piece_cut pieces i piece before mid after e first cut =
    let front = concat (take i pieces) in
    let parts = (concat_parts pieces i piece e).1 in
    record {
      part = front ++ cut.part;
      rest = cut.rest ++ parts.0;
      whole = parts.1 ∙ (ap (λ (xs : List ℕ). front ++ (xs ++ parts.0)) cut.whole ∙ (ap (λ (xs : List ℕ). front ++ xs) (append_assoc cut.part cut.rest parts.0) ∙ sym (append_assoc front cut.part (cut.rest ++ parts.0))));
      left = omega (arith, cut.left, length-append cut.rest parts.0);
      taken = Appends-trans before mid after front cut.part first cut.taken;
    }

-- each reply has a line
pub some_line : (reply : Reply) → 0 < length (reply_lines reply)
unfolding reply_lines
some_line Done = omega arith
some_line (Number n) = omega arith
some_line (Bytes b) = omega arith
some_line (Pins n) = omega arith
some_line (Address n) = omega arith
some_line (Access f b) = omega arith
some_line (Faults n) = omega arith
some_line (Info i) = omega arith
some_line (Runs r) = omega arith
some_line (Stat s) = omega arith
some_line (Refused r) = omega arith

-- one line more was written
pub line_written : (reply : Reply) (i : ℕ) (line : List ℕ) (before mid after : Option (List ℕ)) → slice_get (reply_lines reply) i ≡ Some line → Appends before mid (concat (take i (reply_lines reply))) → Appends mid after line → Appends before after (concat (take (i + 1) (reply_lines reply)))
line_written reply = piece_written (reply_lines reply)

-- all lines were written
pub reply_written : (reply : Reply) (i : ℕ) (before after : Option (List ℕ)) → length (reply_lines reply) ≤ i → Appends before after (concat (take i (reply_lines reply))) → Appends before after (text reply)
unfolding text
reply_written reply i before after all written = subst (λ (ls : List (List ℕ)). Appends before after (concat ls)) (take_all i (reply_lines reply) all) written

-- a line was cut off
pub reply_cut : (reply : Reply) (i : ℕ) (line : List ℕ) (before mid after : Option (List ℕ)) → slice_get (reply_lines reply) i ≡ Some line → Appends before mid (concat (take i (reply_lines reply))) → IsCutOff mid after line → IsCutOff before after (text reply)
unfolding text
reply_cut reply = piece_cut (reply_lines reply)
