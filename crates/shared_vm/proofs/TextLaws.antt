-- The text of a journal, line by line.
use Rattle.std.proofs.Common.{◌≡◌, ℕ, zero, suc, ◌<◌, ◌≤◌, List, [], ◌∷◌, ◌++◌, length, take, map, Option, Some, refl, sym, ap, subst, ◌∙◌, arith}
use Rattle.std.specs.Prelude.{slice_get, option_map}
use Rattle.std.specs.List.{concat}
use Rattle.std.proofs.lemmas.Option.{slice_get-map}
use Rattle.std.proofs.lemmas.List.{length-map}
use Rattle.script_io.specs.Faults.{IsCutOff}
use Rattle.vm_model.specs.Language.Text.{reply_lines}
use Rattle.shared_vm.specs.declared.task.Deed.{Deed}
use Rattle.shared_vm.specs.Texts.{actor_text, deed_lines, deed_text, journal_text}
use Rattle.shared_vm.specs.inside.Pending.{PassesOn}
use Rattle.shared_vm.proofs.PendingLaws.{pieces_passed}

-- a line of a deed
pub deed_line : (deed : Deed) (index : ℕ) (line text : List ℕ) → slice_get (reply_lines deed.reply) index ≡ Some line → text ≡ actor_text deed.actor ++ line
    → slice_get (deed_lines deed) index ≡ Some text
deed_line deed index line text at is =
    slice_get-map (λ (l : List ℕ). actor_text deed.actor ++ l) (reply_lines deed.reply) index
    ∙ (ap (option_map (λ (l : List ℕ). actor_text deed.actor ++ l)) at ∙ ap (λ (l : List ℕ). Some l) (sym is))

-- the text of deeds is that of their pieces
pub journal_pieces : (deeds : List Deed) → concat (map deed_text deeds) ≡ journal_text deeds
journal_pieces [] = refl
journal_pieces (d ∷ ds) = ap (λ (xs : List ℕ). deed_text d ++ xs) (journal_pieces ds)

-- a deed has as many lines as its reply
pub deed_line-count : (deed : Deed) → length (deed_lines deed) ≡ length (reply_lines deed.reply)
deed_line-count deed = length-map (reply_lines deed.reply) (λ (l : List ℕ). actor_text deed.actor ++ l)

-- the piece of a deed
pub deed_piece : (deeds : List Deed) (i : ℕ) (deed : Deed) → slice_get deeds i ≡ Some deed → slice_get (map deed_text deeds) i ≡ Some (deed_text deed)
deed_piece deeds i deed e = slice_get-map deed_text deeds i ∙ ap (option_map deed_text) e

-- all deeds were added
pub deeds_passed : (deeds : List Deed) (i : ℕ) (first last : Option (List ℕ)) (old new : List ℕ) → length deeds ≤ i
    → PassesOn first old (concat (take i (map deed_text deeds))) last new → PassesOn first old (journal_text deeds) last new
deeds_passed deeds i first last old new all p =
    subst (λ (text : List ℕ). PassesOn first old text last new) (journal_pieces deeds)
    (pieces_passed (map deed_text deeds) i first last old new (omega (arith, all, length-map deeds deed_text)) p)

-- a deed was cut off
pub deeds_cut : (deeds : List Deed) (before after : Option (List ℕ)) → IsCutOff before after (concat (map deed_text deeds)) → IsCutOff before after (journal_text deeds)
deeds_cut deeds before after cut = subst (IsCutOff before after) (journal_pieces deeds) cut

-- there is a deed at each place
pub deed_there : (deeds : List Deed) (i : ℕ) → i < length deeds → (deed : Deed) × (slice_get deeds i ≡ Some deed)
deed_there [] i less = absurd (omega (arith, less))
deed_there (d ∷ ds) zero less = (d, refl)
deed_there (d ∷ ds) (suc i) less = deed_there ds i (omega (arith, less))
