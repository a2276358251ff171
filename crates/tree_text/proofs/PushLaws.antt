-- Laws of a text that is pushed piece by piece.
use Rattle.std.proofs.Common.{◌≡◌, ℕ, List, [], ◌++◌, Option, Result, Ok, Err, refl, sym, ap, ◌∙◌, subst, arith, append_assoc, append-nil}
use Rattle.std.specs.Io.KnownBytes.{Appends}
use Rattle.std.proofs.KnownBytes.{Appends-nil, Appends-trans}
use Rattle.std.proofs.lemmas.List.{length-append}
use Rattle.script_io.specs.Faults.{IsCutOff}
use Rattle.line_server.specs.Outcome.{SinkTakes}
use Rattle.tree_text.specs.inside.Pushing.{IsPushed}

pub pushed-none : (sink : Option (List ℕ)) (text left : List ℕ) → text ≡ left → IsPushed sink sink text left
pushed-none sink text left same = record { part = []; parts = same; taken = Appends-nil sink }

module _ (a b c : Option (List ℕ)) (text left piece rest : List ℕ) (p : IsPushed a b text left) (e : left ≡ piece ++ rest) where
  -- one piece more
  pub pushed-more : Appends b c piece → IsPushed a c text rest
  pushed-more taken = record {
    part = p.part ++ piece;
    parts = p.parts ∙ (ap (λ xs. p.part ++ xs) e ∙ sym (append_assoc p.part piece rest));
    taken = Appends-trans a b c p.part piece p.taken taken;
  }

  -- a piece was cut off
  pub pushed-cut : IsCutOff b c piece → IsCutOff a c text
  pushed-cut cut = record {
    part = p.part ++ cut.part;
    rest = cut.rest ++ rest;
    whole = p.parts ∙ (ap (λ xs. p.part ++ xs) (e ∙ (ap (λ xs. xs ++ rest) cut.whole ∙ append_assoc cut.part cut.rest rest))
        ∙ sym (append_assoc p.part cut.part (cut.rest ++ rest)));
    left = omega (arith, cut.left, length-append cut.rest rest);
    taken = Appends-trans a b c p.part cut.part p.taken cut.taken;
  }

-- nothing is left
pub pushed-all : (a b : Option (List ℕ)) (text left : List ℕ) → IsPushed a b text left → left ≡ [] → Appends a b text
pushed-all a b text left p e = subst (Appends a b) (sym (p.parts ∙ (ap (λ xs. p.part ++ xs) e ∙ append-nil p.part))) p.taken

-- the last piece
pub pushed-last : {T E : Type 0} (a b c : Option (List ℕ)) (text left : List ℕ) (result : Result T E) → IsPushed a b text left →
    SinkTakes result b c left → SinkTakes result a c text
pushed-last a b c text left (Ok x) p taken =
    pushed-all a c text [] (pushed-more a b c text left left [] p (sym (append-nil left)) taken) refl
pushed-last a b c text left (Err e) p cut = pushed-cut a b c text left left [] p (sym (append-nil left)) cut
