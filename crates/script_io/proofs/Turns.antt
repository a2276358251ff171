-- The turns of a call that fetches a line: it answers, fails or goes on.
use Rattle.std.proofs.Common.{inr, ◌≡◌, ℕ, ◌+◌, ◌≤◌, ◌==◌, false, List, [], ◌++◌, length, Option, None, Some, refl, sym, ap, ◌∙◌, subst, arith, append_assoc, length-append}
use Rattle.std.proofs.lemmas.List.{get_or_append_left}
use Rattle.std.proofs.lemmas.Bool.{eqb-true, false≢true}
use Rattle.std.proofs.KnownBytes.{Consumes-kept, Consumes-trans}
use Rattle.std.specs.Io.KnownBytes.{Keeps}
use Rattle.script_io.specs.Reader.{HasNoFeed, Reader, Grows}
use Rattle.script_io.specs.Fetching.{Fetches, Looked, Waits}
use Rattle.script_io.specs.declared.line_reader.Fetch.{Fetch}
use Rattle.script_io.specs.declared.line_reader.Fetch.TheVariants.{Fault}

no_feed_front : (xs ys : List ℕ) → HasNoFeed (xs ++ ys) → HasNoFeed xs
no_feed_front xs ys none = λ k d below is. none k d (simp length-append (omega arith))
    (get_or_append_left xs ys d k below ∙ is)

-- a search answers
pub fetches_found : (answer : Fetch) (old mid new : Reader) (before after : Option (List ℕ)) (pending : List ℕ)
    (w : Waits old mid before after pending)
    → new.taken ≡ mid.taken → Looked new after (pending ++ w.part) (Some answer)
    → Fetches old new before after pending answer
fetches_found answer old mid new before after pending w taken looked = record {
  part = w.part;
  left = looked.0;
  consumes = w.consumes;
  drained = w.drained;
  taken = taken ∙ w.taken;
  still = looked.1;
  fetched = looked.2;
}

-- a pull fails
pub fetches_fault : (old mid seen new : Reader) (before between after : Option (List ℕ)) (pending : List ℕ)
    (w : Waits old mid before between pending)
    → seen.taken ≡ mid.taken → Looked seen between (pending ++ w.part) None → seen.ended ≡ false
    → seen.taken ≤ seen.limit
    → (new ≡ record seen { line = [] }) × Keeps between after → Fetches old new before after pending Fault
fetches_fault old mid seen new before between after pending w taken looked not_ended within failed = record {
  part = w.part;
  left = pending ++ w.part;
  consumes = Consumes-kept before between after w.part w.consumes failed.1;
  drained = w.drained;
  taken = ap (λ (r : Reader). r.taken) failed.0 ∙ taken ∙ w.taken;
  still = record {
    front = looked.0.front;
    no_feed = looked.0.no_feed;
    size = looked.0.size ∙ sym (ap (λ (r : Reader). r.dropped) failed.0);
    parts = looked.0.parts ∙ ap (λ (xs : List ℕ). looked.0.front ++ xs) (sym (ap (λ (r : Reader). r.held) failed.0));
    at_end = λ ended. absurd (false≢true (sym not_ended ∙ sym (ap (λ (r : Reader). r.ended) failed.0) ∙ ended));
  };
  fetched = (
    refl,
    looked.1,
    ap (λ (r : Reader). r.line) failed.0,
    subst (λ (r : Reader). r.taken ≤ r.limit) (sym failed.0) within,
  );
}

-- a pull gives bytes, or finds the end
pub waits_more : (old mid seen new : Reader) (before between after : Option (List ℕ)) (pending : List ℕ) (n : ℕ)
    (w : Waits old mid before between pending)
    → seen.taken ≡ mid.taken → Looked seen between (pending ++ w.part) None → Grows seen.held new.held between after n
    → new ≡ record seen { taken = seen.taken + n; held = new.held; line = []; ended = n == 0 }
    → Waits old new before after pending
waits_more old mid seen new before between after pending n w taken looked grows given =
    let count : length (w.part ++ grows.part) ≡ length w.part + n = length-append w.part grows.part
    ∙ ap (λ (k : ℕ). length w.part + k) grows.size in
    let now : new.taken ≡ seen.taken + n = ap (λ (r : Reader). r.taken) given in
    record {
      part = w.part ++ grows.part;
      consumes = Consumes-trans before between after w.part grows.part w.consumes grows.consumes;
      drained = inr (no_feed_front pending w.part looked.1);
      taken = omega (arith, count, now, taken, w.taken);
      still = record {
        front = looked.0.front;
        no_feed = looked.0.no_feed;
        size = looked.0.size ∙ sym (ap (λ (r : Reader). r.dropped) given);
        parts = sym (append_assoc pending w.part grows.part)
            ∙ ap (λ (xs : List ℕ). xs ++ grows.part) looked.0.parts
            ∙ append_assoc looked.0.front seen.held grows.part
            ∙ ap (λ (xs : List ℕ). looked.0.front ++ xs) (sym grows.behind);
        at_end = λ ended. grows.at_end (eqb-true n 0 (sym (ap (λ (r : Reader). r.ended) given) ∙ ended));
      };
    }
