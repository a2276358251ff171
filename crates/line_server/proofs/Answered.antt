-- A line that was fetched, and how far reading has come behind it.
use Rattle.std.proofs.Common.{◌≡◌, ℕ, ◌+◌, ◌<◌, ◌≤◌, ◌⊎◌, inl, inr, Bool, true, false, eqb, List, [], ◌∷◌, ◌++◌, length, Option, Some, Result, Ok, Err, sym, ap, subst, arith}
use Rattle.std.specs.Prelude.{OnOk, OnErr, IfNone}
use Rattle.std.specs.Io.KnownBytes.{Appends}
use Rattle.std.proofs.lemmas.List.{length-append}
use Rattle.std.proofs.lemmas.Bool.{eqb-false}
use Rattle.script_io.specs.Ending.{code_of}
use Rattle.script_io.specs.Faults.{IsCutOff}
use Rattle.script_io.specs.Reader.{Reader}
use Rattle.script_io.specs.Fetching.{IsPending, IsFirstLine, Fetches}
use Rattle.script_io.specs.declared.line_reader.Fetch.TheVariants.{Line, TooLong}
use Rattle.script_io.specs.declared.status.Status.{Status}
use Rattle.line_server.specs.Outcome.{SinkTakes}
use Rattle.line_server.specs.Serving.{IsReady, bytes_left, halt}
use Rattle.line_server.proofs.Served.{IsFetched}

-- a text that was pushed, whole or in part
pub written_or_cut : {T E : Type 0} (result : Result T E) (before after : Option (List ℕ)) (out : List ℕ) → OnOk result (Appends before after out) → OnErr result (IsCutOff before after out) → SinkTakes result before after out
written_or_cut (Ok x) before after out ok err = ok
written_or_cut (Err e) before after out ok err = err

-- a line that was lent
pub IsFetched-line : (old new : Reader) (source_old source_new : Option (List ℕ)) (pending line : List ℕ) → Fetches old new source_old source_new pending Line → line ≡ new.line
    → IsFetched old new source_old source_new pending line
IsFetched-line old new source_old source_new pending line f e = record {
  part = f.part;
  left = f.left;
  consumes = f.consumes;
  taken = f.taken;
  still = f.still;
  first = subst (λ (l : List ℕ). IsFirstLine new.ended (pending ++ f.part) l f.left) (sym e) f.fetched.0;
  within = f.fetched.2;
}

-- a line that is too long
pub IsFetched-long : (old new : Reader) (source_old source_new : Option (List ℕ)) (pending : List ℕ) → (f : Fetches old new source_old source_new pending TooLong)
    → IsFetched old new source_old source_new pending f.fetched.0
IsFetched-long old new source_old source_new pending f = record {
  part = f.part;
  left = f.left;
  consumes = f.consumes;
  taken = f.taken;
  still = f.still;
  first = f.fetched.1;
  within = f.fetched.4;
}

-- a first line is a byte at least
used_up : (ended : Bool) (bytes line left : List ℕ) → IsFirstLine ended bytes line left → length left + 1 ≤ length bytes
used_up ended bytes line left first = go first.parts where
  go : ((bytes ≡ line ++ 10 ∷ left) ⊎ ((bytes ≡ line) × (left ≡ []) × (0 < length line) × (ended ≡ true))) → length left + 1 ≤ length bytes
  go (inl e) = omega (arith, ap (λ (xs : List ℕ). length xs) e, length-append line (10 ∷ left))
  go (inr h) = omega (arith, ap (λ (xs : List ℕ). length xs) h.0, ap (λ (xs : List ℕ). length xs) h.1, h.2)

-- a reader's pending bytes are those that it dropped and those that it holds
pending_size : (reader : Reader) (remaining : Option (List ℕ)) (pending : List ℕ) → IsPending reader remaining pending → length pending ≡ reader.dropped + length reader.held
pending_size reader remaining pending p = omega (arith, ap (λ (xs : List ℕ). length xs) p.parts, length-append p.front reader.held, p.size)

module _ (old new : Reader) (source_old source_new : Option (List ℕ)) (line : List ℕ) (first : ℕ) (r : IsReady old source_old first) (f : IsFetched old new source_old source_new r.pending line)
    (same : new.limit ≡ old.limit) where
  -- what is counted is within the limit before a line
  pub few-before : (most : ℕ) → old.limit ≤ most → first ≤ most
  few-before most within = omega (arith, r.koids, f.taken, f.within, same, used_up new.ended (r.pending ++ f.part) line f.left f.first, length-append r.pending f.part)

  pub ready-after : {T E : Type 0} (result : Result T E) (next : ℕ) → OnOk result (next ≤ first + 1) → IfNone (halt result) (IsReady new source_new next)
  ready-after (Ok x) next koids = record {
    pending = f.left;
    still = f.still;
    koids = omega (arith, koids, r.koids, f.taken, used_up new.ended (r.pending ++ f.part) line f.left f.first, length-append r.pending f.part);
  }
  ready-after (Err e) next koids = tt

  pub falls-after : {T E : Type 0} (result : Result T E) → IfNone (halt result) (bytes_left new < bytes_left old)
  falls-after (Ok x) = omega (
    arith,
    f.taken,
    f.within,
    same,
    used_up new.ended (r.pending ++ f.part) line f.left f.first,
    length-append r.pending f.part,
    pending_size old source_old r.pending r.still,
    pending_size new source_new f.left f.still,
  )
  falls-after (Err e) = tt

-- what goes on holds
pub holds_of : {T E : Type 0} (P few : Type 0) (result : Result T E) → OnOk result (P × few) → OnOk result P
holds_of P few (Ok x) h = h.0
holds_of P few (Err e) h = tt

pub next_of : {T E : Type 0} (P few : Type 0) (result : Result T E) → OnOk result (P × few) → OnOk result few
next_of P few (Ok x) h = h.1
next_of P few (Err e) h = tt

-- what is counted at the end, over plain numbers
pub count_at_end : (count pending taken part now limit before : ℕ) → count + pending ≤ taken + 1 → now ≡ taken + part → now ≤ limit → limit ≡ before → count ≤ before + 1
count_at_end count pending taken part now limit before koids more within same = omega arith

pub halt-none : {T E : Type 0} (P : Type 0) (result : Result T E) → OnOk result P → IfNone (halt result) P
halt-none P (Ok x) p = p
halt-none P (Err e) p = tt

-- reading that ends behind a line ends with an error
pub halt-error : {T E P : Type 0} (result : Result T E) (status : Status) → halt result ≡ Some (Ok status) → P
halt-error (Ok x) status e = absurd cc
halt-error (Err x) status e = absurd cc

-- ends of other codes differ
pub other_end : {E P : Type 0} (s t : Status) → eqb (code_of s) (code_of t) ≡ false → ◌≡◌ {A = Option (Result Status E)} (Some (Ok s)) (Some (Ok t)) → P
other_end s t other e = absurd (eqb-false (code_of s) (code_of t) other (ap code_of (let same : s ≡ t = cc in same)))
