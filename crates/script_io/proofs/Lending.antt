-- What clauses of sinks say of bytes that a sink was lent.
use Rattle.std.proofs.Common.{◌≡◌, ℕ, ◌+◌, ◌-◌, ◌≤◌, inl, inr, Bool, true, false, cond, T, List, [], ◌++◌, length, take, drop, get_or, refl, sym, ap, subst, ◌∙◌, append-nil, append_assoc, take_at, drop_at, length-drop, take-append-drop, arith}
use lib.Dec.{leb→le}
use lib.Seq.{drop-length}
use Rattle.std.proofs.lemmas.List.{length-append, length-take-le, drop-drop}
use Rattle.std.specs.Prelude.{nat_le}
use Rattle.script_io.specs.Faults.{HasFailed}
use Rattle.script_io.specs.Slices.{lent}
use Rattle.script_io.specs.declared.slice_sink.SliceSink.{SliceSink}
use Rattle.script_io.specs.Memory.{copied_at, Lent, lent_bytes, lent_contents, lent_faults}

-- ---- of a sink that had taken nothing, and took this text
module _ (old new : Lent) (text : List ℕ) (empty : old.taken ≡ []) (written : lent_contents new ≡ lent_contents old ++ text) where
  as_many : length new.before ≡ length old.before
  as_many = ap (λ (xs : List ℕ). get_or xs 1 0) written

  behind : new.before ++ new.taken ≡ old.before ++ text
  behind = ap (drop 2) written ∙ (ap (λ xs. (old.before ++ xs) ++ text) empty ∙ ap (λ xs. xs ++ text) (append-nil old.before))

  pub same_name : new.name ≡ old.name
  same_name = ap (λ (xs : List ℕ). get_or xs 0 0) written

  pub same_before : new.before ≡ old.before
  same_before = sym (take_at new.before new.taken (length old.before) as_many)
      ∙ (ap (take (length old.before)) behind ∙ take_at old.before text (length old.before) refl)

  pub is_taken : new.taken ≡ text
  is_taken = sym (drop_at new.before new.taken (length old.before) as_many)
      ∙ (ap (drop (length old.before)) behind ∙ drop_at old.before text (length old.before) refl)

-- ---- of a sink that is full

-- the bytes are what it took
pub lent_full : (s : Lent) → length s.taken ≡ length s.before → lent_bytes s ≡ s.taken
lent_full s many = ap (λ xs. s.taken ++ xs) (ap (λ n. drop n s.before) many ∙ drop-length s.before) ∙ append-nil s.taken

-- ---- the bytes of a sink, as it holds them
module _ (s : SliceSink) where
  pub lent_out : s.out.now ≡ lent_bytes (lent s)
  lent_out = sym (take-append-drop s.taken s.out.now)
      ∙ ap (λ xs. take s.taken s.out.now ++ xs) (s.behind ∙ ap (λ n. drop n s.before.bytes) (sym (length-take-le s.taken s.out.now s.fits)))

  pub lent_bound : length (lent s).taken ≤ length (lent s).before
  lent_bound = omega (arith, length-take-le s.taken s.out.now s.fits, s.fits, s.as_many)

-- ---- failing
full_if : (room taken faults : ℕ) (was full : Bool) → nat_le room taken ≡ full → HasFailed (cond was 0 0) (cond full faults 0) → room ≤ taken
full_if room taken faults was true is failed = leb→le room taken (subst T (sym is) tt)
full_if room taken faults true false is failed = elim failed [ inl less ↦ absurd (omega (arith, less)) | inr most ↦ absurd (omega (arith, most)) ]
full_if room taken faults false false is failed = elim failed [ inl less ↦ absurd (omega (arith, less)) | inr most ↦ absurd (omega (arith, most)) ]

-- a sink that has failed since it was made is full
pub is_full : (old new : Lent) → old.faults ≡ 0 → HasFailed (lent_faults old) (lent_faults new) → length new.before ≤ length new.taken
is_full old new none failed =
    full_if (length new.before) (length new.taken) new.faults (nat_le (length old.before) (length old.taken)) (nat_le (length new.before) (length new.taken)) refl
    (subst (λ n. HasFailed (cond (nat_le (length old.before) (length old.taken)) n 0) (lent_faults new)) none failed)

-- ---- of bytes that were copied to a place

-- what stands behind a later place is as it was too
pub behind_more : (out before : List ℕ) (at n : ℕ) → drop at out ≡ drop at before → drop (at + n) out ≡ drop (at + n) before
behind_more out before at n same = sym (drop-drop n at out) ∙ (ap (drop n) same ∙ drop-drop n at before)

-- they stand where there is room, and what stands behind them is as it was
pub copied_fits : (out before part bytes : List ℕ) (at n : ℕ) → bytes ≡ copied_at out at part → length part ≡ n → at + n ≤ length out
    → length out ≡ length before → drop at out ≡ drop at before
    → (at + n ≤ length bytes) × (length bytes ≡ length before) × (drop (at + n) bytes ≡ drop (at + n) before)
copied_fits out before part bytes at n is many fits as_many same =
    let within : at ≤ length out = omega (arith, fits) in
    let begin : length (take at out) ≡ at = length-take-le at out within in
    let joined : length (take at out ++ part) ≡ length (take at out) + length part = length-append (take at out) part in
    let front : length (take at out ++ part) ≡ at + n = omega (arith, begin, joined, many) in
    let behind = drop (at + length part) out in
    let same_place : drop (at + length part) out ≡ drop (at + n) out = ap (λ (k : ℕ). drop (at + k) out) many in
    let grouped : bytes ≡ (take at out ++ part) ++ behind = is ∙ sym (append_assoc (take at out) part behind) in
    let added : length ((take at out ++ part) ++ behind) ≡ length (take at out ++ part) + length behind = length-append (take at out ++ part) behind in
    let left : length behind ≡ length out - (at + length part) = length-drop (at + length part) out in
    let whole : length bytes ≡ length out = omega (arith, ap length grouped, added, left, front, many, fits) in (
      omega (arith, whole, fits),
      whole ∙ as_many,
      ap (drop (at + n)) grouped ∙ (drop_at (take at out ++ part) behind (at + n) front ∙ (same_place ∙ behind_more out before at n same)),
    )
