-- Text on its way to a sink, piece by piece.
use Rattle.std.proofs.Common.{◌≡◌, ℕ, ◌+◌, ◌≤◌, List, [], ◌++◌, length, take, Option, Some, Result, Ok, Err, refl, sym, ap, subst, ◌∙◌, append_assoc, append-nil, arith}
use Rattle.std.specs.Prelude.{slice_get, OnOk, OnErr}
use Rattle.std.specs.List.{concat}
use Rattle.std.specs.Io.KnownBytes.{Appends}
use Rattle.std.proofs.KnownBytes.{Appends-nil, Appends-trans}
use Rattle.std.proofs.lemmas.List.{take_all, length-append}
use Rattle.script_io.specs.Faults.{IsCutOff}
use Rattle.line_server.proofs.Writing.{concat_parts}
use Rattle.shared_vm.specs.inside.Pending.{PassesOn}

-- nothing was added, and nothing pushed
pub PassesOn-none : (sink : Option (List ℕ)) (pending : List ℕ) → PassesOn sink pending [] sink pending
PassesOn-none sink pending = record { part = []; taken = Appends-nil sink; whole = append-nil pending }

-- all that waited was pushed
pub PassesOn-flushed : (before after : Option (List ℕ)) (pending : List ℕ) → Appends before after pending → PassesOn before pending [] after []
PassesOn-flushed before after pending taken = record { part = pending; taken = taken; whole = refl }

-- bytes were added where they had room
pub PassesOn-added : (before after : Option (List ℕ)) (old mid new bytes : List ℕ) → PassesOn before old [] after mid → new ≡ mid ++ bytes → PassesOn before old bytes after new
PassesOn-added before after old mid new bytes p e = record {
  part = p.part;
  taken = p.taken;
  whole = ap (λ (xs : List ℕ). xs ++ bytes) (sym (append-nil old) ∙ p.whole) ∙ append_assoc p.part mid bytes ∙ ap (λ (xs : List ℕ). p.part ++ xs) (sym e);
}

module _ (first mid last : Option (List ℕ)) (old between new xs ys : List ℕ) (p : PassesOn first old xs mid between) where
  -- what waited and what was added, and what comes behind it
  behind : old ++ (xs ++ ys) ≡ p.part ++ (between ++ ys)
  behind = sym (append_assoc old xs ys) ∙ ap (λ (zs : List ℕ). zs ++ ys) p.whole ∙ append_assoc p.part between ys

  -- two additions in a row
  pub PassesOn-then : PassesOn mid between ys last new → PassesOn first old (xs ++ ys) last new
  PassesOn-then q = record {
    part = p.part ++ q.part;
    taken = Appends-trans first mid last p.part q.part p.taken q.taken;
    whole = behind ∙ ap (λ (zs : List ℕ). p.part ++ zs) q.whole ∙ sym (append_assoc p.part q.part new);
  }

  -- an addition, and one that was cut off
  pub IsCutOff-then : IsCutOff mid last (between ++ ys) → IsCutOff first last (old ++ (xs ++ ys))
  IsCutOff-then cut = record {
    part = p.part ++ cut.part;
    rest = cut.rest;
    whole = behind ∙ ap (λ (zs : List ℕ). p.part ++ zs) cut.whole ∙ sym (append_assoc p.part cut.part cut.rest);
    left = cut.left;
    taken = Appends-trans first mid last p.part cut.part p.taken cut.taken;
  }

-- what is cut off is cut off with more bytes behind it
pub IsCutOff-more : (before after : Option (List ℕ)) (bytes more whole : List ℕ) → whole ≡ bytes ++ more → IsCutOff before after bytes → IsCutOff before after whole
IsCutOff-more before after bytes more whole e cut = record {
  part = cut.part;
  rest = cut.rest ++ more;
  whole = e ∙ ap (λ (xs : List ℕ). xs ++ more) cut.whole ∙ append_assoc cut.part cut.rest more;
  left = omega (arith, cut.left, length-append cut.rest more);
  taken = cut.taken;
}

-- all that waited was pushed, and it was the end of the text
pub Appends-flushed : (first mid last : Option (List ℕ)) (pending text : List ℕ) → PassesOn first [] text mid pending → Appends mid last pending → Appends first last text
Appends-flushed first mid last pending text p taken =
    subst (Appends first last) (sym p.whole) (Appends-trans first mid last p.part pending p.taken taken)

pub IsCutOff-flushed : (first mid last : Option (List ℕ)) (pending text : List ℕ) → PassesOn first [] text mid pending → IsCutOff mid last pending → IsCutOff first last text
IsCutOff-flushed first mid last pending text p cut = record {
  part = p.part ++ cut.part;
  rest = cut.rest;
  whole = p.whole ∙ ap (λ (xs : List ℕ). p.part ++ xs) cut.whole ∙ sym (append_assoc p.part cut.part cut.rest);
  left = cut.left;
  taken = Appends-trans first mid last p.part cut.part p.taken cut.taken;
}

-- ---- the pieces of a text

module _ (pieces : List (List ℕ)) (i : ℕ) (piece : List ℕ) (at : slice_get pieces i ≡ Some piece) (first mid last : Option (List ℕ)) (old between : List ℕ)
    (p : PassesOn first old (concat (take i pieces)) mid between) where
  -- one piece more was added
  pub piece_passed : (new : List ℕ) → PassesOn mid between piece last new → PassesOn first old (concat (take (i + 1) pieces)) last new
  piece_passed new q =
      subst (λ (text : List ℕ). PassesOn first old text last new) (sym (concat_parts pieces i piece at).0)
      (PassesOn-then first mid last old between new (concat (take i pieces)) piece p q)

  -- a piece was cut off
  pub piece_lost : IsCutOff mid last (between ++ piece) → IsCutOff first last (old ++ concat pieces)
  piece_lost cut =
      let front = concat (take i pieces) in
      let parts = (concat_parts pieces i piece at).1 in
      IsCutOff-more first last (old ++ (front ++ piece)) parts.0 (old ++ concat pieces)
      (ap (λ (text : List ℕ). old ++ text) (parts.1 ∙ sym (append_assoc front piece parts.0)) ∙ sym (append_assoc old (front ++ piece) parts.0))
      (IsCutOff-then first mid last old between [] front piece p cut)

-- all pieces were added
pub pieces_passed : (pieces : List (List ℕ)) (i : ℕ) (first last : Option (List ℕ)) (old new : List ℕ) → length pieces ≤ i → PassesOn first old (concat (take i pieces)) last new → PassesOn first old (concat pieces) last new
pieces_passed pieces i first last old new all p = subst (λ (ps : List (List ℕ)). PassesOn first old (concat ps) last new) (take_all i pieces all) p

-- ---- what a call says that adds the last of a text

module _ {T E : Type 0} (result : Result T E) (first mid last : Option (List ℕ)) (old between new xs ys : List ℕ) (p : PassesOn first old xs mid between) where
  pub ok_then : OnOk result (PassesOn mid between ys last new) → OnOk result (PassesOn first old (xs ++ ys) last new)
  ok_then = elim result as (λ r. OnOk r (PassesOn mid between ys last new) → OnOk r (PassesOn first old (xs ++ ys) last new)) [
    | Ok x ↦ λ q. PassesOn-then first mid last old between new xs ys p q
    | Err e ↦ λ q. tt
  ]

  pub err_then : OnErr result (IsCutOff mid last (between ++ ys)) → OnErr result (IsCutOff first last (old ++ (xs ++ ys)))
  err_then = elim result as (λ r. OnErr r (IsCutOff mid last (between ++ ys)) → OnErr r (IsCutOff first last (old ++ (xs ++ ys)))) [
    | Ok x ↦ λ cut. tt
    | Err e ↦ λ cut. IsCutOff-then first mid last old between new xs ys p cut
  ]

module _ {T E : Type 0} (result : Result T E) (first mid last : Option (List ℕ)) (pending text : List ℕ) (p : PassesOn first [] text mid pending) where
  pub ok_flushed : OnOk result (Appends mid last pending) → OnOk result (Appends first last text)
  ok_flushed = elim result as (λ r. OnOk r (Appends mid last pending) → OnOk r (Appends first last text)) [
    | Ok x ↦ λ taken. Appends-flushed first mid last pending text p taken
    | Err e ↦ λ taken. tt
  ]

  pub err_flushed : OnErr result (IsCutOff mid last pending) → OnErr result (IsCutOff first last text)
  err_flushed = elim result as (λ r. OnErr r (IsCutOff mid last pending) → OnErr r (IsCutOff first last text)) [
    | Ok x ↦ λ cut. tt
    | Err e ↦ λ cut. IsCutOff-flushed first mid last pending text p cut
  ]

-- all that waited was pushed, to make room
pub flushed_all : {T E : Type 0} (result : Result T E) (before after : Option (List ℕ)) (pending new : List ℕ) → OnOk result (Appends before after pending) → OnOk result (new ≡ [])
    → OnOk result (PassesOn before pending [] after new)
flushed_all (Ok x) before after pending new taken e = subst (λ (ns : List ℕ). PassesOn before pending [] after ns) (sym e) (PassesOn-flushed before after pending taken)
flushed_all (Err x) before after pending new taken e = tt

pub flushed_room : {T E : Type 0} (result : Result T E) (new : List ℕ) (count most : ℕ) → count ≤ most → OnOk result (new ≡ []) → OnOk result (length new + count ≤ most)
flushed_room (Ok x) new count most less e = omega (arith, less, ap length e)
flushed_room (Err x) new count most less e = tt
