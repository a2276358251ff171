-- A journal that takes little memory, and one deed more.
use Rattle.std.proofs.Common.{◌≡◌, ℕ, ◌+◌, ◌-◌, ◌≤◌, List, [], ◌∷◌, ◌++◌, length, refl, sym, ap, subst, ◌∙◌, append-nil, arith}
use Rattle.std.specs.List.{All}
use Rattle.std.proofs.lemmas.List.{length-append, map_push}
use Rattle.std.proofs.lemmas.List.Elements.{All-head, All-tail, All-push, All-weaker}
use Rattle.vm_base.specs.declared.limits.TheConstants.{DATA_BYTES, PIN_PAGES}
use Rattle.vm_model.specs.Machine.Words.{Reply}
use Rattle.vm_model.specs.declared.reply.Reply.TheVariants as Reply
use Rattle.shared_vm.specs.declared.task.Deed.{Deed}
use Rattle.shared_vm.specs.Journal.{data_bytes, data_numbers}
use Rattle.shared_vm.specs.declared.place.Place.{Place}
use Rattle.shared_vm.specs.declared.notes.Kept.{Kept}
use Rattle.shared_vm.specs.declared.notes.Note.{Note}
use Rattle.shared_vm.specs.inside.Places.{items_at, LiesWithin}
use Rattle.shared_vm.specs.inside.Noting.{reply_at, deed_of, deed_at, deeds_at, IsDataPlace, IsKept, IsNoteKept, IsJournal, Keeps}
use Rattle.shared_vm.proofs.PlaceLaws.{part-more, LiesWithin-more, part-added, LiesWithin-added}

module _ (bytes numbers bytes_more numbers_more : List ℕ) where
  -- what was kept stays, whatever is added behind its data
  reply-more : (kept : Kept) → IsKept (length bytes) (length numbers) kept → reply_at (bytes ++ bytes_more) (numbers ++ numbers_more) kept ≡ reply_at bytes numbers kept
  reply-more (Kept.Plain answer) is = refl
  reply-more (Kept.Bytes place) is = ap (λ (bs : List ℕ). Reply.Bytes bs) (part-more bytes bytes_more place is.within)
  reply-more (Kept.Access faults place) is = ap (λ (bs : List ℕ). Reply.Access faults bs) (part-more bytes bytes_more place is.within)
  reply-more (Kept.Pins place) is = ap (λ (ns : List ℕ). Reply.Pins ns) (part-more numbers numbers_more place is.within)

  kept-more : (kept : Kept) → IsKept (length bytes) (length numbers) kept → IsKept (length (bytes ++ bytes_more)) (length (numbers ++ numbers_more)) kept
  kept-more (Kept.Plain answer) is = tt
  kept-more (Kept.Bytes place) is = record { within = LiesWithin-more bytes bytes_more place is.within; few = is.few }
  kept-more (Kept.Access faults place) is = record { within = LiesWithin-more bytes bytes_more place is.within; few = is.few }
  kept-more (Kept.Pins place) is = record { within = LiesWithin-more numbers numbers_more place is.within; few = is.few }

  deeds-more : (notes : List Note) → All (IsNoteKept (length bytes) (length numbers)) notes → deeds_at (bytes ++ bytes_more) (numbers ++ numbers_more) notes ≡ deeds_at bytes numbers notes
  deeds-more [] all = refl
  deeds-more (note ∷ notes) all =
      let first : deed_at (bytes ++ bytes_more) (numbers ++ numbers_more) note ≡ deed_at bytes numbers note
      = ap (deed_of note.actor) (reply-more note.kept (All-head (IsNoteKept (length bytes) (length numbers)) note notes all)) in
      ap (λ (d : Deed). d ∷ deeds_at (bytes ++ bytes_more) (numbers ++ numbers_more) notes) first
      ∙ ap (λ (ds : List Deed). deed_at bytes numbers note ∷ ds) (deeds-more notes (All-tail (IsNoteKept (length bytes) (length numbers)) note notes all))

  all-more : (notes : List Note) → All (IsNoteKept (length bytes) (length numbers)) notes → All (IsNoteKept (length (bytes ++ bytes_more)) (length (numbers ++ numbers_more))) notes
  all-more notes all =
      All-weaker (IsNoteKept (length bytes) (length numbers)) (IsNoteKept (length (bytes ++ bytes_more)) (length (numbers ++ numbers_more)))
      (λ note is. kept-more note.kept is) notes all

-- one deed more
module _ (reply : Reply) (bytes_old numbers_old bytes_new numbers_new : List ℕ) (kept : Kept) (keeps : Keeps reply bytes_old numbers_old kept bytes_new numbers_new)
    (notes after : List Note) (actor : ℕ) (is_after : after ≡ notes ++ record { actor = actor; kept = kept } ∷ []) (old : IsJournal bytes_old numbers_old notes) where
  abbrev note : Note
  note = record { actor = actor; kept = kept }

  abbrev bytes : List ℕ
  bytes = bytes_old ++ keeps.bytes_more

  abbrev numbers : List ℕ
  numbers = numbers_old ++ keeps.numbers_more

  is_kept : IsKept (length bytes) (length numbers) kept
  is_kept = subst (λ (bs : List ℕ). IsKept (length bs) (length numbers) kept) keeps.bytes
      (subst (λ (ns : List ℕ). IsKept (length bytes_new) (length ns) kept) keeps.numbers keeps.is_kept)

  reply_is : reply_at bytes numbers kept ≡ reply
  reply_is = subst (λ (bs : List ℕ). reply_at bs numbers kept ≡ reply) keeps.bytes
      (subst (λ (ns : List ℕ). reply_at bytes_new ns kept ≡ reply) keeps.numbers keeps.reply_is)

  pub deeds_added : deeds_at bytes_new numbers_new after ≡ deeds_at bytes_old numbers_old notes ++ deed_of actor reply ∷ []
  deeds_added =
      ap (λ (bs : List ℕ). deeds_at bs numbers_new after) keeps.bytes
      ∙ ap (λ (ns : List ℕ). deeds_at bytes ns after) keeps.numbers
      ∙ ap (λ (all : List Note). deeds_at bytes numbers all) is_after
      ∙ map_push (deed_at bytes numbers) notes note
      ∙ ap (λ (r : Reply). deeds_at bytes numbers notes ++ deed_of actor r ∷ []) reply_is
      ∙ ap (λ (ds : List Deed). ds ++ deed_of actor reply ∷ []) (deeds-more bytes_old numbers_old keeps.bytes_more keeps.numbers_more notes old)

  pub IsJournal-added : IsJournal bytes_new numbers_new after
  IsJournal-added =
      subst (λ (bs : List ℕ). All (IsNoteKept (length bs) (length numbers_new)) after) (sym keeps.bytes)
      (subst (λ (ns : List ℕ). All (IsNoteKept (length bytes) (length ns)) after) (sym keeps.numbers)
      (subst (λ (all : List Note). All (IsNoteKept (length bytes) (length numbers)) all) (sym is_after)
      (All-push (IsNoteKept (length bytes) (length numbers)) notes note (all-more bytes_old numbers_old keeps.bytes_more keeps.numbers_more notes old) is_kept)))

  -- the data takes no more room than the reply has
  pub bytes_left : (room_old room_new len_old len_new : ℕ) → len_old ≡ length bytes_old → len_new ≡ length bytes_new → room_old ≤ room_new
      → room_old - len_old ≤ room_new - len_new + data_bytes reply
  bytes_left room_old room_new len_old len_new e f more =
      omega (arith, e, f, more, keeps.bytes_few, ap (length {A = ℕ}) keeps.bytes, length-append bytes_old keeps.bytes_more)

  pub numbers_left : (room_old room_new len_old len_new : ℕ) → len_old ≡ length numbers_old → len_new ≡ length numbers_new → room_old ≤ room_new
      → room_old - len_old ≤ room_new - len_new + data_numbers reply
  numbers_left room_old room_new len_old len_new e f more =
      omega (arith, e, f, more, keeps.numbers_few, ap (length {A = ℕ}) keeps.numbers, length-append numbers_old keeps.numbers_more)

-- ---- what is kept of one answer

-- an answer without data
pub Keeps-plain : (answer kept : Reply) (bytes numbers : List ℕ) → answer ≡ kept → Keeps answer bytes numbers (Kept.Plain kept) bytes numbers
Keeps-plain answer kept bytes numbers is = record {
  bytes_more = [];
  numbers_more = [];
  bytes = sym (append-nil bytes);
  numbers = sym (append-nil numbers);
  bytes_few = omega arith;
  numbers_few = omega arith;
  reply_is = sym is;
  is_kept = tt;
}

-- an answer whose data was added behind the other data
module _ (old new lent added : List ℕ) (most : ℕ) (place : Place) (same : lent ≡ added) (few : length lent ≤ most) (grown : new ≡ old ++ lent)
    (start : place.start ≡ length old) (end : place.end ≡ length new) where
  is_grown : new ≡ old ++ added
  is_grown = grown ∙ ap (λ (xs : List ℕ). old ++ xs) same

  is_few : length added ≤ most
  is_few = subst (λ (xs : List ℕ). length xs ≤ most) same few

  at_end : place.end ≡ length (old ++ added)
  at_end = end ∙ ap (length {A = ℕ}) is_grown

  is_part : items_at new place ≡ added
  is_part = ap (λ (xs : List ℕ). items_at xs place) is_grown ∙ part-added old added place start at_end

  is_place : IsDataPlace (length new) most place
  is_place = record {
    within = subst (λ (xs : List ℕ). LiesWithin (length xs) place) (sym is_grown) (LiesWithin-added old added place start at_end);
    few = omega (arith, is_few, start, at_end, length-append old added);
  }

module _ (answer : Reply) (bytes bytes_new numbers lent added : List ℕ) (place : Place) (same : lent ≡ added) (few : length lent ≤ DATA_BYTES)
    (grown : bytes_new ≡ bytes ++ lent) (start : place.start ≡ length bytes) (end : place.end ≡ length bytes_new) where
  pub Keeps-bytes : answer ≡ Reply.Bytes added → Keeps answer bytes numbers (Kept.Bytes place) bytes_new numbers
  Keeps-bytes is = record {
    bytes_more = added;
    numbers_more = [];
    bytes = is_grown bytes bytes_new lent added DATA_BYTES place same few grown start end;
    numbers = sym (append-nil numbers);
    bytes_few = omega (arith, ap data_bytes is);
    numbers_few = omega arith;
    reply_is = ap (λ (xs : List ℕ). Reply.Bytes xs) (is_part bytes bytes_new lent added DATA_BYTES place same few grown start end) ∙ sym is;
    is_kept = is_place bytes bytes_new lent added DATA_BYTES place same few grown start end;
  }

  pub Keeps-access : (faults : ℕ) → answer ≡ Reply.Access faults added → Keeps answer bytes numbers (Kept.Access faults place) bytes_new numbers
  Keeps-access faults is = record {
    bytes_more = added;
    numbers_more = [];
    bytes = is_grown bytes bytes_new lent added DATA_BYTES place same few grown start end;
    numbers = sym (append-nil numbers);
    bytes_few = omega (arith, ap data_bytes is);
    numbers_few = omega arith;
    reply_is = ap (λ (xs : List ℕ). Reply.Access faults xs) (is_part bytes bytes_new lent added DATA_BYTES place same few grown start end) ∙ sym is;
    is_kept = is_place bytes bytes_new lent added DATA_BYTES place same few grown start end;
  }

pub Keeps-pins : (answer : Reply) (bytes numbers numbers_new lent added : List ℕ) (place : Place) → lent ≡ added → length lent ≤ PIN_PAGES → numbers_new ≡ numbers ++ lent
    → place.start ≡ length numbers → place.end ≡ length numbers_new → answer ≡ Reply.Pins added → Keeps answer bytes numbers (Kept.Pins place) bytes numbers_new
Keeps-pins answer bytes numbers numbers_new lent added place same few grown start end is = record {
  bytes_more = [];
  numbers_more = added;
  bytes = sym (append-nil bytes);
  numbers = is_grown numbers numbers_new lent added PIN_PAGES place same few grown start end;
  bytes_few = omega arith;
  numbers_few = omega (arith, ap data_numbers is);
  reply_is = ap (λ (xs : List ℕ). Reply.Pins xs) (is_part numbers numbers_new lent added PIN_PAGES place same few grown start end) ∙ sym is;
  is_kept = is_place numbers numbers_new lent added PIN_PAGES place same few grown start end;
}
