-- How a journal is kept that takes little memory.
use Rattle.std.specs.Prelude.{◌≡◌, ℕ, ◌-◌, ◌≤◌, List, ◌++◌, length, map}
use Rattle.std.specs.List.{All}
use Rattle.vm_base.specs.declared.limits.TheConstants.{DATA_BYTES, PIN_PAGES}
use Rattle.vm_model.specs.Machine.Words.{Reply}
use Rattle.vm_model.specs.declared.reply.Reply.TheVariants as Reply
use Rattle.shared_vm.specs.declared.task.Deed.{Deed}
use Rattle.shared_vm.specs.declared.place.Place.{Place}
use Rattle.shared_vm.specs.declared.notes.Kept.{Kept}
use Rattle.shared_vm.specs.declared.notes.Note.{Note}
use Rattle.shared_vm.specs.Journal.{Spare, data_bytes, data_numbers}
use Rattle.shared_vm.specs.inside.Places.{items_at, LiesWithin}

-- what contracts see: the deeds, and for how many more there is room
pub record Noted : Type 0 where
  pub deeds : List Deed
  pub spare : Spare

-- the reply that was kept
abbrev pub reply_at : List ℕ → List ℕ → Kept → Reply
reply_at bytes numbers (Kept.Plain answer) = answer
reply_at bytes numbers (Kept.Bytes place) = Reply.Bytes (items_at bytes place)
reply_at bytes numbers (Kept.Access faults place) = Reply.Access faults (items_at bytes place)
reply_at bytes numbers (Kept.Pins place) = Reply.Pins (items_at numbers place)

abbrev pub deed_of : ℕ → Reply → Deed
deed_of actor reply = record { actor = actor; reply = reply }

abbrev pub deed_at : List ℕ → List ℕ → Note → Deed
deed_at bytes numbers note = deed_of note.actor (reply_at bytes numbers note.kept)

abbrev pub deeds_at : List ℕ → List ℕ → List Note → List Deed
deeds_at bytes numbers notes = map (deed_at bytes numbers) notes

-- the place of the data of one reply
pub record IsDataPlace (len most : ℕ) (place : Place) : Type 0 where
  pub within : LiesWithin len place
  pub few : place.end - place.start ≤ most

-- what was kept has its data among so many bytes and numbers
abbrev pub IsKept : ℕ → ℕ → Kept → Type 0
IsKept bytes numbers (Kept.Plain answer) = Unit {0}
IsKept bytes numbers (Kept.Bytes place) = IsDataPlace bytes DATA_BYTES place
IsKept bytes numbers (Kept.Access faults place) = IsDataPlace bytes DATA_BYTES place
IsKept bytes numbers (Kept.Pins place) = IsDataPlace numbers PIN_PAGES place

abbrev pub IsNoteKept : ℕ → ℕ → Note → Type 0
IsNoteKept bytes numbers note = IsKept bytes numbers note.kept

-- what holds of every such journal: the data of each reply is there
abbrev pub IsJournal : (bytes numbers : List ℕ) → List Note → Type 0
IsJournal bytes numbers notes = All (IsNoteKept (length bytes) (length numbers)) notes

-- a reply was kept, and its data added behind the other data
pub record Keeps (reply : Reply) (bytes_old numbers_old : List ℕ) (kept : Kept) (bytes_new numbers_new : List ℕ) : Type 0 where
  pub bytes_more : List ℕ
  pub numbers_more : List ℕ
  pub bytes : bytes_new ≡ bytes_old ++ bytes_more
  pub numbers : numbers_new ≡ numbers_old ++ numbers_more
  pub bytes_few : length bytes_more ≤ data_bytes reply
  pub numbers_few : length numbers_more ≤ data_numbers reply
  pub reply_is : reply_at bytes_new numbers_new kept ≡ reply
  pub is_kept : IsKept (length bytes_new) (length numbers_new) kept
