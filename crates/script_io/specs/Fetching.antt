-- Fetching the lines of a source, one after another.
use Rattle.std.specs.Prelude.{◌≡◌, ℕ, ◌+◌, ◌<◌, ◌≤◌, ◌⊎◌, Bool, true, List, [], ◌∷◌, ◌++◌, length, Option, None, Some}
use Rattle.std.specs.Io.KnownBytes.{Consumes, IsAtEnd}
use Rattle.script_io.specs.Reader.{Reader, HasNoFeed, HasNoFeedBeforeLast}
use Rattle.vm_base.specs.declared.limits.TheConstants.{LINE_BYTES}
use Rattle.script_io.specs.declared.line_reader.Fetch.{Fetch}
use Rattle.script_io.specs.declared.line_reader.Fetch.TheVariants.{Line, TooLong, End, Fault, Limit}
use Rattle.script_io.specs.declared.line_buffer.TheConstants.{LINE_FEED}

-- The bytes that a reader took and has not given as lines yet: the front of a line that is too long, which was dropped,
-- and what the reader holds. The source has `remaining` left. A source that was seen at its end is still there.
pub record IsPending (reader : Reader) (remaining : Option (List ℕ)) (pending : List ℕ) : Type 0 where
  pub front : List ℕ
  pub no_feed : HasNoFeed front
  pub size : length front ≡ reader.dropped
  pub parts : pending ≡ front ++ reader.held
  pub at_end : reader.ended ≡ true → IsAtEnd remaining

-- The bytes begin with this line, and leave those behind it. A line ends with a line feed. If the source has ended, a
-- last piece that is not empty is a line too.
pub record IsFirstLine (ended : Bool) (bytes line left : List ℕ) : Type 0 where
  pub no_feed : HasNoFeed line
  pub parts : (bytes ≡ line ++ LINE_FEED ∷ left) ⊎ ((bytes ≡ line) × (left ≡ []) × (0 < length line) × (ended ≡ true))

-- What a reader answers of the bytes that were pending, with those that it took since, and what it leaves pending.
abbrev pub Fetched : Reader → List ℕ → List ℕ → Fetch → Type 0
-- the first line has at most LINE_BYTES bytes, and the reader lends it
Fetched reader bytes left Line =
    IsFirstLine reader.ended bytes reader.line left × (length reader.line ≤ LINE_BYTES) × (reader.taken ≤ reader.limit)
-- the first line is longer, and was passed over
Fetched reader bytes left TooLong =
    (line : List ℕ) × IsFirstLine reader.ended bytes line left × (LINE_BYTES < length line)
    × (reader.line ≡ []) × (reader.taken ≤ reader.limit)
-- the source is at its end and every line was given
Fetched reader bytes left End =
    (bytes ≡ []) × (left ≡ []) × (reader.ended ≡ true) × (reader.line ≡ []) × (reader.taken ≤ reader.limit)
-- reading failed, and every line whose line feed was taken was given
Fetched reader bytes left Fault =
    (left ≡ bytes) × HasNoFeed bytes × (reader.line ≡ []) × (reader.taken ≤ reader.limit)
-- one byte behind the limit was taken, and is pending; every line whose line feed lies before it was given
Fetched reader bytes left Limit =
    (left ≡ bytes) × HasNoFeedBeforeLast bytes × (reader.line ≡ []) × (reader.taken ≡ reader.limit + 1)

-- From old, with these bytes pending, a call took `part` of the source, answered and left `left` pending. It took bytes
-- only if no line feed was left among those that were pending.
pub record Fetches (old new : Reader) (before after : Option (List ℕ)) (pending : List ℕ) (answer : Fetch)
    : Type 0 where
  pub part : List ℕ
  pub left : List ℕ
  pub consumes : Consumes before after part
  pub drained : (part ≡ []) ⊎ HasNoFeed pending
  pub taken : new.taken ≡ old.taken + length part
  pub still : IsPending new after left
  pub fetched : Fetched new (pending ++ part) left answer

-- what a search of the bytes that are held answers: the next line, or why there is none, or that more bytes are wanted
abbrev pub Looked : Reader → Option (List ℕ) → List ℕ → Option Fetch → Type 0
Looked reader remaining pending None = IsPending reader remaining pending × HasNoFeed pending
Looked reader remaining pending (Some answer) =
    (left : List ℕ) × IsPending reader remaining left × Fetched reader pending left answer

-- From old, with these bytes pending, some turns took `part` of the source, and gave no line.
pub record Waits (old new : Reader) (before after : Option (List ℕ)) (pending : List ℕ) : Type 0 where
  pub part : List ℕ
  pub consumes : Consumes before after part
  pub drained : (part ≡ []) ⊎ HasNoFeed pending
  pub taken : new.taken ≡ old.taken + length part
  pub still : IsPending new after (pending ++ part)

-- a line has at most LINE_BYTES bytes and is lent, or it has more and is not: `dropped` bytes of its front were dropped
abbrev pub Measured : ℕ → List ℕ → List ℕ → Fetch → Type 0
Measured dropped line lent Line = (dropped ≡ 0) × (length line ≤ LINE_BYTES) × (lent ≡ line)
Measured dropped line lent TooLong = (LINE_BYTES < dropped + length line) × (lent ≡ [])
Measured dropped line lent _ = ⊥
