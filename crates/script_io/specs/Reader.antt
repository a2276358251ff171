-- What a line reader holds, as contracts see it.
use Rattle.std.specs.Prelude.{◌≡◌, ◌≢◌, ℕ, ◌+◌, ◌-◌, ◌^◌, ◌<◌, ◌≤◌, Bool, List, ◌++◌, length, take, Option, All}
use Rattle.std.specs.Io.KnownBytes.{Consumes, IsAtEnd}
use Rattle.script_io.specs.declared.line_buffer.TheConstants.{LINE_FEED}

-- no byte of these is a line feed
abbrev pub HasNoFeed : List ℕ → Type 0
HasNoFeed bytes = All (λ b. b ≢ LINE_FEED) bytes

-- A line reader has a limit, took bytes of its source, dropped so many of the front of a line that is too long, holds
-- the bytes that it took and didn't use up yet, and lends a line. It has seen the source at its end, or not.
pub record Reader : Type 0 where
  pub limit : ℕ
  pub taken : ℕ
  pub dropped : ℕ
  pub held : List ℕ
  pub line : List ℕ
  pub ended : Bool

-- The bytes in a buffer: the line that it lends; those that are held and were searched for a line feed; and behind
-- them those that are held and were not.
pub record Window : Type 0 where
  pub line : List ℕ
  pub seen : List ℕ
  pub fresh : List ℕ

-- a last byte, and no line feed before it
pub record HasNoFeedBeforeLast (bytes : List ℕ) : Type 0 where
  pub some : 0 < length bytes
  pub no_feed : HasNoFeed (take (length bytes - 1) bytes)

-- What holds of a line reader between calls. A front that was dropped is that of a line of more than `most` bytes. A
-- byte behind the limit is taken only if no line feed is left before it.
pub record IsReading (most limit taken dropped : ℕ) (window : Window) : Type 0 where
  pub small : limit < 2 ^ 63
  pub short : length window.line ≤ most
  pub within : taken ≤ limit + 1
  pub all_taken : dropped + length window.seen + length window.fresh ≤ taken
  pub long : 0 < dropped → most < dropped
  pub no_feed : HasNoFeed window.seen
  pub over : limit < taken → HasNoFeedBeforeLast (window.seen ++ window.fresh)

-- a source gave this many bytes, and they stand behind those that were held
pub record Grows (old new : List ℕ) (before after : Option (List ℕ)) (count : ℕ) : Type 0 where
  pub part : List ℕ
  pub size : length part ≡ count
  pub behind : new ≡ old ++ part
  pub consumes : Consumes before after part
  pub at_end : count ≡ 0 → IsAtEnd after
