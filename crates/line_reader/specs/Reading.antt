-- What a reader of lines has returned and has in memory, and the limits of an input of lines.
use Rattle.std.specs.Prelude.{◌≡◌, ◌≢◌, ℕ, ◌+◌, ◌-◌, ◌<◌, ◌≤◌, ◌⊎◌, List, [], ◌++◌, length, take}
use Rattle.std.specs.List.{flat_map}
use Rattle.issuer_base.specs.declared.limits.TheConstants.{KEPT_BYTES}
use Rattle.line_reader.specs.declared.limits.TheConstants.{MAX_LINES, MAX_BYTES}
use Rattle.line_reader.specs.Lines.{IsUnbroken, BeginsWithLines, ended}

-- a reader of lines, as its callers see it
pub record Reading : Type 0 where
  -- the bytes that the source gave and that are in no line that was returned
  pub ahead : List ℕ
  -- how many lines were returned, and how many bytes these had with their newlines
  pub lines : ℕ
  pub bytes : ℕ
  -- the current line, truncated
  pub line : List ℕ

-- a reader that has read nothing
abbrev pub unread : Reading
unread = record { ahead = []; lines = 0; bytes = 0; line = [] }

-- a truncated line
abbrev pub kept : List ℕ → List ℕ
kept line = take KEPT_BYTES line

-- this many lines, of this many bytes, are within the limits
pub record IsWithinLimits (lines bytes : ℕ) : Type 0 where
  pub lines_within : lines ≤ MAX_LINES
  pub bytes_within : bytes ≤ MAX_BYTES

-- this many lines of this many bytes are within the limits, and stay so with these bytes of one more line
pub record StaysWithinLimits (lines bytes : ℕ) (more : List ℕ) : Type 0 where
  pub lines_fit : lines ≤ MAX_LINES
  pub line_fits : more ≢ [] → lines < MAX_LINES
  pub bytes_fit : bytes + length more ≤ MAX_BYTES

-- after this many lines of this many bytes, a line too many begins, or the next line has a byte too many before a
-- newline
abbrev pub PassesLimit : ℕ → ℕ → List ℕ → Type 0
PassesLimit lines bytes more =
    ((lines ≡ MAX_LINES) × (more ≢ [])) ⊎ (IsUnbroken (take (MAX_BYTES - bytes) more)
    × (MAX_BYTES - bytes < length more))

-- the reader has returned these whole lines of the text read so far; the remainder is unread
pub record HasGivenLines (reading : Reading) (text : List ℕ) (whole : List (List ℕ)) : Type 0 where
  pub begins : BeginsWithLines text whole reading.ahead
  pub lines_counted : reading.lines ≡ length whole
  pub bytes_counted : reading.bytes ≡ length (flat_map ended whole)
  pub within : IsWithinLimits reading.lines reading.bytes

-- these lines were taken of those that are whole in memory, without a read of the source
abbrev pub TakesInHand : Reading → List (List ℕ) → Reading → Type 0
TakesInHand was taken is =
    (text : List ℕ) (whole : List (List ℕ)) → HasGivenLines was text whole → HasGivenLines is text (whole ++ taken)
