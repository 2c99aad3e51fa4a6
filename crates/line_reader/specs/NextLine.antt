-- The outcomes of a call for the next line: relations of what the source had left and of the reader, before and after.
-- `was` and `now` are `None` for a source that doesn't report what it has left.
use Rattle.std.specs.Prelude.{◌≡◌, ◌≢◌, ◌⊎◌, ℕ, ◌+◌, Bool, true, false, List, [], ◌∷◌, ◌++◌, length, Option}
use Rattle.std.specs.Io.KnownBytes.{Consumes, IsAtEnd}
use Rattle.line_reader.specs.declared.limits.TheConstants.{NEWLINE}
use Rattle.line_reader.specs.declared.reader.NextLine.{NextLine}
use Rattle.line_reader.specs.declared.reader.NextLine.TheVariants.{Line, Rest, End, Fault, TooLong}
use Rattle.line_reader.specs.Lines.{IsUnbroken}
use Rattle.line_reader.specs.Reading.{Reading, kept, IsWithinLimits, StaysWithinLimits, PassesLimit}

-- the current line is this line, truncated; the line and its bytes are counted, within the limits
pub record HasGiven (old new : Reading) (line : List ℕ) (taken : ℕ) : Type 0 where
  pub in_hand : new.line ≡ kept line
  pub one_more : new.lines ≡ old.lines + 1
  pub more_bytes : new.bytes ≡ old.bytes + taken
  pub within : IsWithinLimits new.lines new.bytes

-- no line is counted
pub record GivesNone (old new : Reading) : Type 0 where
  pub same_lines : new.lines ≡ old.lines
  pub same_bytes : new.bytes ≡ old.bytes

-- the unread bytes and those that the source gave are a line, its newline, and the bytes unread now
pub record GivesLine (was now : Option (List ℕ)) (old new : Reading) : Type 0 where
  pub given : List ℕ
  pub line : List ℕ
  pub consumed : Consumes was now given
  pub whole : old.ahead ++ given ≡ line ++ NEWLINE ∷ new.ahead
  pub unbroken : IsUnbroken line
  pub counted : HasGiven old new line (length line + 1)

-- the unread bytes were a line, its newline, and the bytes unread now
pub record GivesInHand (old : Reading) (line : List ℕ) (new : Reading) : Type 0 where
  pub whole : old.ahead ≡ line ++ NEWLINE ∷ new.ahead
  pub unbroken : IsUnbroken line
  pub counted : HasGiven old new line (length line + 1)

-- the unread bytes have no newline, or the next line exceeds a limit
abbrev pub IsNoneInHand : Reading → Type 0
IsNoneInHand reading = IsUnbroken reading.ahead ⊎ PassesLimit reading.lines reading.bytes reading.ahead

-- the unread bytes and those that the source gave are a last line that isn't empty, and the source is at its end
pub record GivesRest (was now : Option (List ℕ)) (old new : Reading) : Type 0 where
  pub given : List ℕ
  pub line : List ℕ
  pub consumed : Consumes was now given
  pub at_end : IsAtEnd now
  pub whole : old.ahead ++ given ≡ line
  pub not_empty : line ≢ []
  pub unbroken : IsUnbroken line
  pub none_ahead : new.ahead ≡ []
  pub counted : HasGiven old new line (length line)

-- no byte was unread, and the source gave none and is at its end
pub record ReachesEnd (was now : Option (List ℕ)) (old new : Reading) : Type 0 where
  pub given : List ℕ
  pub consumed : Consumes was now given
  pub at_end : IsAtEnd now
  pub nothing : old.ahead ++ given ≡ []
  pub none_ahead : new.ahead ≡ []
  pub none_given : GivesNone old new

-- the source failed; the unread bytes and those that it gave before have no newline and exceed no limit
pub record StopsAtFault (was now : Option (List ℕ)) (old new : Reading) : Type 0 where
  pub given : List ℕ
  pub consumed : Consumes was now given
  pub unbroken : IsUnbroken (old.ahead ++ given)
  pub within : StaysWithinLimits old.lines old.bytes (old.ahead ++ given)
  pub none_given : GivesNone old new

-- the unread bytes and those that the source gave exceed a limit, in the line after those that were returned
pub record StopsAtLimit (was now : Option (List ℕ)) (old new : Reading) : Type 0 where
  pub given : List ℕ
  pub consumed : Consumes was now given
  pub passes : PassesLimit old.lines old.bytes (old.ahead ++ given)
  pub none_given : GivesNone old new

-- the source failed
abbrev pub is_fault : NextLine → Bool
is_fault Fault = true
is_fault Line = false
is_fault Rest = false
is_fault End = false
is_fault TooLong = false
