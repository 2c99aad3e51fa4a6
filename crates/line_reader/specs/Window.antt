-- The part of an input that is in memory: the current line, truncated, and the unread bytes after it.
use Rattle.std.specs.Prelude.{◌≡◌, ℕ, ◌<◌, ◌≤◌, List, [], ◌∷◌, ◌++◌, length, take, slice_range, Option}
use Rattle.std.specs.Io.KnownBytes.{Consumes, IsAtEnd}
use Rattle.issuer_base.specs.declared.limits.TheConstants.{KEPT_BYTES}
use Rattle.line_reader.specs.declared.limits.TheConstants.{NEWLINE}
use Rattle.line_reader.specs.declared.window.Window.{Window}
use Rattle.line_reader.specs.declared.window.Passed.{Passed}
use Rattle.line_reader.specs.declared.window.Passed.TheVariants.{ToNewline, All, NoRoom}
use Rattle.line_reader.specs.Lines.{IsUnbroken}
use Rattle.line_reader.specs.Reading.{kept}

-- the unread bytes
abbrev pub ahead_of : Window → List ℕ
ahead_of w = slice_range w.bytes.items w.start w.end

-- the current line, truncated
abbrev pub line_of : Window → List ℕ
line_of w = slice_range w.bytes.items w.line_start w.line_end

-- these bytes of the current line were scanned, and the unread bytes extend it
pub record HasPassed (w : Window) (passed : List ℕ) : Type 0 where
  pub in_hand : line_of w ≡ kept passed
  pub joined : length passed < KEPT_BYTES → w.line_end ≡ w.start

-- this many bytes, fewer than there is room for, and then a newline were scanned
pub record PassesNewline (old new : Window) (room count : ℕ) : Type 0 where
  pub more : List ℕ
  pub whole : ahead_of old ≡ more ++ NEWLINE ∷ ahead_of new
  pub unbroken : IsUnbroken more
  pub counted : length more ≡ count
  pub fits : count < room
  pub in_hand : (passed : List ℕ) → HasPassed old passed → line_of new ≡ kept (passed ++ more)

-- all unread bytes were scanned, and there was room for them
pub record PassesAll (old new : Window) (room count : ℕ) : Type 0 where
  pub unbroken : IsUnbroken (ahead_of old)
  pub counted : length (ahead_of old) ≡ count
  pub fits : count ≤ room
  pub none_ahead : ahead_of new ≡ []
  pub passed_on : (passed : List ℕ) → HasPassed old passed → HasPassed new (passed ++ ahead_of old)

-- as many bytes as there is room for have no newline, and more are unread; they stay so
pub record LacksRoom (old new : Window) (room : ℕ) : Type 0 where
  pub unbroken : IsUnbroken (take room (ahead_of old))
  pub more : room < length (ahead_of old)
  pub same_ahead : ahead_of new ≡ ahead_of old

-- what scanning the unread bytes did
abbrev pub Passes : Window → Window → ℕ → Passed → Type 0
Passes old new room (ToNewline count) = PassesNewline old new room count
Passes old new room (All count) = PassesAll old new room count
Passes old new room NoRoom = LacksRoom old new room

-- a source gave the bytes unread now, as many as it says, and none only at its end
pub record Gives (was now : Option (List ℕ)) (ahead : List ℕ) (count : ℕ) : Type 0 where
  pub consumed : Consumes was now ahead
  pub counted : length ahead ≡ count
  pub at_end : count ≡ 0 → IsAtEnd now
