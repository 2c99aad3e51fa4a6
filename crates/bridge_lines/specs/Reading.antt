-- How a message's text is read: from left to right.
use Rattle.std.specs.Prelude.{ℕ, zero, suc, nat_lt, if◌then◌else◌, List, [], ◌∷◌, length, codes, Option, Some, None}
use Rattle.std.specs.Str.{bytes_eq}
use Rattle.one_history.specs.Streams.{Barrier, Indexed}
use Rattle.bridge_lines.specs.declared.limits.TheConstants.{MAX_RECORDS}
use Rattle.bridge_lines.specs.Parts.{◌>>=◌, cut, name_in, number_in, record_in}
use Rattle.bridge_lines.specs.Texts.{Said, SaysBarrier, SaysRecords, SaysMark}

-- NUMBER NAME MACHINE
unfoldable pub barrier_in : List ℕ → Option Barrier
barrier_in words = do
  first ← cut 32 words
  number ← number_in first.0
  second ← cut 32 first.1
  name ← name_in second.0
  machine ← name_in second.1
  Some (record { number = number; name = name; machine = machine })

-- feed lines, so many at most
unfoldable pub records_in : ℕ → List ℕ → Option (List Indexed)
records_in room [] = Some []
records_in zero (byte ∷ bytes) = None
records_in (suc room) (byte ∷ bytes) = do
  line ← cut 10 (byte ∷ bytes)
  one ← record_in line.0
  more ← records_in room line.1
  Some (one ∷ more)

-- NAME SEQUENCE, and feed lines
unfoldable pub records_said : List ℕ → List ℕ → Option Said
records_said words lines = do
  first ← cut 32 words
  name ← name_in first.0
  sequence ← number_in first.1
  records ← records_in MAX_RECORDS lines
  Some (SaysRecords name sequence records)

-- a message in one line
unfoldable pub line_said : List ℕ → List ℕ → Option Said
line_said kind words =
    if bytes_eq kind (codes "barrier") then (barrier_in words >>= λ barrier. Some (SaysBarrier barrier))
    else if bytes_eq kind (codes "mark") then (name_in words >>= λ word. Some (SaysMark word)) else None

-- what a text says, by the first word of its first line, the other words, and the other lines
unfoldable pub said_in : List ℕ → List ℕ → List ℕ → Option Said
said_in kind words lines =
    if bytes_eq kind (codes "records") then records_said words lines
    else if nat_lt 0 (length lines) then None else line_said kind words

-- what a text says
unfoldable pub message_in : List ℕ → Option Said
message_in text = do
  lines ← cut 10 text
  head ← cut 32 lines.0
  said_in head.0 head.1 lines.1
