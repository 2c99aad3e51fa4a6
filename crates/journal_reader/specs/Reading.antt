-- What a reader has read of a journal's text, and where it stops.
use Rattle.std.specs.Prelude.{◌≡◌, ◌≢◌, ◌⊎◌, ℕ, ◌+◌, ◌≤◌, Bool, true, false, List, [], ◌∷◌, ◌++◌, length, take, drop, slice_range}
use Rattle.std.specs.Prelude.{All, Option, None, Some, IfSome, Result, Ok, Err}
use Rattle.issuer_base.specs.declared.entry.Entry.{Entry}
use Rattle.journal_rec.specs.Record.{IsRecord, IsLineOf}
use Rattle.journal_rec.specs.RecordText.{newline, version_line, journal_text, IsUnbroken}
use Rattle.shard_book.specs.Versions.{HasText}
use Rattle.shard_book.specs.declared.replay.Version.TheVariants.{Two}
use Rattle.journal_reader.specs.declared.reader.RecordFault.{RecordFault}
use Rattle.journal_reader.specs.declared.reader.RecordFault.TheVariants.{StoreFault, BadLine}
use Rattle.journal_reader.specs.declared.reader.RecordReader.{RecordReader}

-- the unread bytes in memory
abbrev pub ahead_of : RecordReader → List ℕ
ahead_of reader = slice_range reader.buffer.items reader.start reader.end

-- what was read, and the bytes in memory, are within a store of this size
abbrev pub IsWithin : RecordReader → ℕ → Type 0
IsWithin reader size = reader.taken + length (ahead_of reader) ≤ size

-- the bytes in memory are those of the text after what was read
abbrev pub IsBuffered : RecordReader → List ℕ → Type 0
IsBuffered reader text = ahead_of reader ≡ take (length (ahead_of reader)) (drop reader.taken text)

-- the records of this history were read: where the store's bytes are observable, their text is a prefix of them
pub record HasRead (reader : RecordReader) (bytes : Option (List ℕ)) (history : List Entry) : Type 0 where
  pub records : All IsRecord history
  pub count_is : reader.records ≡ length history
  pub front : IfSome bytes (λ text. take reader.taken text ≡ journal_text history)
  pub buffered : IfSome bytes (IsBuffered reader)

-- after this history one more record was read; or there is none, and the bytes are the text of the history and a torn
-- last line, which may be empty
abbrev pub Gives : RecordReader → Option (List ℕ) → List Entry → Option Entry → Type 0
Gives reader bytes history (Some entry) = HasRead reader bytes (history ++ entry ∷ [])
Gives reader bytes history None = All IsRecord history × IfSome bytes (HasText Two history)

-- after the records of this history the text has a whole line that is that of no record
pub record HasBadLine (history : List Entry) (text : List ℕ) : Type 0 where
  pub line : List ℕ
  pub ahead : List ℕ
  pub text_is : text ≡ journal_text history ++ line ++ newline ∷ ahead
  pub unbroken : IsUnbroken line
  pub none : (entry : Entry) → IsLineOf entry line → ⊥

-- why no record is read after this history: the store failed, or the next line is bad
abbrev pub Stops : Option (List ℕ) → List Entry → RecordFault → Type 0
Stops bytes history StoreFault = Unit {0}
Stops bytes history (BadLine line) = (line ≡ length history + 2) × IfSome bytes (HasBadLine history)

-- why no journal of version 2 is begun: the store failed, or its first line isn't `v2`
abbrev pub StartsOtherwise : Option (List ℕ) → RecordFault → Type 0
StartsOtherwise bytes StoreFault = Unit {0}
StartsOtherwise bytes (BadLine line) =
    (line ≡ 1) × IfSome bytes (λ text. (rest : List ℕ) → text ≢ version_line ++ rest)

-- why a journal isn't read on after the records of this history: as a reader stops there, or since none is begun
abbrev pub StopsAfter : Option (List ℕ) → List Entry → RecordFault → Type 0
StopsAfter bytes history fault = Stops bytes history fault ⊎ ((history ≡ []) × StartsOtherwise bytes fault)

-- how many records a call read
abbrev pub read_by : Result (Option Entry) RecordFault → ℕ
read_by (Ok (Some entry)) = 1
read_by (Ok None) = 0
read_by (Err fault) = 0

-- whether the store failed
abbrev pub has_failed : {X : Type 0} → Result X RecordFault → Bool
has_failed (Err StoreFault) = true
has_failed _ = false
