-- How the text of a journal is parsed: its records up to the first bad line, and the remainder.
use Rattle.std.specs.Prelude.{◌≡◌, ◌≢◌, ◌⊎◌, ◌≤◌, ℕ, ◌+◌, ◌==◌, if◌then◌else◌, List, [], ◌∷◌, ◌++◌, length, take, drop, Bool, true, false, Option, Some, IfSome, IsSomeAnd}
use Rattle.std.specs.Prelude.{Result, Err, All}
use Rattle.issuer_base.specs.declared.entry.Entry.{Entry}
use Rattle.card_history.specs.LegalRecords.{IsLegal, IsLegalHistory}
use Rattle.issuer_setup.specs.IssuerSetup.{Setup}
use Rattle.journal_rec.specs.Record.{IsRecord, IsLineOf}
use Rattle.journal_rec.specs.RecordText.{newline, texts_of, journal_text, IsUnbroken}
use Rattle.shard_book.specs.declared.replay.LoadFault.{LoadFault}
use Rattle.shard_book.specs.declared.replay.LoadFault.TheVariants.{OldLine, OldRecord, BadLine, StoreFault, NoMemory}
use Rattle.shard_book.specs.declared.replay.Taken.{Taken}
use Rattle.shard_book.specs.declared.replay.Version.{Version}
use Rattle.shard_book.specs.declared.replay.Version.TheVariants.{One, Two}
use Rattle.shard_book.specs.Grounds.{grounds_old}
use Rattle.shard_book.specs.Histories.{GoesOn}
use Rattle.shard_book.specs.ShardRows.{ShardRows, RowsStandFor}
use Rattle.shard_book.specs.Versions.{bad_line, bad_record, grounds_in, text_in, HasText}

-- the line after these records is bad: it is that of no record, or of one that is no valid successor
abbrev pub IsBad : Version → Setup → ℕ → List Entry → List ℕ → LoadFault → Type 0
IsBad version issuer shard history line fault =
    ((fault ≡ bad_line version (length history)) × ((entry : Entry) → IsLineOf entry line → ⊥))
    ⊎ ((fault ≡ bad_record version (length history))
    × ((entry : Entry) × IsLineOf entry line × (IsLegal (grounds_in version issuer) shard history entry → ⊥)))

-- this line is that of a valid successor of the history, and the rows have the record
pub record TakesLine (version : Version) (issuer : Setup) (shard : ℕ) (history : List Entry) (line : List ℕ)
    (new : ShardRows) : Type 0 where
  pub entry : Entry
  pub line_is : IsLineOf entry line
  pub legal : IsLegal (grounds_in version issuer) shard history entry
  pub stands : RowsStandFor issuer new (history ++ entry ∷ [])

-- the text begins with these records, each a valid successor, and the rows have them
pub record TakesLines (version : Version) (issuer : Setup) (shard : ℕ) (history : List Entry) (text : List ℕ)
    (taken : Taken) (new : ShardRows) : Type 0 where
  pub entries : List Entry
  pub count_is : taken.records ≡ length entries
  pub text_is : take taken.bytes text ≡ texts_of entries
  pub records : All IsRecord entries
  pub legal : IsLegalHistory (grounds_in version issuer) shard (history ++ entries)
  pub stands : RowsStandFor issuer new (history ++ entries)

-- the text begins with records, each a valid successor, and then has a bad line
pub record StopsLines (version : Version) (issuer : Setup) (shard : ℕ) (history : List Entry) (text : List ℕ)
    (fault : LoadFault) : Type 0 where
  pub entries : List Entry
  pub line : List ℕ
  pub ahead : List ℕ
  pub text_is : text ≡ texts_of entries ++ line ++ newline ∷ ahead
  pub unbroken : IsUnbroken line
  pub records : All IsRecord entries
  pub legal : IsLegalHistory (grounds_in version issuer) shard (history ++ entries)
  pub bad : IsBad version issuer shard (history ++ entries) line fault

-- the bytes are the text of a legal history that extends the first one, and then a bad line
pub record StopsAt (version : Version) (issuer : Setup) (shard : ℕ) (first : List Entry) (bytes : List ℕ)
    (fault : LoadFault) : Type 0 where
  pub history : List Entry
  pub goes_on : GoesOn first history
  pub line : List ℕ
  pub ahead : List ℕ
  pub text_is : bytes ≡ text_in version history ++ line ++ newline ∷ ahead
  pub unbroken : IsUnbroken line
  pub records : All IsRecord history
  pub legal : IsLegalHistory (grounds_in version issuer) shard history
  pub bad : IsBad version issuer shard history line fault

-- if the store's bytes are observable, a prefix of them is the text of a legal history that extends the first one; the
-- rows stand for it
pub record ReadsFront (version : Version) (issuer : Setup) (shard : ℕ) (first : List Entry) (bytes : Option (List ℕ))
    (rows : ShardRows) (taken : Taken) : Type 0 where
  pub history : List Entry
  pub goes_on : GoesOn first history
  pub front_is : IfSome bytes (λ text. take taken.bytes text ≡ text_in version history)
  pub records : All IsRecord history
  pub legal : IsLegalHistory (grounds_in version issuer) shard history
  pub stands : RowsStandFor issuer rows history
  pub count_is : taken.records ≡ length history
  pub sure_is : taken.bytes ≡ length (text_in version history)

-- if the store's bytes are observable, they are the text of a legal history that extends the first one, and a torn last
-- line, which may be empty; the rows stand for the history
pub record ReadsText (version : Version) (issuer : Setup) (shard : ℕ) (first : List Entry) (bytes : Option (List ℕ))
    (rows : ShardRows) (taken : Taken) : Type 0 where
  pub history : List Entry
  pub goes_on : GoesOn first history
  pub text_is : IfSome bytes (HasText version history)
  pub records : All IsRecord history
  pub legal : IsLegalHistory (grounds_in version issuer) shard history
  pub stands : RowsStandFor issuer rows history
  pub count_is : taken.records ≡ length history
  pub sure_is : taken.bytes ≡ length (text_in version history)

-- what was replayed is within so many bytes, and each of its records has two bytes at least
pub record IsWithin (taken : Taken) (size : ℕ) : Type 0 where
  pub few : taken.records + taken.records ≤ taken.bytes
  pub within : taken.bytes ≤ size

-- if the store's bytes are observable, no newline is in so many of them from an offset on
abbrev pub IsUnbrokenIn : ℕ → ℕ → Option (List ℕ) → Type 0
IsUnbrokenIn count from bytes = IfSome bytes (λ text. IsUnbroken (take count (drop from text)))

-- the fault isn't that of a text
abbrev pub IsOutside : LoadFault → Type 0
IsOutside StoreFault = Unit {0}
IsOutside NoMemory = Unit {0}
IsOutside _ = ⊥

-- why the replay of a store stops: its own failure, or the bad line of its bytes, if they are observable
abbrev pub StopsReplay : Version → Setup → ℕ → List Entry → Option (List ℕ) → LoadFault → Type 0
StopsReplay version issuer shard first bytes fault =
    IsOutside fault ⊎ IfSome bytes (λ text. StopsAt version issuer shard first text fault)

-- the old store's bytes are known: the text of this legal history, and a torn last line, which may be empty
pub record IsOldText (issuer : Setup) (shard : ℕ) (bytes : Option (List ℕ)) (old : List Entry) : Type 0 where
  pub text_is : IsSomeAnd bytes (HasText One old)
  pub records : All IsRecord old
  pub legal : IsLegalHistory (grounds_old issuer) shard old

-- how many newlines the bytes have
abbrev pub newlines_in : List ℕ → ℕ
newlines_in [] = 0
newlines_in (byte ∷ bytes) = if byte == newline then newlines_in bytes + 1 else newlines_in bytes

-- the bytes differ from the text first in this line, counted from 1, whole or torn
pub record DiffersAt (text bytes : List ℕ) (line : ℕ) : Type 0 where
  pub same : List ℕ
  pub byte : ℕ
  pub other : ℕ
  pub ahead : List ℕ
  pub other_ahead : List ℕ
  pub bytes_are : bytes ≡ same ++ byte ∷ ahead
  pub text_is : text ≡ same ++ other ∷ other_ahead
  pub apart : byte ≢ other
  pub line_is : line ≡ newlines_in same + 1

-- the store's bytes stop a load after the old store's: they differ from the text of the old history first in a line; or
-- they begin with this text, and after records, each a valid successor, they have a bad line
pub record StopsJournal (issuer : Setup) (shard : ℕ) (old_bytes bytes : List ℕ) (fault : LoadFault) : Type 0 where
  pub old : List Entry
  pub old_is : IsOldText issuer shard (Some old_bytes) old
  pub stops : ((line : ℕ) × (fault ≡ BadLine line) × DiffersAt (journal_text old) bytes line)
      ⊎ StopsAt Two issuer shard old bytes fault

-- why a load stops, by the bytes of the old store and of the store, if they are observable; the stores' own failure is
-- observed by their fault counts, and out of memory by nothing
abbrev pub StopsText : Setup → ℕ → Option (List ℕ) → Option (List ℕ) → LoadFault → Type 0
StopsText issuer shard old_bytes bytes StoreFault = Unit {0}
StopsText issuer shard old_bytes bytes NoMemory = Unit {0}
StopsText issuer shard old_bytes bytes (OldLine line) =
    IfSome old_bytes (λ text. StopsAt One issuer shard [] text (OldLine line))
StopsText issuer shard old_bytes bytes (OldRecord line) =
    IfSome old_bytes (λ text. StopsAt One issuer shard [] text (OldRecord line))
StopsText issuer shard old_bytes bytes fault =
    IfSome old_bytes (λ old_text. IfSome bytes (λ text. StopsJournal issuer shard old_text text fault))

-- whether the store failed
abbrev pub is_by_store : {X : Type 0} → Result X LoadFault → Bool
is_by_store (Err StoreFault) = true
is_by_store _ = false

abbrev pub is_store_failure : LoadFault → Bool
is_store_failure StoreFault = true
is_store_failure _ = false
