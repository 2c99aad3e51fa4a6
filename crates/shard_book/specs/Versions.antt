-- The versions of a journal: the text of records in it, how its lines are counted, and how its records are judged.
use Rattle.std.specs.Prelude.{◌≡◌, ℕ, ◌+◌, List, ◌++◌, take}
use Rattle.issuer_base.specs.declared.entry.Entry.{Entry}
use Rattle.issuer_base.specs.declared.limits.TheConstants.{OLD_WINDOW, WINDOW}
use Rattle.card_history.specs.LegalRecords.{Grounds}
use Rattle.issuer_setup.specs.IssuerSetup.{Setup}
use Rattle.journal_rec.specs.RecordText.{texts_of, journal_text, IsUnbroken}
use Rattle.shard_book.specs.declared.replay.LoadFault.{LoadFault}
use Rattle.shard_book.specs.declared.replay.LoadFault.TheVariants.{OldLine, OldRecord, BadLine, BadRecord}
use Rattle.shard_book.specs.declared.replay.Version.{Version}
use Rattle.shard_book.specs.declared.replay.Version.TheVariants.{One, Two}
use Rattle.shard_book.specs.Grounds.{grounds_by, IsMadeBy}

-- the text of these records in a journal of this version
abbrev pub text_in : Version → List Entry → List ℕ
text_in One history = texts_of history
text_in Two history = journal_text history

-- the window to which the records of a journal of this version are held
abbrev pub window_in : Version → ℕ
window_in One = OLD_WINDOW
window_in Two = WINDOW

-- what an issuer states of the records of a journal of this version: `grounds_old` or `grounds_of`
abbrev pub grounds_in : Version → Setup → Grounds
grounds_in version issuer = grounds_by issuer (window_in version) (IsMadeBy issuer)

-- the fault of the line after so many records if it is that of no record: lines count from 1, the first line of a
-- journal of version 2 included
abbrev pub bad_line : Version → ℕ → LoadFault
bad_line One records = OldLine (records + 1)
bad_line Two records = BadLine (records + 2)

-- and the fault if it is that of a record which is no valid successor
abbrev pub bad_record : Version → ℕ → LoadFault
bad_record One records = OldRecord (records + 1)
bad_record Two records = BadRecord (records + 2)

-- the bytes are the text of the history in a journal of this version, and a torn last line, which may be empty
pub record HasText (version : Version) (history : List Entry) (bytes : List ℕ) : Type 0 where
  pub rest : List ℕ
  pub text_is : bytes ≡ text_in version history ++ rest
  pub unbroken : IsUnbroken rest

-- the bytes are a prefix of the text
pub record IsPartOf (text bytes : List ℕ) : Type 0 where
  pub kept : ℕ
  pub part_is : bytes ≡ take kept text
