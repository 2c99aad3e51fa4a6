-- How a journal is continued with what it lacks of the text of the old one.
use Rattle.std.specs.Prelude.{◌≡◌, ◌⊎◌, ◌≤◌, ℕ, ◌+◌, List, [], ◌++◌, length, take, Option, IfSome, Result, MatchResult, All}
use Rattle.issuer_base.specs.Stores.{BothTold, Disk, LeavesOnly, Moment, Passes}
use Rattle.issuer_base.specs.declared.entry.Entry.{Entry}
use Rattle.card_history.specs.LegalRecords.{IsLegalHistory}
use Rattle.issuer_setup.specs.IssuerSetup.{Setup}
use Rattle.journal_rec.specs.Record.{IsRecord}
use Rattle.journal_rec.specs.RecordText.{journal_text, version_line}
use Rattle.journal_store.specs.Images.{IsKept}
use Rattle.shard_book.specs.declared.replay.Taken.{Taken}
use Rattle.shard_book.specs.declared.replay.TakenOver.{TakenOver}
use Rattle.shard_book.specs.declared.replay.Version.TheVariants.{One, Two}
use Rattle.shard_book.specs.Grounds.{grounds_old}
use Rattle.shard_book.specs.ShardRows.{ShardRows}
use Rattle.shard_book.specs.Shards.{IsFailedImage, LeavesBytes, LeavesDisk}
use Rattle.shard_book.specs.declared.replay.LoadFault.{LoadFault}
use Rattle.shard_book.specs.declared.replay.LoadFault.TheVariants.{BadLine}
use Rattle.shard_book.specs.Loading.{DiffersAt, IsOutside, ReadsText, StopsText}
use Rattle.shard_book.specs.Versions.{HasText, IsPartOf}

-- the text is that of a journal of version 2 with the old store's first bytes, so many, if they are observable
pub record IsTextAfter (old_bytes : Option (List ℕ)) (count : ℕ) (text : List ℕ) : Type 0 where
  pub long : length text ≡ length version_line + count
  pub text_is : IfSome old_bytes (λ told. text ≡ version_line ++ take count told)

-- one of the two is a prefix of the other
abbrev pub Agree : List ℕ → List ℕ → Type 0
Agree text bytes = IsPartOf text bytes ⊎ IsPartOf bytes text

-- the bytes differ from the text first in the line that the fault names
abbrev pub DiffersIn : List ℕ → List ℕ → LoadFault → Type 0
DiffersIn text bytes fault = (line : ℕ) × (fault ≡ BadLine line) × DiffersAt text bytes line

-- the fault isn't that of a text, or names the first line in which the store's bytes, if they are observable, differ
-- from the text
abbrev pub NamesDifference : List ℕ → Option (List ℕ) → LoadFault → Type 0
NamesDifference text bytes fault = IsOutside fault ⊎ IfSome bytes (λ told. DiffersIn text told fault)

-- the bytes are unchanged, or they were a prefix of the text and are one that is no shorter
abbrev pub Moves : List ℕ → List ℕ → List ℕ → Type 0
Moves text before after =
    (after ≡ before) ⊎ (IsPartOf text before × IsPartOf text after × (length before ≤ length after))

-- at this moment the bytes are as they were, or they were a prefix of the text and are one
abbrev pub IsMoving : List ℕ → Moment → Moment → Type 0
IsMoving text old moment = IsKept old moment ⊎ (IsPartOf text old.bytes × IsPartOf text moment.bytes)

-- the disk goes through such moments
abbrev pub PassesMoving : List ℕ → Disk → Disk → Type 0
PassesMoving text old new = Passes (IsMoving text old.now) old new

-- what a load has read of the old store and the store, and how it has continued the store: the old store has the text
-- of this old history, the store was a prefix of its text or is unchanged, and the rows stand for the store's records
pub record Continues (issuer : Setup) (shard : ℕ) (old_bytes bytes now : Option (List ℕ)) (disk disk_now : Option Disk)
    (rows : ShardRows) (taken : Taken) : Type 0 where
  pub old : List Entry
  pub old_text_is : IfSome old_bytes (HasText One old)
  pub old_records : All IsRecord old
  pub old_legal : IsLegalHistory (grounds_old issuer) shard old
  pub moves : BothTold (Moves (journal_text old)) bytes now
  pub passes : BothTold (PassesMoving (journal_text old)) disk disk_now
  pub reads : ReadsText Two issuer shard old now rows taken

-- why a load stops before it opens the journal, and what it leaves
pub record StopsShort (issuer : Setup) (shard : ℕ) (old_bytes bytes now : Option (List ℕ)) (disk disk_now : Option Disk)
    (fault : LoadFault) : Type 0 where
  pub stops : StopsText issuer shard old_bytes bytes fault
  pub kept : LeavesBytes fault old_bytes bytes now
  pub still : LeavesDisk fault disk disk_now
  pub leaves : BothTold (λ before after. LeavesOnly (IsFailedImage old_bytes before.now) before after) disk disk_now

-- how the reading of both stores ends: with rows that stand for the store's records, or with why it stops
abbrev pub EndsReading :
    Setup → ℕ → Option (List ℕ) → Option (List ℕ) → Option (List ℕ) → Option Disk → Option Disk
    → Result TakenOver LoadFault → Type 0
EndsReading issuer shard old_bytes bytes now disk disk_now result =
    MatchResult result (λ over. Continues issuer shard old_bytes bytes now disk disk_now over.rows over.taken)
    (StopsShort issuer shard old_bytes bytes now disk disk_now)

-- the old store was read into the rows, and the store agrees with the text of its records as far as both go
pub record HasReadOld (issuer : Setup) (shard : ℕ) (old_bytes bytes : Option (List ℕ)) (rows : ShardRows)
    (known : Taken) : Type 0 where
  pub reads : ReadsText One issuer shard [] old_bytes rows known
  pub agree : IfSome bytes (Agree (journal_text reads.history))
