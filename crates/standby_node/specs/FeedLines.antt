-- What a line of a feed does to the histories of a node's shards, which are in the order of the shards' numbers. A line
-- is given without its newline.
use Rattle.std.specs.Prelude.{◌≡◌, ◌≢◌, ◌⊎◌, ℕ, ◌<◌, ◌≤◌, List, [], ◌∷◌, ◌++◌, length, slice_get, slice_set, Some}
use Rattle.issuer_base.specs.declared.entry.Entry.{Entry}
use Rattle.card_history.specs.LegalRecords.{IsLegal}
use Rattle.issuer_setup.specs.IssuerSetup.{Setup}
use Rattle.journal_rec.specs.Record.{IsLineOf}
use Rattle.feed_text.specs.FeedText.{HasHead}
use Rattle.feed_text.specs.declared.limits.TheConstants.{MOST_FEED_BYTES}
use Rattle.line_reader.specs.Lines.{ended}
use Rattle.shard_book.specs.Grounds.{grounds_of}

-- ---- a line that is taken

-- the line, with its newline, isn't longer than a feed line; it begins with the number of a shard of the node, which
-- has this history, and with this index
pub record IsFor (histories : List (List Entry)) (line : List ℕ) (shard place : ℕ) (rest : List ℕ)
    (history : List Entry) : Type 0 where
  pub short : length (ended line) ≤ MOST_FEED_BYTES
  pub head : HasHead line shard place rest
  pub history_is : slice_get histories shard ≡ Some history

-- the text is the line of this record, which is legal after the history of the shard
pub record IsLegalLine (issuer : Setup) (shard : ℕ) (history : List Entry) (text : List ℕ) (entry : Entry)
    : Type 0 where
  pub line_is : IsLineOf entry text
  pub legal : IsLegal (grounds_of issuer) shard history entry

-- the line is passed over by its index alone: it isn't the number of its shard's records
pub record IsPassedOver (histories : List (List Entry)) (line : List ℕ) : Type 0 where
  pub shard : ℕ
  pub place : ℕ
  pub rest : List ℕ
  pub history : List Entry
  pub is_for : IsFor histories line shard place rest history
  pub elsewhere : place ≢ length history

-- the line has the number of its shard's records as its index, and this record, which is legal there
pub record IsNext (issuer : Setup) (histories : List (List Entry)) (line : List ℕ) (shard : ℕ) (history : List Entry)
    (entry : Entry) : Type 0 where
  pub rest : List ℕ
  pub is_for : IsFor histories line shard (length history) rest history
  pub legal_line : IsLegalLine issuer shard history rest entry

-- the line adds its record to the history of its shard
pub record AddsRecord (issuer : Setup) (histories : List (List Entry)) (line : List ℕ) (after : List (List Entry))
    : Type 0 where
  pub shard : ℕ
  pub history : List Entry
  pub entry : Entry
  pub next : IsNext issuer histories line shard history entry
  pub after_is : after ≡ slice_set histories shard (history ++ entry ∷ [])

-- the line makes these histories of the others: it is passed over, or it adds its record
abbrev pub TakesLine : Setup → List (List Entry) → List ℕ → List (List Entry) → Type 0
TakesLine issuer histories line after =
    (IsPassedOver histories line × (after ≡ histories)) ⊎ AddsRecord issuer histories line after

-- ---- a bad line

-- the line, with its newline, is longer than any feed line
abbrev pub IsTooLong : List ℕ → Type 0
IsTooLong line = MOST_FEED_BYTES < length (ended line)

-- it doesn't begin with the number of a shard and an index
abbrev pub HasNoHead : List ℕ → Type 0
HasNoHead line = (shard place : ℕ) (rest : List ℕ) → HasHead line shard place rest → ⊥

-- it names no shard of the node
pub record NamesNoShard (histories : List (List Entry)) (line : List ℕ) : Type 0 where
  pub shard : ℕ
  pub place : ℕ
  pub rest : List ℕ
  pub head : HasHead line shard place rest
  pub none : length histories ≤ shard

-- it has the number of its shard's records as its index, and isn't the line of a record that is legal there
pub record HasNoLegalRecord (issuer : Setup) (histories : List (List Entry)) (line : List ℕ) : Type 0 where
  pub shard : ℕ
  pub history : List Entry
  pub rest : List ℕ
  pub is_for : IsFor histories line shard (length history) rest history
  pub none : (entry : Entry) → IsLegalLine issuer shard history rest entry → ⊥

-- the line is bad for one of these causes
abbrev pub IsBadLine : Setup → List (List Entry) → List ℕ → Type 0
IsBadLine issuer histories line =
    IsTooLong line ⊎ HasNoHead line ⊎ NamesNoShard histories line ⊎ HasNoLegalRecord issuer histories line
