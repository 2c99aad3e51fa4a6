-- A primary, of whose records a standby is fed: the histories of its shards, in the order of their numbers.
use Rattle.std.specs.Prelude.{◌≡◌, ℕ, ◌<◌, ◌≤◌, List, length, slice_get, Some, All}
use Rattle.issuer_base.specs.declared.entry.Entry.{Entry}
use Rattle.issuer_base.specs.declared.limits.TheConstants.{MAX_SHARDS}
use Rattle.card_history.specs.LegalRecords.{IsLegalHistory}
use Rattle.issuer_setup.specs.IssuerSetup.{Setup}
use Rattle.journal_rec.specs.Record.{IsRecord}
use Rattle.feed_text.specs.FeedText.{feed_line}
use Rattle.feed_text.specs.declared.limits.TheConstants.{PLACE_END}
use Rattle.line_reader.specs.Lines.{ended}
use Rattle.shard_book.specs.Grounds.{grounds_of}
use Rattle.shard_book.specs.Histories.{GoesOn}

-- the primary has at most as many shards as an issuer may have, and each entry of its histories is a record
pub record IsPrimary (primary : List (List Entry)) : Type 0 where
  pub few : length primary ≤ MAX_SHARDS
  pub records : (shard : ℕ) (history : List Entry) → slice_get primary shard ≡ Some history → All IsRecord history

-- the histories are legal
abbrev pub AreLegal : Setup → List (List Entry) → Type 0
AreLegal issuer primary =
    (shard : ℕ) (history : List Entry) → slice_get primary shard ≡ Some history
    → IsLegalHistory (grounds_of issuer) shard history

-- the line, with its newline, is the feed line of one of the primary's records, at its index
pub record IsPrimaryLine (primary : List (List Entry)) (line : List ℕ) : Type 0 where
  pub shard : ℕ
  pub place : ℕ
  pub history : List Entry
  pub entry : Entry
  pub history_is : slice_get primary shard ≡ Some history
  pub entry_is : slice_get history place ≡ Some entry
  pub within : place < PLACE_END
  pub text_is : ended line ≡ feed_line shard place entry

-- each history is a prefix of the primary's with its number
pub record ArePrefixes (histories primary : List (List Entry)) : Type 0 where
  pub count_is : length histories ≡ length primary
  pub each : (shard : ℕ) (mine theirs : List Entry)
      → slice_get histories shard ≡ Some mine → slice_get primary shard ≡ Some theirs → GoesOn mine theirs
