-- Which history a restart loads from what a crash left of a journal, under any decision table.
use Rattle.std.specs.Prelude.{ℕ, ◌≤◌, List, length, Some, All}
use Rattle.issuer_base.specs.declared.entry.Entry.{Entry}
use Rattle.decision_table.specs.declared.row.TableRow.{TableRow}
use Rattle.issuer_setup.specs.IssuerSetup.{Setup}
use Rattle.journal_rec.specs.Record.{IsRecord}
use Rattle.journal_rec.specs.RecordText.{journal_text}
use Rattle.shard_book.specs.Histories.{GoesOn, IsLegalSince}
use Rattle.shard_book.specs.Shards.{IsImageLeft, IsTextOf}

-- the issuer with another decision table, and the same shards, keys and cards
abbrev pub with_table : Setup → List TableRow → Setup
with_table issuer table = record { shards = issuer.shards; keys = issuer.keys; cards = issuer.cards; table = table }

-- the history is one that a shard holds since this old one: each entry is a record, and each record is legal after
-- those before it
pub record IsHeld (issuer : Setup) (shard : ℕ) (old history : List Entry) : Type 0 where
  pub records : All IsRecord history
  pub since : IsLegalSince issuer shard old history

-- the image is one that a load after this old history takes for a history between the first one and the last
pub record LoadsBetween (issuer : Setup) (shard : ℕ) (old first last : List Entry) (image : List ℕ) : Type 0 where
  pub between : List Entry
  pub from_first : GoesOn first between
  pub to_last : GoesOn between last
  pub left : (table : List TableRow) → IsImageLeft (with_table issuer table) shard old (Some image) between

-- the image is one that a load after this old history takes for a prefix of the history, under any decision table; the
-- prefix has each durable record
pub record LoadsPrefix (issuer : Setup) (shard : ℕ) (old history : List Entry) (durable : ℕ) (image : List ℕ)
    : Type 0 where
  pub prefix : List Entry
  pub to_history : GoesOn prefix history
  pub text : (table : List TableRow) → IsTextOf (with_table issuer table) shard old (Some image) prefix
  pub has_durable : (records : List Entry) → GoesOn records history → length (journal_text records) ≤ durable
      → GoesOn records prefix
