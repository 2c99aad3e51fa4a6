-- The shards of a host, and the books that they stand for.
use Rattle.std.specs.Prelude.{◌≡◌, ℕ, List, [], length, slice_get, Some}
use Rattle.issuer_base.specs.declared.outside.store.Store.{Ghosts}
use Rattle.issuer_setup.specs.IssuerSetup.{Setup}
use Rattle.journal_rec.specs.RecordText.{journal_text}
use Rattle.journal_store.specs.Holding.{Holds}
use Rattle.shard_book.specs.declared.shard.Shard.{Shard}
use Rattle.shard_book.specs.Shards.{number_in, IsUnder, faults_in, reported_in, IsUndoubted, StandsFor}
use Rattle.host_loading.specs.Books.{ShardBook}

module _ {S : Type 0} {G : Ghosts S} where
  -- there is a shard of this issuer for each number, in order; nothing is in doubt in one before an answer reported
  -- that its store failed
  pub record AreShards (issuer : Setup) (shards : List (Shard S G)) : Type 0 where
    pub count_is : length shards ≡ issuer.shards
    pub numbers_are : (number : ℕ) (shard : Shard S G) → slice_get shards number ≡ Some shard → number_in shard ≡ number
    pub under : (number : ℕ) (shard : Shard S G) → slice_get shards number ≡ Some shard → IsUnder issuer shard
    pub undoubted : (number : ℕ) (shard : Shard S G) → slice_get shards number ≡ Some shard → IsUndoubted shard

  -- the shard stands for the book: for its history, and with these counts; nothing is in doubt unless an answer
  -- reported that its store failed
  pub record StandsForBook (issuer : Setup) (shard : Shard S G) (book : ShardBook) : Type 0 where
    pub stands : StandsFor issuer shard book.history
    pub faults_are : faults_in shard ≡ book.faults
    pub reported_are : reported_in shard ≡ book.reported
    pub settled : book.reported ≡ 0 → Holds shard.journal (length book.history) (journal_text book.history) []

  -- the shards stand for the books, each for the one with its number
  pub record Stand (issuer : Setup) (shards : List (Shard S G)) (books : List ShardBook) : Type 0 where
    pub count_is : length books ≡ length shards
    pub each : (number : ℕ) (shard : Shard S G) (book : ShardBook)
        → slice_get shards number ≡ Some shard → slice_get books number ≡ Some book
        → StandsForBook issuer shard book
