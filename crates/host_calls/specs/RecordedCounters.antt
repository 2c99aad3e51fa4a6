-- The recorded ATCs of the cards of some shards.
use Rattle.std.specs.Prelude.{◌≡◌, ◌↔◌, ℕ, ◌%◌, ◌<◌, ◌≤◌, List, length, slice_get, Some}
use Rattle.counter_bits.specs.CounterSets.{times}
use Rattle.issuer_base.specs.declared.entry.Entry.{Entry}
use Rattle.issuer_base.specs.declared.outside.store.Store.{Ghosts}
use Rattle.issuer_setup.specs.IssuerSetup.{Setup}
use Rattle.shard_book.specs.declared.shard.Shard.{Shard}
use Rattle.shard_book.specs.Recorded.{IsRecorded}
use Rattle.shard_book.specs.Shards.{number_in, StandsFor}

module _ {S : Type 0} {G : Ghosts S} where
  -- there is a shard for each number, in order, and each stands for a history
  pub record AreStanding (issuer : Setup) (shards : List (Shard S G)) : Type 0 where
    pub count_is : length shards ≡ issuer.shards
    pub numbers_are : (number : ℕ) (shard : Shard S G) → slice_get shards number ≡ Some shard → number_in shard ≡ number
    pub stand : (number : ℕ) (shard : Shard S G) → slice_get shards number ≡ Some shard → (history : List Entry)
        × StandsFor issuer shard history

  -- the list has just the recorded ATCs of the cards of the first so many shards, each once, whatever histories the
  -- shards stand for
  pub record AreRecordedOf (issuer : Setup) (shards : List (Shard S G)) (count : ℕ) (list : List (ℕ × ℕ)) : Type 0 where
    pub once : (card counter : ℕ) → times card counter list ≤ 1
    pub home : (card counter : ℕ) → 0 < times card counter list → card % issuer.shards < count
    pub exact : (card counter : ℕ) (shard : Shard S G) (history : List Entry) → card % issuer.shards < count
        → slice_get shards (card % issuer.shards) ≡ Some shard → StandsFor issuer shard history
        → ((0 < times card counter list) ↔ IsRecorded issuer (card % issuer.shards) history card counter)
