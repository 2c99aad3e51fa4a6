-- The room of a shard's store, and how much of it the shard's calls use.
use Rattle.std.specs.Prelude.{◌≡◌, ℕ, ◌+◌, Bool, false, Option, Result, MatchResult}
use Rattle.issuer_base.specs.Stores.{HasRoom}
use Rattle.issuer_base.specs.declared.entry.Entry.{Entry}
use Rattle.issuer_base.specs.declared.entry.Entry.TheVariants.{Queued}
use Rattle.issuer_base.specs.declared.outside.store.Store.{Ghosts}
use Rattle.journal_rec.specs.declared.limits.TheConstants.{MOST_QUEUED_BYTES, MOST_RECORD_BYTES}
use Rattle.shard_book.specs.declared.shard.LoadBack.{LoadBack}
use Rattle.shard_book.specs.declared.shard.Shard.{Shard}
use Rattle.shard_book.specs.Loading.{is_store_failure}
use Rattle.shard_book.specs.Shards.{store_in}

-- how many bytes the text of a record of this kind has at most
abbrev pub most_of : Entry → ℕ
most_of (Queued pan psn command) = MOST_QUEUED_BYTES
most_of _ = MOST_RECORD_BYTES

module _ {S : Type 0} {G : Ghosts S} where
  -- the room of the shard's store is known, and so many more bytes are within it
  abbrev pub Spares : ℕ → Shard S G → Type 0
  Spares bytes shard = HasRoom bytes (G.size (store_in shard)) (G.room (store_in shard))

  -- with room for so many bytes and more the store doesn't fail, and the room for the more remains
  abbrev pub UsesRoom : ℕ → Bool → Shard S G → Shard S G → Type 0
  UsesRoom most failed old new = (spare : ℕ) → Spares (most + spare) old → (failed ≡ false) × Spares spare new

  -- a store that works at its size doesn't fail, and has the same room once its journal is opened
  abbrev pub LoadsWithin : ℕ → Option ℕ → Result (Shard S G) (LoadBack S) → Type 0
  LoadsWithin size room result = (spare : ℕ) → HasRoom spare size room
      → MatchResult result (Spares spare) (λ back. is_store_failure back.fault ≡ false)
