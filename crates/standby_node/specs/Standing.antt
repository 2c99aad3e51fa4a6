-- What the shards of a standby hold, by the stream that it was fed with, and what a crash may leave of their stores.
use Rattle.std.specs.Prelude.{◌≡◌, ◌⊎◌, ℕ, Bool, ◌||◌, ◌==◌, false, is_ok, MatchBool, List, [], length, take, slice_get, Some}
use Rattle.std.specs.Prelude.{Result, Ok, Err}
use Rattle.issuer_base.specs.Stores.{BothTold, LeavesOnly}
use Rattle.issuer_base.specs.declared.entry.Entry.{Entry}
use Rattle.issuer_base.specs.declared.outside.store.Store.{Ghosts}
use Rattle.issuer_setup.specs.IssuerSetup.{Setup}
use Rattle.journal_rec.specs.RecordText.{text_of}
use Rattle.feed_text.specs.declared.limits.TheConstants.{MOST_FEED_BYTES}
use Rattle.shard_book.specs.declared.shard.Shard.{Shard}
use Rattle.shard_book.specs.Calls.{KeepsCall}
use Rattle.shard_book.specs.Grounds.{grounds_of, IsImageOf}
use Rattle.shard_book.specs.Histories.{GoesOn}
use Rattle.shard_book.specs.Shards.{disk_in, HasTail, IsSettled}
use Rattle.shard_book.specs.Taking.{IsReplicaOf}
use Rattle.host_loading.specs.Hosts.{AreShards}
use Rattle.standby_node.specs.declared.line.FeedFault.{FeedFault}
use Rattle.standby_node.specs.declared.line.FeedFault.TheVariants.{BadFeed, StoreFault}
use Rattle.standby_node.specs.declared.standby.Standby.{Standby}
use Rattle.standby_node.specs.FeedLines.{IsNext}
use Rattle.standby_node.specs.Streams.{StopsAt, StopsBadly, TakesStream, line_count}

-- whether the store of the shard with this number failed
abbrev pub fails_at : Result (Unit {0}) FeedFault → ℕ → Bool
fails_at (Err (StoreFault shard)) number = number == shard
fails_at _ number = false

-- the text of a history that extends the first one and is a prefix of the last, possibly with a torn record after it
pub record IsReplicaBetween (issuer : Setup) (shard : ℕ) (first last : List Entry) (image : List ℕ) : Type 0 where
  pub between : List Entry
  pub from_first : GoesOn first between
  pub to_last : GoesOn between last
  pub image_is : IsImageOf (grounds_of issuer) shard between image

module _ {S : Type 0} {G : Ghosts S} where
  -- the standby's shards
  abbrev pub shards_in : Standby S G → List (Shard S G)
  shards_in node = node.shards.items

  -- whether it can be fed
  abbrev pub live_in : Standby S G → Bool
  live_in node = node.live

  -- the shards hold the histories, each the one with its number: it stands for it, and nothing is in doubt; one that is
  -- in doubt is a replica of it
  pub record Hold (issuer : Setup) (in_doubt : ℕ → Bool) (shards : List (Shard S G)) (histories : List (List Entry))
      : Type 0 where
    pub count_is : length histories ≡ length shards
    pub each : (number : ℕ) (shard : Shard S G) (history : List Entry)
        → slice_get shards number ≡ Some shard → slice_get histories number ≡ Some history
        → MatchBool (in_doubt number) (IsReplicaOf issuer shard history) (IsSettled issuer shard history)

  -- the standby was fed with this stream since it opened: its shards hold the histories that the stream makes of the
  -- opening ones. It has what counts of the stream's unfinished last line, and the number of its whole lines
  pub record HasTaken (issuer : Setup) (in_doubt : ℕ → Bool) (opening : List (List Entry)) (stream : List ℕ)
      (node : Standby S G) (histories : List (List Entry)) : Type 0 where
    pub taken : TakesStream issuer opening stream histories
    pub hold : Hold issuer in_doubt (shards_in node) histories
    pub unfinished : node.line.items ≡ take MOST_FEED_BYTES taken.rest
    pub counted : node.lines ≡ line_count (length taken.lines)

  -- if nothing was in doubt in the store of this shard, then what is now is this record after its history: the store has
  -- the history's text, all of it durable, and after it at most a prefix of the record's
  abbrev pub IsInHand : (ℕ → Bool) → ℕ → List Entry → Entry → List (Shard S G) → Type 0
  IsInHand in_doubt number history entry new =
      in_doubt number ≡ false → (shard : Shard S G) → slice_get new number ≡ Some shard
      → HasTail shard history [] ⊎ HasTail shard history (text_of entry)

  -- the store of this shard failed at the next record of the shard, which is in doubt; the shards hold the histories
  -- that the lines before it make
  pub record StopsAtStore (issuer : Setup) (in_doubt : ℕ → Bool) (opening : List (List Entry)) (stream : List ℕ)
      (shard : ℕ) (new : List (Shard S G)) (histories : List (List Entry)) : Type 0 where
    pub number : ℕ
    pub line : List ℕ
    pub history : List Entry
    pub entry : Entry
    pub stops : StopsAt issuer opening stream number line histories
    pub next : IsNext issuer histories line shard history entry
    pub hold : Hold issuer (λ other. in_doubt other || (other == shard)) new histories
    pub in_hand : IsInHand in_doubt shard history entry new

  -- what the shards hold after a piece, by the stream with it: what the stream makes of the opening histories; what the
  -- lines before its first bad one make; or what those before a record make at which a store failed
  abbrev pub Feeds : Setup → (ℕ → Bool) → List (List Entry) → List ℕ → Result (Unit {0}) FeedFault → Standby S G
      → List (List Entry) → Type 0
  Feeds issuer in_doubt opening stream (Ok done) new after = HasTaken issuer in_doubt opening stream new after
  Feeds issuer in_doubt opening stream (Err (BadFeed number)) new after =
      StopsBadly issuer opening stream number after × Hold issuer in_doubt (shards_in new) after
  Feeds issuer in_doubt opening stream (Err (StoreFault shard)) new after =
      StopsAtStore issuer in_doubt opening stream shard (shards_in new) after

  -- each history is extended, and whatever a crash meanwhile may leave of a store is an image of a history between its
  -- shard's first one and its last
  pub record LeavesBetween (issuer : Setup) (first last : List (List Entry)) (old new : List (Shard S G))
      : Type 0 where
    pub count_is : length last ≡ length first
    pub extended : (number : ℕ) (was is : List Entry)
        → slice_get first number ≡ Some was → slice_get last number ≡ Some is → GoesOn was is
    pub leaves : (number : ℕ) (before after : Shard S G) (was is : List Entry)
        → slice_get old number ≡ Some before → slice_get new number ≡ Some after
        → slice_get first number ≡ Some was → slice_get last number ≡ Some is
        → BothTold (LeavesOnly (IsReplicaBetween issuer number was is)) (disk_in before) (disk_in after)

  -- what is kept of the shards: they are this issuer's, in order, and only of the one whose store failed the fault
  -- counter increases
  pub record KeepsShards (issuer : Setup) (old : List (Shard S G)) (result : Result (Unit {0}) FeedFault)
      (new : List (Shard S G)) : Type 0 where
    pub shards : AreShards issuer new
    pub each : (number : ℕ) (before after : Shard S G)
        → slice_get old number ≡ Some before → slice_get new number ≡ Some after
        → KeepsCall issuer before (fails_at result number) after

  -- and the standby is live exactly if there was no fault
  pub record KeepsNode (issuer : Setup) (old : Standby S G) (result : Result (Unit {0}) FeedFault)
      (new : Standby S G) : Type 0 where
    pub live_is : live_in new ≡ is_ok result
    pub keeps : KeepsShards issuer (shards_in old) result (shards_in new)
