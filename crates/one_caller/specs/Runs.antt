-- A run of a host's calls, from its loading on: what the shards stand for, and what a crash may leave of their stores.
use Rattle.std.specs.Prelude.{◌≡◌, ℕ, List, [], length, slice_get, Option, Some, IfSome, Result}
use Rattle.issuer_base.specs.Stores.{BothTold, Disk, LeavesOnly, MayLeave}
use Rattle.issuer_base.specs.declared.outside.store.Store.{Ghosts}
use Rattle.issuer_base.specs.declared.answer.Answer.{Answer}
use Rattle.issuer_base.specs.declared.answer.Refusal.{Refusal}
use Rattle.card_history.specs.declared.decision.Asked.{Asked}
use Rattle.issuer_base.specs.declared.entry.Entry.{Entry}
use Rattle.issuer_setup.specs.IssuerSetup.{Setup}
use Rattle.journal_rec.specs.RecordText.{journal_text}
use Rattle.journal_store.specs.Images.{IsImage}
use Rattle.shard_book.specs.declared.shard.Shard.{Shard}
use Rattle.shard_book.specs.Grounds.{grounds_now, IsTail}
use Rattle.shard_book.specs.Shards.{disk_in}
use Rattle.shard_book.specs.Histories.{IsImageBetween}
use Rattle.host_loading.specs.Books.{ShardBook}
use Rattle.host_loading.specs.Hosts.{Stand}
use Rattle.one_caller.specs.OwnTails.{IsOwnTail, HaveOwnTails, LeaveTails}
use Rattle.one_caller.specs.Turns.{Run}

-- a store's observable contents are the journal of this book: its bytes are the text of the history and a prefix of the
-- tail, which is the text of a valid successor, or nothing; nothing unless an answer reported that the store failed. A
-- crash now leaves such bytes too
pub record HoldsJournal (issuer : Setup) (shard : ℕ) (book : ShardBook) (bytes : Option (List ℕ)) (disk : Option Disk)
    : Type 0 where
  pub tail : List ℕ
  pub tail_is : IsTail (grounds_now issuer) shard book.history tail
  pub none : book.reported ≡ 0 → tail ≡ []
  pub bytes_are : IfSome bytes (IsImage (journal_text book.history) tail)
  pub leaves :
      IfSome disk (λ disk. (image : List ℕ) → MayLeave disk.now image → IsImage (journal_text book.history) tail image)

-- each store holds the journal of its shard's book
pub record HoldJournals {S : Type 0} (bytes : S → Option (List ℕ)) (disk : S → Option Disk) (issuer : Setup)
    (books : List ShardBook) (stores : List S) : Type 0 where
  pub count_is : length stores ≡ length books
  pub each : (number : ℕ) (book : ShardBook) (store : S)
      → slice_get books number ≡ Some book → slice_get stores number ≡ Some store
      → HoldsJournal issuer number book (bytes store) (disk store)

-- a store's observable contents are the text of the history and a prefix of the record of one of these lines, which was
-- answered that the store failed; or the text alone. A crash now leaves such bytes too
pub record HoldsOwnTail (issuer : Setup) (shard : ℕ) (lines : List (List ℕ)) (answers : List Answer)
    (history : List Entry) (bytes : Option (List ℕ)) (disk : Option Disk) : Type 0 where
  pub tail : List ℕ
  pub own : IsOwnTail issuer shard lines answers history tail
  pub bytes_are : IfSome bytes (IsImage (journal_text history) tail)
  pub leaves :
      IfSome disk (λ disk. (image : List ℕ) → MayLeave disk.now image → IsImage (journal_text history) tail image)

module _ {S : Type 0} {G : Ghosts S} where
  -- whatever a crash since these shards may leave of a store is an image of a history between its shard's first one and
  -- its last
  abbrev pub LeaveBetween : Setup → List ShardBook → List ShardBook → List (Shard S G) → List (Shard S G) → Type 0
  LeaveBetween issuer first last old new =
      (number : ℕ) (before after : Shard S G) (was is : ShardBook)
      → slice_get old number ≡ Some before → slice_get new number ≡ Some after
      → slice_get first number ≡ Some was → slice_get last number ≡ Some is
      → BothTold (LeavesOnly (IsImageBetween issuer number was.history is.history)) (disk_in before) (disk_in after)

  -- what a call leaves that answered this: whatever a crash since its start may leave of a store is the text of its
  -- shard's history before the call, possibly with a torn record after it; and what is in doubt is what was, or the
  -- record that was asked for
  pub record LeavesAnswering (issuer : Setup) (asked : Result Asked Refusal) (answer : Answer)
      (books : List ShardBook) (old new : List (Shard S G)) : Type 0 where
    pub crash : LeaveBetween issuer books books old new
    pub tails : LeaveTails issuer asked answer books old new

  -- so it is of whatever books the shards stood for
  abbrev pub Leaves : Setup → Result Asked Refusal → Answer → List (Shard S G) → List (Shard S G) → Type 0
  Leaves issuer asked answer old new =
      (books : List ShardBook) → Stand issuer old books → LeavesAnswering issuer asked answer books old new

  -- these lines were answered, one after another, since the shards were loaded
  pub record HasRun (issuer : Setup) (loaded : List (Shard S G)) (first : List ShardBook) (lines : List (List ℕ))
      (answers : List Answer) (now : List (Shard S G)) (books : List ShardBook) : Type 0 where
    pub run : Run issuer first lines answers books
    pub stand : Stand issuer now books
    pub leave : LeaveBetween issuer first books loaded now
    pub own_tails : HaveOwnTails issuer lines answers books now
