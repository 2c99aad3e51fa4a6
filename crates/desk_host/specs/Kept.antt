-- What a run makes of the journals: what they were, what they are, and what a crash since they were opened may leave.
use Rattle.std.specs.Prelude.{◌≡◌, ◌⊎◌, ℕ, List, length, slice_get, Option, Some, IfSome}
use Rattle.issuer_base.specs.Stores.{Disk, MayLeave, Moment}
use Rattle.issuer_base.specs.declared.answer.Answer.{Answer}
use Rattle.issuer_base.specs.declared.entry.Entry.{Entry}
use Rattle.issuer_setup.specs.IssuerSetup.{Setup}
use Rattle.shard_book.specs.Grounds.{grounds_now, IsImageOf}
use Rattle.shard_book.specs.Histories.{IsImageBetween}
use Rattle.shard_book.specs.Shards.{IsJournalOf, IsLoadImage}
use Rattle.host_loading.specs.Books.{ShardBook}
use Rattle.one_caller.specs.Runs.{HoldsJournal, HoldsOwnTail}
use Rattle.desk_host.specs.SeenStores.{Logged, SeenStore, SeenJournals}
use Rattle.desk_host.specs.Journals.{old_name, journal_name}
use Rattle.desk_host.specs.Left.{CrashSince, StaysAsOpened}

-- the old journal was the text of this old history, and the journal that of the book's history, or a prefix of the text
-- that the old one is migrated to; a torn last line may have followed in each. No fault of its store was counted or
-- told
pub record WasJournal (issuer : Setup) (shard : ℕ) (old_held held : Option (List ℕ)) (old : List Entry) (book : ShardBook)
    : Type 0 where
  pub journal_is : IsJournalOf issuer shard old_held held old book.history
  pub no_fault : book.faults ≡ 0
  pub none_reported : book.reported ≡ 0

-- a crash that comes now leaves an image of the history
pub record LeavesNow (issuer : Setup) (shard : ℕ) (history : List Entry) (disk : Disk) : Type 0 where
  pub leaves : (image : List ℕ) → MayLeave disk.now image → IsImageOf (grounds_now issuer) shard history image

-- what a crash may leave since the journal was opened at this moment: an image of its load, after the old history for
-- the first one, or an image of a history between the first and the last
abbrev pub IsRunImage : Setup → ℕ → List Entry → List Entry → List Entry → Moment → List ℕ → Type 0
IsRunImage issuer shard old first last opened image =
    IsLoadImage old first opened image ⊎ IsImageBetween issuer shard first last image

-- the journal of a shard was that of the first book and is that of the last; the old journal stays as it was
pub record KeepsJournal (issuer : Setup) (shard : ℕ) (old_held held : Option (List ℕ)) (first last : ShardBook)
    (old_store store : SeenStore) : Type 0 where
  pub old : List Entry
  pub was : WasJournal issuer shard old_held held old first
  pub old_stays : StaysAsOpened old_held old_store
  pub old_no_fault : old_store.faults ≡ 0
  pub holds : HoldsJournal issuer shard last store.bytes store.disk
  pub faults_are : store.faults ≡ last.faults
  pub crash_now : IfSome store.disk (LeavesNow issuer shard last.history)
  pub crash_since : IfSome store.disk (CrashSince (IsRunImage issuer shard old first.history last.history) held)

-- the journal of each shard, of which the desk told by the name that the words give, was that of its first book and is
-- that of its last; each old journal stays as it was
pub record KeepJournals (issuer : Setup) (prefix : List ℕ) (logs : Logged) (journals : SeenJournals)
    (first last : List ShardBook) : Type 0 where
  pub olds_are : length journals.olds ≡ issuer.shards
  pub stores_are : length journals.stores ≡ issuer.shards
  pub first_are : length first ≡ issuer.shards
  pub last_are : length last ≡ issuer.shards
  pub each : (shard : ℕ) (was is : ShardBook) (old store : SeenStore)
      → slice_get first shard ≡ Some was → slice_get last shard ≡ Some is
      → slice_get journals.olds shard ≡ Some old → slice_get journals.stores shard ≡ Some store
      → KeepsJournal issuer shard (logs (old_name prefix shard)) (logs (journal_name prefix shard)) was is old store

-- the journal of each shard has the text of its last history and nothing more, or a prefix of the record of one of these
-- lines, which was answered that the store failed
abbrev pub HoldOwnTails : Setup → List (List ℕ) → List Answer → SeenJournals → List ShardBook → Type 0
HoldOwnTails issuer lines answers journals last =
    (shard : ℕ) (is : ShardBook) (store : SeenStore)
    → slice_get last shard ≡ Some is → slice_get journals.stores shard ≡ Some store
    → HoldsOwnTail issuer shard lines answers is.history store.bytes store.disk
