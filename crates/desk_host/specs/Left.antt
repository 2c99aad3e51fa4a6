-- What a run that comes to no host leaves of the journals that it opened.
use Rattle.std.specs.Prelude.{◌≡◌, ◌⊎◌, ◌≤◌, ℕ, List, ◌∷◌, ◌++◌, length, slice_get, Option, Some, IfSome, All}
use Rattle.issuer_base.specs.Stores.{Disk, MayLeave, Moment, LeavesSince, timeline}
use Rattle.issuer_base.specs.Tells.{Tells}
use Rattle.issuer_base.specs.declared.entry.Entry.{Entry}
use Rattle.journal_rec.specs.Record.{IsRecord}
use Rattle.journal_rec.specs.RecordText.{journal_text, IsUnbroken}
use Rattle.shard_book.specs.Shards.{IsCutToText}
use Rattle.shard_book.specs.Versions.{HasText, IsPartOf}
use Rattle.shard_book.specs.declared.replay.Version.TheVariants.{One}
use Rattle.desk_host.specs.SeenStores.{Logged, SeenStore, SeenJournals}
use Rattle.desk_host.specs.Journals.{old_name, journal_name}

-- the disk has been as it was opened, and then maybe at more moments: whatever a crash at any of them may leave has P,
-- which goes by the first moment
pub record CrashSince (P : Moment → List ℕ → Type 0) (held : Option (List ℕ)) (disk : Disk) : Type 0 where
  pub opened : Moment
  pub later : List Moment
  pub moments : timeline disk ≡ opened ∷ later
  pub opened_is : Tells held opened.bytes
  pub leaves : LeavesSince (P opened) 0 disk

-- an old journal stays as it was opened: its bytes are those that the desk told, and a crash since then leaves what it
-- might leave then
pub record StaysAsOpened (held : Option (List ℕ)) (store : SeenStore) : Type 0 where
  pub bytes_are : IfSome held (λ told. store.bytes ≡ Some told)
  pub crash : IfSome store.disk (CrashSince MayLeave held)

-- the bytes are those that were, but for a rest without a newline: all whole lines stay
pub record KeepsLines (was is : List ℕ) : Type 0 where
  pub rest : List ℕ
  pub was_is : was ≡ is ++ rest
  pub unbroken : IsUnbroken rest

-- the migration of the old journal's records goes on: the bytes were a prefix of their text in a journal of version 2,
-- and so are these
pub record GoesOnMigrating (old_held : Option (List ℕ)) (was is : List ℕ) : Type 0 where
  pub old : List Entry
  pub records : All IsRecord old
  pub old_text_is : IfSome old_held (HasText One old)
  pub was_part : IsPartOf (journal_text old) was
  pub is_part : IsPartOf (journal_text old) is

-- an image that a crash may leave at this moment, or a prefix of the text that a migration goes on with, or the text of
-- the moment's records alone
abbrev pub IsSparedImage : Option (List ℕ) → Moment → List ℕ → Type 0
IsSparedImage old_held moment image =
    MayLeave moment image
    ⊎ (GoesOnMigrating old_held moment.bytes image ⊎ IsCutToText moment.bytes image)

-- all whole lines of the journal stay, and a migration may have gone on; a crash since it was opened leaves what it
-- might leave then, a prefix of the migrated text, or the text of its records alone
pub record LeavesJournal (old_held held : Option (List ℕ)) (store : SeenStore) : Type 0 where
  pub was : List ℕ
  pub is : List ℕ
  pub held_is : Tells held was
  pub bytes_are : Tells store.bytes is
  pub lines : KeepsLines was is ⊎ (GoesOnMigrating old_held was is × (length was ≤ length is))
  pub crash : IfSome store.disk (CrashSince (IsSparedImage old_held) held)

-- each old journal that was opened stays as it was, and all whole lines of each journal stay; they are those of the
-- names that the words give
pub record LeaveJournals (prefix : List ℕ) (logs : Logged) (journals : SeenJournals) : Type 0 where
  pub olds : (shard : ℕ) (store : SeenStore) → slice_get journals.olds shard ≡ Some store
      → StaysAsOpened (logs (old_name prefix shard)) store
  pub stores : (shard : ℕ) (store : SeenStore) → slice_get journals.stores shard ≡ Some store
      → LeavesJournal (logs (old_name prefix shard)) (logs (journal_name prefix shard)) store
