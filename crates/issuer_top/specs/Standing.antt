-- How a run ends that takes a feed into the journals of a standby.
use Rattle.std.specs.Prelude.{◌≡◌, ◌⊎◌, ℕ, ◌<◌, Bool, true, MatchBool, List, [], length, slice_get, slice_index_or, Option, Some}
use Rattle.std.specs.Prelude.{All, IfSome}
use Rattle.issuer_base.specs.Stores.{MayLeave, Moment}
use Rattle.issuer_base.specs.Tells.{Tells}
use Rattle.issuer_base.specs.declared.entry.Entry.{Entry}
use Rattle.answer_text.specs.StopText.{stop_text}
use Rattle.answer_text.specs.declared.stop_line.Stop.{Stop}
use Rattle.answer_text.specs.declared.stop_line.Stop.TheVariants.{ReadFault as ReadStop, StoreFault as StoreStop, NoMemory}
use Rattle.answer_text.specs.declared.stop_line.Stop.TheVariants.{TooLong as LongStop, BadFeed as FeedStop}
use Rattle.issuer_base.specs.CardNames.{CardName}
use Rattle.card_history.specs.OneReply.{IsOncePerCounter}
use Rattle.card_history.specs.ScriptOrder.{AreInOrder}
use Rattle.issuer_setup.specs.IssuerSetup.{Setup}
use Rattle.line_reader.specs.Lines.{lines}
use Rattle.line_reader.specs.Reading.{IsWithinLimits}
use Rattle.standby_node.specs.Streams.{StopsBadly}
use Rattle.journal_rec.specs.Record.{IsRecord}
use Rattle.journal_rec.specs.RecordText.{journal_text, text_of}
use Rattle.journal_store.specs.Images.{IsImage}
use Rattle.shard_book.specs.Grounds.{IsTail, grounds_of}
use Rattle.shard_book.specs.Histories.{GoesOn}
use Rattle.shard_book.specs.Shards.{IsLoadImage}
use Rattle.host_loading.specs.Books.{ShardBook, histories_of}
use Rattle.command_line.specs.Command.{IsStandby}
use Rattle.line_blocks.specs.Answered.{WasRead}
use Rattle.standby_node.specs.Primary.{AreLegal}
use Rattle.standby_node.specs.Standing.{IsReplicaBetween}
use Rattle.line_serving.specs.Following.{TakesFeed, counts_text, in_doubt_after}
use Rattle.line_serving.specs.declared.follower.Followed.{Followed}
use Rattle.line_serving.specs.declared.follower.Followed.TheVariants.{All as FollowsAll, ReadFault, WriteFault, TooLong, BadFeed}
use Rattle.line_serving.specs.declared.follower.Followed.TheVariants.{StoreFault}
use Rattle.desk_host.specs.Journals.{old_name, journal_name}
use Rattle.desk_host.specs.Kept.{WasJournal}
use Rattle.desk_host.specs.Lawful.{IsLawful}
use Rattle.desk_host.specs.Left.{CrashSince, StaysAsOpened}
use Rattle.desk_host.specs.SeenStores.{Logged, SeenStore, SeenJournals}
use Rattle.desk_host.specs.Worlds.{HaveSafeWorlds}
use Rattle.issuer_top.specs.Opened.{OpenedConfigOnly, OpenedBothInputs, FailsToOpen}
use Rattle.issuer_top.specs.InOrder.{IsInOrder}
use Rattle.issuer_top.specs.Opening.{SaysIssuer}
use Rattle.issuer_top.specs.ReadAgain.{StayLoaded, FailOnlyAt, none_fails}
use Rattle.issuer_top.specs.Seen.{Seen, SeenInput}
use Rattle.issuer_top.specs.Stops.{StopsBefore}
use Rattle.issuer_top.specs.Ways.{Ways, Runs}

-- ---- the journals

-- what a crash may leave since the journal was opened at this moment: an image of its load, after the old history for
-- the first one; or the text of a history between the first and the last, possibly with a torn record after it
abbrev pub IsReplicaImage : Setup → ℕ → List Entry → List Entry → List Entry → Moment → List ℕ → Type 0
IsReplicaImage issuer shard old first last opened image =
    IsLoadImage old first opened image ⊎ IsReplicaBetween issuer shard first last image

-- what may follow the text of the history with this number after a feed: nothing, or a prefix of the text of the record
-- at which the store of the shard failed
abbrev pub MayFollow : (issuer : Setup) (opening : List (List Entry)) (file read : List ℕ) (followed : Followed)
    (histories : List (List Entry)) → TakesFeed issuer opening file read followed histories → ℕ → List ℕ → Type 0
MayFollow issuer opening file read FollowsAll histories takes number tail = tail ≡ []
MayFollow issuer opening file read WriteFault histories takes number tail = tail ≡ []
MayFollow issuer opening file read ReadFault histories takes number tail = tail ≡ []
MayFollow issuer opening file read (TooLong line) histories takes number tail = tail ≡ []
MayFollow issuer opening file read (BadFeed line) histories takes number tail = tail ≡ []
MayFollow issuer opening file read (StoreFault shard) histories takes number tail =
    (tail ≡ []) ⊎ ((number ≡ shard) × (tail ≡ text_of takes.entry))

-- the journal of a shard was that of the first book, and is the text of this history, which extends the book's. If its
-- next record is in doubt, its store counted a fault, and a prefix of the text of such a valid successor may follow. A
-- crash now leaves such bytes too. The old journal stays as it was
pub record KeepsReplica (issuer : Setup) (shard : ℕ) (old_held held : Option (List ℕ)) (first : ShardBook)
    (history : List Entry) (in_doubt : Bool) (Follows : List ℕ → Type 0) (old_store store : SeenStore) : Type 0 where
  pub old : List Entry
  pub was : WasJournal issuer shard old_held held old first
  pub old_stays : StaysAsOpened old_held old_store
  pub old_no_fault : old_store.faults ≡ 0
  pub extended : GoesOn first.history history
  pub tail : List ℕ
  pub tail_is : IsTail (grounds_of issuer) shard history tail
  pub tail_of : Follows tail
  pub bytes_are : IfSome store.bytes (IsImage (journal_text history) tail)
  pub doubted : MatchBool in_doubt (0 < store.faults) ((tail ≡ []) × (store.faults ≡ 0))
  pub crash_now :
      IfSome store.disk (λ disk. (image : List ℕ) → MayLeave disk.now image → IsImage (journal_text history) tail image)
  pub crash_since : IfSome store.disk (CrashSince (IsReplicaImage issuer shard old first.history history) held)

-- the journal of each shard, of which the desk told by the name that the words give, was that of its first book and is
-- that of its history
pub record KeepReplicas (issuer : Setup) (prefix : List ℕ) (logs : Logged) (journals : SeenJournals) (first : List ShardBook)
    (histories : List (List Entry)) (in_doubt : ℕ → Bool) (Follows : ℕ → List ℕ → Type 0) : Type 0 where
  pub olds_are : length journals.olds ≡ issuer.shards
  pub stores_are : length journals.stores ≡ issuer.shards
  pub first_are : length first ≡ issuer.shards
  pub histories_are : length histories ≡ issuer.shards
  pub each : (shard : ℕ) (was : ShardBook) (history : List Entry) (old store : SeenStore)
      → slice_get first shard ≡ Some was → slice_get histories shard ≡ Some history
      → slice_get journals.olds shard ≡ Some old → slice_get journals.stores shard ≡ Some store
      → KeepsReplica issuer shard (logs (old_name prefix shard)) (logs (journal_name prefix shard)) was history
      (in_doubt shard) (Follows shard) old store

-- the journals that the desk told of were those of these books
pub record WereJournals (issuer : Setup) (prefix : List ℕ) (logs : Logged) (first : List ShardBook) : Type 0 where
  pub count_is : length first ≡ issuer.shards
  pub each : (shard : ℕ) (was : ShardBook) → slice_get first shard ≡ Some was
      → (old : List Entry) × WasJournal issuer shard (logs (old_name prefix shard))
      (logs (journal_name prefix shard)) old
      was

-- the journals were loaded for a standby, and are as loading left them; no store failed
pub record LoadsToStandBy (config journal : List ℕ) (seen : Seen) : Type 0 where
  pub issuer : Setup
  pub said : SaysIssuer seen config issuer
  pub stay : StayLoaded issuer journal seen.desk.logs seen.journals
  pub counted : FailOnlyAt seen.journals.stores none_fails

-- what is sure of the histories that a feed made: each entry is a record that is legal after those before it, under
-- whatever decision table it was decided
pub record AreLawfulReplicas (issuer : Setup) (histories : List (List Entry)) : Type 0 where
  pub legal : AreLegal issuer histories
  pub records : (shard : ℕ) (history : List Entry) → slice_get histories shard ≡ Some history → All IsRecord history
  -- no counter of a card was decided twice
  pub once : IsOncePerCounter histories
  -- each card's commands went with replies in the order of its queue
  pub in_order : (card : CardName) (shard : ℕ) → AreInOrder card (slice_index_or histories shard [])
  -- every world of the issuer is safe, and one has these histories
  pub worlds : HaveSafeWorlds issuer histories

-- the feed was taken, up to this end: what it makes of the histories that were loaded is what the journals hold
pub record StandsBy (followed : Followed) (config feed journal : List ℕ) (seen : Seen) : Type 0 where
  pub issuer : Setup
  pub said : SaysIssuer seen config issuer
  pub opened : OpenedBothInputs seen
  pub input : SeenInput
  pub input_is : seen.requests ≡ Some input
  pub file : List ℕ
  pub read : List ℕ
  pub held : Tells (seen.desk.tells feed) (Some file)
  pub was_read : WasRead file read input.left
  pub first : List ShardBook
  pub lawful : IsLawful issuer first first
  pub histories : List (List Entry)
  pub takes : TakesFeed issuer (histories_of first) file read followed histories
  pub last_lawful : AreLawfulReplicas issuer histories
  pub kept :
      KeepReplicas issuer journal seen.desk.logs seen.journals first histories (in_doubt_after followed)
      (MayFollow issuer (histories_of first) file read followed histories takes)

-- ---- the ways to end

-- status 0: the feed was read to its end, and the shards' numbers of records were written; at status 4 they were due
pub record HasStoodBy (followed : Followed) (config feed journal : List ℕ) (seen : Seen) (text : List ℕ)
    : Type 0 where
  pub stands : StandsBy followed config feed journal seen
  pub text_is : text ≡ counts_text stands.histories

-- status 3: the desk failed at the feed's name, once the journals were loaded
pub record CannotOpenFeed (config feed journal : List ℕ) (seen : Seen) (text : List ℕ) : Type 0 where
  pub loaded : LoadsToStandBy config journal seen
  pub fails : FailsToOpen seen feed true
  pub last : text ≡ stop_text ReadStop

-- status 3: the feed failed while it was read, and the whole lines of what was read were taken
pub record CannotReadFeed (config feed journal : List ℕ) (seen : Seen) (text : List ℕ) : Type 0 where
  pub stands : StandsBy ReadFault config feed journal seen
  pub failed : 0 < stands.input.faults
  pub last : text ≡ stop_text ReadStop

-- status 5: the store of this shard failed at its next record; the lines before that record's were taken
pub record CannotTake (shard : ℕ) (config feed journal : List ℕ) (seen : Seen) (text : List ℕ) : Type 0 where
  pub stands : StandsBy (StoreFault shard) config feed journal seen
  pub last : text ≡ stop_text (StoreStop shard)

-- status 7: no memory was left for a standby, once the journals were loaded and before the feed was opened
pub record CannotStandBy (config journal : List ℕ) (seen : Seen) (text : List ℕ) : Type 0 where
  pub loaded : LoadsToStandBy config journal seen
  pub opened : OpenedConfigOnly seen
  pub last : text ≡ stop_text NoMemory

-- status 8: a byte of the feed past a limit was read, in the line of this number, and the lines before were taken
pub record IsFeedTooLong (number : ℕ) (config feed journal : List ℕ) (seen : Seen) (text : List ℕ) : Type 0 where
  pub stands : StandsBy (TooLong number) config feed journal seen
  pub last : text ≡ stop_text (LongStop number)

-- status 11: the line of this number is the first bad one of the feed, and the lines before were taken
pub record HasBadLine (number : ℕ) (config feed journal : List ℕ) (seen : Seen) (text : List ℕ) : Type 0 where
  pub stands : StandsBy (BadFeed number) config feed journal seen
  pub last : text ≡ stop_text (FeedStop number)

-- how a run stops once its journals were loaded
abbrev pub StopsToStandBy : List ℕ → List ℕ → List ℕ → Seen → Stop → List ℕ → Type 0
StopsToStandBy config feed journal seen ReadStop text =
    CannotOpenFeed config feed journal seen text ⊎ CannotReadFeed config feed journal seen text
StopsToStandBy config feed journal seen (StoreStop shard) text = CannotTake shard config feed journal seen text
StopsToStandBy config feed journal seen NoMemory text = CannotStandBy config journal seen text
StopsToStandBy config feed journal seen (LongStop number) text = IsFeedTooLong number config feed journal seen text
StopsToStandBy config feed journal seen (FeedStop number) text = HasBadLine number config feed journal seen text
StopsToStandBy config feed journal seen stop text = ⊥

-- what was due at status 4 are the shards' numbers of records
abbrev pub ways_to_stand_by : List ℕ → List ℕ → List ℕ → Seen → Ways
ways_to_stand_by config feed journal seen = record {
  IsDone = HasStoodBy FollowsAll config feed journal seen;
  Stops = λ stop text. StopsBefore config journal seen stop text ⊎ StopsToStandBy config feed journal seen stop text;
  IsDue = HasStoodBy WriteFault config feed journal seen;
}

-- ---- the command

-- all is in order, and the desk tells of a feed within the limits that has no bad line
pub record StandsInOrder (config feed journal : List ℕ) (seen : Seen) : Type 0 where
  pub in_order : IsInOrder config journal seen
  pub file : List ℕ
  pub feed_held : seen.desk.tells feed ≡ Some (Some file)
  pub within : IsWithinLimits (length (lines file)) (length file)
  pub none_bad : (first : List ShardBook) (number : ℕ) (histories : List (List Entry))
      → WereJournals in_order.issuer journal seen.desk.logs first
      → StopsBadly in_order.issuer (histories_of first) file number histories → ⊥

-- if the words are the command to take a feed, with these names, the run ends in one of its ways
abbrev pub RunsStandby : List (List ℕ) → ℕ → Seen → Type 0
RunsStandby words status seen = (config feed journal : List ℕ) → IsStandby words config feed journal
    → Runs (ways_to_stand_by config feed journal seen) (StandsInOrder config feed journal seen) status seen
