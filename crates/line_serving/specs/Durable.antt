-- Answers whose records are durable before they are written.
use Rattle.std.specs.Prelude.{◌≡◌, ℕ, ◌+◌, List, ◌++◌, take, slice_get, Option, None, Some, IfSome, All}
use Rattle.std.specs.List.{flat_map}
use Rattle.issuer_base.specs.CardNames.{CardName}
use Rattle.issuer_base.specs.Stores.{Disk, Moment}
use Rattle.issuer_base.specs.declared.answer.Answer.{Answer}
use Rattle.issuer_base.specs.declared.answer.Answer.TheVariants.{Fresh, Kept, Queued, Set, Refused}
use Rattle.issuer_base.specs.declared.command.Command.{Command}
use Rattle.issuer_base.specs.declared.entry.Entry.{Entry}
use Rattle.issuer_base.specs.declared.entry.Entry.TheVariants.{Decided, Queued as IsQueued, Status as IsStatus}
use Rattle.issuer_base.specs.declared.outside.store.Store.{Ghosts}
use Rattle.issuer_base.specs.declared.request.Request.{Request}
use Rattle.issuer_setup.specs.IssuerSetup.{Setup}
use Rattle.journal_rec.specs.RecordText.{journal_text}
use Rattle.answer_text.specs.AnswerText.{printed}
use Rattle.shard_book.specs.declared.shard.Shard.{Shard}
use Rattle.shard_book.specs.Shards.{disk_in, StandsFor}
use Rattle.host_loading.specs.Books.{ShardBook}
use Rattle.host_loading.specs.Hosts.{Stand}
use Rattle.one_caller.specs.declared.solo.Solo.{Solo}
use Rattle.turn_book.specs.declared.logs.Log.{Log}
use Rattle.turn_book.specs.Logs.{items_at, IsFront}
use Rattle.turn_book.specs.Seats.{view_of}
use Rattle.shared_shards.specs.declared.logs.LogItem.{LogItem}
use Rattle.shared_shards.specs.declared.logs.LogHead.{LogHead}
use Rattle.shared_shards.specs.ShardLogs.{records_of, StandsForLog}
use Rattle.shared_laws.specs.Explained.{history_at}
use Rattle.shared_laws.specs.Shares.{history_in}
use Rattle.shared_callers.specs.Lanes.{LanesServe}
use Rattle.shared_callers.specs.declared.lane.Lane.{Lane}
use Rattle.shared_callers.specs.declared.lanes.Lanes.{Lanes}

-- ---- the record of an answer

-- the shard and the index of an answer's record; a refusal has none
abbrev pub record_in : Answer → Option (ℕ × ℕ)
record_in (Fresh shard place reply) = Some (shard, place)
record_in (Kept shard place reply) = Some (shard, place)
record_in (Queued shard place) = Some (shard, place)
record_in (Set shard place) = Some (shard, place)
record_in (Refused refusal) = None

-- the entry is the answer's record: a decision with its reply, a command or a status
abbrev pub IsRecordOf : Answer → Entry → Type 0
IsRecordOf (Fresh shard place reply) entry = (request : Request) × (entry ≡ Decided request reply)
IsRecordOf (Kept shard place reply) entry = (request : Request) × (entry ≡ Decided request reply)
IsRecordOf (Queued shard place) entry =
    (card : CardName) × (command : Command) × (entry ≡ IsQueued card.pan card.psn command)
IsRecordOf (Set shard place) entry = (card : CardName) × (status : ℕ) × (entry ≡ IsStatus card.pan card.psn status)
IsRecordOf (Refused refusal) entry = ⊥

-- the history has the answer's record at this index
pub record IsRecordedAt (history : List Entry) (place : ℕ) (answer : Answer) : Type 0 where
  pub entry : Entry
  pub entry_is : slice_get history place ≡ Some entry
  pub its : IsRecordOf answer entry

-- if the answer has a record, the history of its shard has it at its index
abbrev pub IsRecordedIn : (ℕ → List Entry) → Answer → Type 0
IsRecordedIn histories answer = IfSome (record_in answer) (λ named. IsRecordedAt (histories named.0) named.1 answer)

-- ---- that it is durable

-- the durable bytes begin with this text
abbrev pub HasDurable : List ℕ → Moment → Type 0
HasDurable text moment = (rest : List ℕ) × (take moment.safe moment.bytes ≡ text ++ rest)

-- the history has the answer's record at this index; if the disk is observable, its durable bytes begin with the text of
-- the history up to that record and with it
pub record IsDurableAt (disk : Option Disk) (history : List Entry) (place : ℕ) (answer : Answer) : Type 0 where
  pub recorded : IsRecordedAt history place answer
  pub durable : IfSome disk (λ disk. HasDurable (journal_text (take (place + 1) history)) disk.now)

-- ---- one caller

module _ {S : Type 0} {G : Ghosts S} where
  -- if the answer has a record, its shard stands for a history that has it, and it is durable in the shard's store
  abbrev pub IsDurable : Setup → List (Shard S G) → Answer → Type 0
  IsDurable issuer shards answer = IfSome (record_in answer) (λ named.
      (shard : Shard S G) × (history : List Entry) × (slice_get shards named.0 ≡ Some shard)
      × StandsFor issuer shard history × IsDurableAt (disk_in shard) history named.1 answer)

  -- the text is that of answers, and the record of each is durable
  pub record IsDurableText (host : Solo S G) (text : List ℕ) : Type 0 where
    pub answers : List Answer
    pub text_is : text ≡ flat_map printed answers
    pub durable : All (λ answer. IsDurable host.issuer host.shards.items answer) answers

  -- the text is that of answers, and the histories that the shards stand for have the record of each
  pub record IsRecordedText (host : Solo S G) (text : List ℕ) : Type 0 where
    pub books : List ShardBook
    pub stand : Stand host.issuer host.shards.items books
    pub answers : List Answer
    pub text_is : text ≡ flat_map printed answers
    pub recorded : All (λ answer. IsRecordedIn (history_in books) answer) answers

-- ---- several callers

module _ {S : Type 0} (G : Ghosts S) where
  -- if the answer has a record, the logs that were seen have it, and it is durable in each shard that stands for a log
  -- that extends the one that was seen
  abbrev pub IsDurableSince : List (Log LogItem LogHead) → Answer → Type 0
  IsDurableSince seen answer = IfSome (record_in answer) (λ named.
      IsRecordedAt (history_at seen named.0) named.1 answer
      × ((shard : Shard S G) (head : LogHead) (items : List LogItem) → IsFront (items_at seen named.0) items
      → StandsForLog shard head items → IsDurableAt (disk_in shard) (records_of items) named.1 answer))

module _ {S : Type 0} {G : Ghosts S} where
  -- the answer's record is durable by the logs that one of the callers has seen
  pub record IsDurableBy (lanes : Lanes S G) (answer : Answer) : Type 0 where
    pub number : ℕ
    pub lane : Lane
    pub lane_is : slice_get lanes.lanes.items number ≡ Some lane
    pub durable : IsDurableSince G (view_of lane.pass.turns).seen answer

  -- the callers answered these lines, and the record of each answer that is due is durable
  pub record OwesDurable (lanes : Lanes S G) : Type 0 where
    pub lines : List (List ℕ)
    pub answers : List Answer
    pub due : List Answer
    pub waiting : List (List ℕ)
    pub served : LanesServe lanes lines answers due waiting
    pub durable : All (λ answer. IsDurableBy lanes answer) due
