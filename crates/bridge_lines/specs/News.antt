-- What a node tells, and the lines that tell it.
use Rattle.std.specs.Prelude.{◌≡◌, ℕ, zero, suc, ◌<◌, ◌≤◌, true, List, [], ◌∷◌, ◌++◌, length, codes, decimal, Option, Some, None}
use Rattle.one_history.specs.Streams.{Word, Indexed}
use Rattle.bridge_rule.specs.declared.limits.TheConstants.{LOGS, INDEX_END}
use Rattle.bridge_rule.specs.declared.held.Place.{Place}
use Rattle.bridge_rule.specs.Bridges.{indexed, ArePlaced}
use Rattle.bridge_lines.specs.declared.event.Event.{Event}
use Rattle.bridge_lines.specs.declared.event.Event.TheVariants as of
use Rattle.bridge_lines.specs.declared.message.Message.{Message}
use Rattle.bridge_lines.specs.declared.message.Message.TheVariants as says
use Rattle.bridge_lines.specs.declared.limits.TheConstants.{MAX_RECORDS, NUMBER_END}
use Rattle.bridge_lines.specs.Parts.{is_name, lacks}
use Rattle.bridge_lines.specs.Texts.{Said, Says, IsSaidRecord, ended, feed_line}
use Rattle.bridge_lines.specs.Messages.{said_of}

-- what a node tells; a message by what it says, if it says something
pub data News : Type 0 where
  HasRecord : (one : Indexed) → News
  AllTold : News
  IsConnected : (word : Word) → News
  IsLost : News
  IsCalled : (name : Word) → News
  ReadsMessage : (message : Option Said) → News
  HostLoaded : News
  HostEnded : News
  HostAnswered : (number : ℕ) → (place : Option Place) → News
  NothingCame : News

-- what an event tells
abbrev pub news_of : Event → News
news_of (of.Has one) = HasRecord (indexed one)
news_of of.Told = AllTold
news_of (of.Connected word) = IsConnected word.items
news_of of.Lost = IsLost
news_of (of.Called name) = IsCalled name.items
news_of (of.Message message) = ReadsMessage (said_of message)
news_of of.Loaded = HostLoaded
news_of of.Ended = HostEnded
news_of (of.Answered answered) = HostAnswered answered.number answered.place
news_of of.Again = NothingCame

-- a text is so many lines, each with its newline
abbrev pub HasLines : ℕ → List ℕ → Type 0
HasLines zero text = text ≡ []
HasLines (suc count) text =
    (line : List ℕ) × (rest : List ℕ) × (lacks 10 line ≡ true) × (text ≡ line ++ 10 ∷ rest) × HasLines count rest

-- what a text means: the message that it says, or nothing
abbrev pub Means : List ℕ → Option Said → Type 0
Means text None = (said : Said) → Says text said → ⊥
Means text (Some said) = Says text said

-- the line `message COUNT`, and so many lines, which mean this
pub record GivesText (turn : List ℕ) (message : Option Said) : Type 0 where
  pub text : List ℕ
  pub count : ℕ
  pub is_number : count < NUMBER_END
  pub has_lines : HasLines count text
  pub turn_is : turn ≡ (codes "message" ++ 32 ∷ decimal count) ++ 10 ∷ text
  pub means : Means text message

-- a line of a word and a name
pub record GivesName (turn word name : List ℕ) : Type 0 where
  pub named : is_name name ≡ true
  pub turn_is : turn ≡ ended (word ++ 32 ∷ name)

-- an answer that names no record
pub record GivesAnswer (turn : List ℕ) (number : ℕ) : Type 0 where
  pub is_number : number < NUMBER_END
  pub turn_is : turn ≡ ended (codes "answered" ++ 32 ∷ decimal number)

-- an answer that names the record at this place
pub record GivesPlace (turn : List ℕ) (number : ℕ) (place : Place) : Type 0 where
  pub is_number : number < NUMBER_END
  pub is_shard : place.shard < LOGS
  pub is_index : place.index < NUMBER_END
  pub turn_is : turn ≡ ended (codes "answered" ++ 32 ∷ (decimal number ++ 32 ∷ (decimal place.shard ++ 32 ∷ decimal place.index)))

abbrev pub GivesAnswered : List ℕ → ℕ → Option Place → Type 0
GivesAnswered turn number None = GivesAnswer turn number
GivesAnswered turn number (Some place) = GivesPlace turn number place

-- these lines tell this
abbrev pub Tells : List ℕ → News → Type 0
Tells turn (HasRecord one) = IsSaidRecord one × (turn ≡ ended (codes "has" ++ 32 ∷ feed_line one))
Tells turn AllTold = turn ≡ ended (codes "told")
Tells turn (IsConnected word) = GivesName turn (codes "connected") word
Tells turn IsLost = turn ≡ ended (codes "lost")
Tells turn (IsCalled name) = GivesName turn (codes "called") name
Tells turn (ReadsMessage message) = GivesText turn message
Tells turn HostLoaded = turn ≡ ended (codes "loaded")
Tells turn HostEnded = turn ≡ ended (codes "ended")
Tells turn (HostAnswered number place) = GivesAnswered turn number place
Tells turn NothingCame = turn ≡ ended (codes "again")

-- ---- what an event has to be

-- its shards, indexes and numbers are in range, and it has no more records than a message may have
abbrev pub IsMessageWithin : Message → Type 0
IsMessageWithin (says.Opening opening) = opening.number < INDEX_END
IsMessageWithin (says.Records records) = ArePlaced records.now.records.items × (length records.now.records.items ≤ MAX_RECORDS)
IsMessageWithin (says.Mark word) = Unit {0}
IsMessageWithin says.Nothing = Unit {0}

abbrev pub IsWithin : Event → Type 0
IsWithin (of.Has one) = one.shard < LOGS
IsWithin of.Told = Unit {0}
IsWithin (of.Connected word) = Unit {0}
IsWithin of.Lost = Unit {0}
IsWithin (of.Called name) = Unit {0}
IsWithin (of.Message message) = IsMessageWithin message
IsWithin of.Loaded = Unit {0}
IsWithin of.Ended = Unit {0}
IsWithin (of.Answered answered) = Unit {0}
IsWithin of.Again = Unit {0}
