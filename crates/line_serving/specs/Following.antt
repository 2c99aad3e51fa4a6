-- What taking a feed makes of a standby's shards and writes, by how it ended.
use Rattle.std.specs.Prelude.{◌≡◌, ℕ, ◌<◌, Bool, ◌==◌, true, false, IsTrue, List, [], ◌∷◌, ◌++◌, length, Option, Result, Ok, Err}
use Rattle.std.specs.List.{enumerate_from, flat_map}
use Rattle.std.specs.Io.KnownBytes.{Appends}
use Rattle.issuer_base.specs.declared.entry.Entry.{Entry}
use Rattle.issuer_base.specs.declared.outside.store.Store.{Ghosts}
use Rattle.issuer_base.specs.Sink.{AppendsFront}
use Rattle.issuer_base.specs.Tells.{Tells}
use Rattle.answer_text.specs.CountText.{count_text}
use Rattle.issuer_setup.specs.IssuerSetup.{Setup}
use Rattle.line_checks.specs.declared.lines_ahead.TheConstants.{MOST_AHEAD}
use Rattle.line_reader.specs.Lines.{ended, lines}
use Rattle.line_reader.specs.Reading.{IsWithinLimits, unread}
use Rattle.line_blocks.specs.Answered.{WasRead, AreWholeLines, AreLinesBefore}
use Rattle.host_loading.specs.Hosts.{AreShards}
use Rattle.shard_book.specs.declared.shard.Shard.{Shard}
use Rattle.standby_node.specs.declared.feed_lines.FeedLines.{FeedLines}
use Rattle.standby_node.specs.declared.line.FeedFault.{FeedFault}
use Rattle.standby_node.specs.declared.line.FeedFault.TheVariants.{BadFeed as BadLine, StoreFault as StoreFails}
use Rattle.standby_node.specs.declared.standby.Standby.{Standby}
use Rattle.standby_node.specs.FeedLines.{IsNext}
use Rattle.standby_node.specs.ReadLines.{AreAhead, AreReady, IsNoneAhead}
use Rattle.standby_node.specs.Standing.{Feeds, HasTaken, Hold, IsInHand, LeavesBetween, live_in, shards_in}
use Rattle.standby_node.specs.Streams.{StopsAt, StopsBadly, TakesLines, TakesStream}
use Rattle.line_serving.specs.declared.follower.Followed.{Followed}
use Rattle.line_serving.specs.declared.follower.Followed.TheVariants.{All, ReadFault, WriteFault, TooLong, BadFeed, StoreFault}
use Rattle.line_serving.specs.declared.follower.Follower.{Follower}

-- it has read nothing, no text is due, and no line waits
pub record IsNew (follower : Follower) : Type 0 where
  pub reads_first : follower.reader ≡ unread
  pub none_due : follower.block.text.items ≡ []
  pub no_lines : follower.block.lines ≡ 0
  pub none_waits : IsNoneAhead follower.ahead

-- ---- what is taken

-- the feed is within the limits, and its whole lines make these histories; a torn last line doesn't count
pub record TakesFile (issuer : Setup) (opening : List (List Entry)) (file : List ℕ) (histories : List (List Entry))
    : Type 0 where
  pub within : IsWithinLimits (length (lines file)) (length file)
  pub taken : TakesStream issuer opening file histories

-- what was read passes no limit, and its whole lines make these histories
pub record TakesPart (issuer : Setup) (opening : List (List Entry)) (read : List ℕ) (histories : List (List Entry))
    : Type 0 where
  pub lines : List (List ℕ)
  pub which : AreWholeLines read lines
  pub taken : TakesLines issuer opening lines histories

-- a byte past a limit was read, in the line of this number, and the lines before it make these histories
pub record TakesBefore (issuer : Setup) (opening : List (List Entry)) (read : List ℕ) (number : ℕ)
    (histories : List (List Entry)) : Type 0 where
  pub before : List (List ℕ)
  pub are_before : AreLinesBefore number read before
  pub taken : TakesLines issuer opening before histories

-- these lines are within the limits
abbrev pub AreWithinLimits : List (List ℕ) → Type 0
AreWithinLimits lines = IsWithinLimits (length lines) (length (flat_map ended lines))

-- the line of this number is the first bad one of what was read, and those before it make these histories. With it they
-- are within the limits
pub record StopsAtBadLine (issuer : Setup) (opening : List (List Entry)) (read : List ℕ) (number : ℕ)
    (histories : List (List Entry)) : Type 0 where
  pub bad : StopsBadly issuer opening read number histories
  pub within : AreWithinLimits (bad.stops.before ++ bad.line ∷ [])

-- a line has the next record of this shard, whose store failed at it; the lines before it make these histories. With it
-- they are within the limits
pub record StopsAtRecord (issuer : Setup) (opening : List (List Entry)) (read : List ℕ) (shard : ℕ)
    (histories : List (List Entry)) : Type 0 where
  pub number : ℕ
  pub line : List ℕ
  pub history : List Entry
  pub entry : Entry
  pub stops : StopsAt issuer opening read number line histories
  pub within : AreWithinLimits (stops.before ++ line ∷ [])
  pub next : IsNext issuer histories line shard history entry

-- what the feed makes of the opening histories, by how taking it ended: all of it was read; or a part was, and its
-- whole lines were taken, or those before the one in hand
abbrev pub TakesFeed : Setup → List (List Entry) → List ℕ → List ℕ → Followed → List (List Entry) → Type 0
TakesFeed issuer opening file read All histories = (read ≡ file) × TakesFile issuer opening file histories
TakesFeed issuer opening file read WriteFault histories = (read ≡ file) × TakesFile issuer opening file histories
TakesFeed issuer opening file read ReadFault histories = TakesPart issuer opening read histories
TakesFeed issuer opening file read (TooLong number) histories = TakesBefore issuer opening read number histories
TakesFeed issuer opening file read (BadFeed number) histories = StopsAtBadLine issuer opening read number histories
TakesFeed issuer opening file read (StoreFault shard) histories = StopsAtRecord issuer opening read shard histories

-- whether the next record of this shard is in doubt: its store failed at it
abbrev pub in_doubt_after : Followed → ℕ → Bool
in_doubt_after (StoreFault shard) number = number == shard
in_doubt_after _ number = false

-- what is in doubt of a shard whose store failed is the record at which it did: the store has the text of the shard's
-- history, all of it durable, and after it at most a prefix of that record's
abbrev pub HasInHand : {S : Type 0} {G : Ghosts S} (issuer : Setup) (opening : List (List Entry)) (file read : List ℕ)
    (followed : Followed) (histories : List (List Entry)) → TakesFeed issuer opening file read followed histories
    → List (Shard S G) → Type 0
HasInHand issuer opening file read All histories takes new = Unit {0}
HasInHand issuer opening file read WriteFault histories takes new = Unit {0}
HasInHand issuer opening file read ReadFault histories takes new = Unit {0}
HasInHand issuer opening file read (TooLong number) histories takes new = Unit {0}
HasInHand issuer opening file read (BadFeed number) histories takes new = Unit {0}
HasInHand issuer opening file read (StoreFault shard) histories takes new =
    IsInHand (λ number. false) shard takes.history takes.entry new

-- a feed was read and taken: what of it, the histories that the shards hold now, and what a crash meanwhile may leave
pub record FollowsFeed {S : Type 0} {G : Ghosts S} (issuer : Setup) (opening : List (List Entry))
    (was now : Option (List ℕ)) (old new : Standby S G) (followed : Followed) (histories : List (List Entry))
    : Type 0 where
  pub file : List ℕ
  pub read : List ℕ
  pub content : Tells was file
  pub was_read : WasRead file read now
  pub takes : TakesFeed issuer opening file read followed histories
  pub hold : Hold issuer (in_doubt_after followed) (shards_in new) histories
  pub in_hand : HasInHand issuer opening file read followed histories takes (shards_in new)
  pub leaves : LeavesBetween issuer opening histories (shards_in old) (shards_in new)

-- the fault of the standby, where there was one
abbrev pub fault_of : Followed → Result (Unit {0}) FeedFault
fault_of (BadFeed number) = Err (BadLine number)
fault_of (StoreFault shard) = Err (StoreFails shard)
fault_of _ = Ok tt

-- ---- lines that wait

-- another line may wait
pub record MayWait (issuer : Setup) (ahead : FeedLines) : Type 0 where
  pub ready : AreReady issuer ahead
  pub room : length ahead.lines.items < MOST_AHEAD

-- and the standby can be fed
pub record MayRead {S : Type 0} {G : Ghosts S} (issuer : Setup) (ahead : FeedLines) (node : Standby S G) : Type 0 where
  pub live : IsTrue (live_in node)
  pub shards : AreShards issuer (shards_in node)
  pub waits : MayWait issuer ahead

-- the first of these lines were taken, and the others wait. The shards hold what the first make of the opening histories
pub record HasLines {S : Type 0} {G : Ghosts S} (issuer : Setup) (opening : List (List Entry)) (lines : List (List ℕ))
    (ahead : FeedLines) (node : Standby S G) (histories : List (List Entry)) : Type 0 where
  pub stream : List ℕ
  pub has_taken : HasTaken issuer (λ number. false) opening stream node histories
  pub waiting : List (List ℕ)
  pub are_ahead : AreAhead histories waiting ahead
  pub lines_are : lines ≡ has_taken.taken.lines ++ waiting

-- so it is of these lines, or they have a fault
abbrev pub ReadsOn : {S : Type 0} {G : Ghosts S} (issuer : Setup) (opening : List (List Entry)) (lines : List (List ℕ))
    (result : Result (Unit {0}) FeedFault) → FeedLines → Standby S G → List (List Entry) → Type 0
ReadsOn issuer opening lines (Ok done) ahead node after = HasLines issuer opening lines ahead node after
ReadsOn issuer opening lines (Err fault) ahead node after =
    Feeds issuer (λ number. false) opening (flat_map ended lines) (Err fault) node after

-- how taking a feed ended whose lines had this fault
abbrev pub stopped_by : FeedFault → Followed
stopped_by (BadLine number) = BadFeed number
stopped_by (StoreFails shard) = StoreFault shard

-- and with it where they had one
abbrev pub ended_by : Result (Unit {0}) FeedFault → Followed → Followed
ended_by (Ok done) followed = followed
ended_by (Err fault) followed = stopped_by fault

-- ---- what is written

-- for each shard its number and how many records it has
abbrev pub counts_text : List (List Entry) → List ℕ
counts_text histories = flat_map (λ numbered. count_text numbered.0 (length numbered.1)) (enumerate_from 0 histories)

-- the numbers of records were written, or a prefix of them, or nothing, by how taking the feed ended
abbrev pub WritesCounts : Followed → Option (List ℕ) → Option (List ℕ) → List ℕ → Type 0
WritesCounts All held_before held_after text = Appends held_before held_after text
WritesCounts WriteFault held_before held_after text = AppendsFront held_before held_after text
WritesCounts _ held_before held_after text = held_after ≡ held_before

-- whether the feed failed, and whether the sink did
abbrev pub read_failed : Followed → Bool
read_failed ReadFault = true
read_failed _ = false

abbrev pub write_failed : Followed → Bool
write_failed WriteFault = true
write_failed _ = false
