-- The last line of a run that stops.
use Rattle.std.specs.Prelude.{◌≡◌, ℕ, ◌⊎◌, Bool, true, false, List, Option, Result, Ok, Err}
use Rattle.std.specs.Io.KnownBytes.{Appends}
use Rattle.issuer_base.specs.OutsideFaults.{CountsFaults}
use Rattle.issuer_base.specs.declared.faults.WriteFault.{WriteFault as SinkFails}
use Rattle.issuer_base.specs.Sink.{AppendsFront}
use Rattle.answer_text.specs.StopText.{stop_text}
use Rattle.answer_text.specs.declared.stop_line.Stop.{Stop}
use Rattle.answer_text.specs.declared.stop_line.Stop.TheVariants.{ReadFault as ReadStop, TooLong as LongStop}
use Rattle.line_blocks.specs.declared.served.Served.{Served}
use Rattle.line_blocks.specs.declared.served.Served.TheVariants.{All, ReadFault, WriteFault as SinkFault, TooLong}
use Rattle.journal_reader.specs.Filing.{fault_of}
use Rattle.journal_reader.specs.declared.export.ExportFault.{ExportFault}
use Rattle.journal_reader.specs.declared.export.ExportFault.TheVariants.{WriteFault as SinkBreaks, Unread}
use Rattle.line_serving.specs.declared.follower.Followed.{Followed}
use Rattle.line_serving.specs.declared.follower.Followed.TheVariants.{All as FollowsAll, ReadFault as FeedFails}
use Rattle.line_serving.specs.declared.follower.Followed.TheVariants.{WriteFault as CountsFail, TooLong as FeedTooLong}
use Rattle.line_serving.specs.declared.follower.Followed.TheVariants.{BadFeed as FeedIsBad, StoreFault as StoreFails}
use Rattle.answer_text.specs.declared.stop_line.Stop.TheVariants.{BadFeed as BadFeedStop, StoreFault as StoreStop}
use Rattle.issuer_top.specs.ReadAgain.{stop_of_reading}
use Rattle.issuer_top.specs.declared.ending.Ending.{Ending}
use Rattle.issuer_top.specs.declared.ending.Ending.TheVariants.{Done, Stopped, WriteFault}

-- the sink took the last line, or a front of it and failed
abbrev pub StopsBy : Option (List ℕ) → Option (List ℕ) → Stop → Ending → Type 0
StopsBy held_before held_after stop ending =
    ((ending ≡ Stopped stop) × Appends held_before held_after (stop_text stop))
    ⊎ ((ending ≡ WriteFault) × AppendsFront held_before held_after (stop_text stop))

-- the sink failed
abbrev pub is_broken : Ending → Bool
is_broken Done = false
is_broken (Stopped stop) = false
is_broken WriteFault = true

-- how a run ends whose text was written, or not
abbrev pub written_ending : Result (Unit {0}) SinkFails → Ending
written_ending (Ok done) = Done
written_ending (Err fault) = WriteFault

-- the sink was given a last line: what it held and counted before and after
pub record GivesStop (held_before held_after : Option (List ℕ)) (faults_before faults_after : ℕ) (stop : Stop)
    (ending : Ending) : Type 0 where
  pub stops : StopsBy held_before held_after stop ending
  pub count : CountsFaults faults_before faults_after (is_broken ending)

-- the sink was given a text: it took all of it, or a front and failed
pub record GivesText (held_before held_after : Option (List ℕ)) (faults_before faults_after : ℕ) (text : List ℕ)
    (ending : Ending) : Type 0 where
  pub written : ((ending ≡ Done) × Appends held_before held_after text)
      ⊎ ((ending ≡ WriteFault) × AppendsFront held_before held_after text)
  pub count : CountsFaults faults_before faults_after (is_broken ending)

-- the sink was given nothing, and the run ends so
pub record GivesNothing (held_before held_after : Option (List ℕ)) (faults_before faults_after : ℕ)
    (ended ending : Ending) : Type 0 where
  pub ending_is : ending ≡ ended
  pub same : held_after ≡ held_before
  pub stood : faults_after ≡ faults_before

-- how a run ends whose serving ended so
abbrev pub EndsServing : Option (List ℕ) → Option (List ℕ) → ℕ → ℕ → Served → Ending → Type 0
EndsServing held_before held_after faults_before faults_after All ending =
    GivesNothing held_before held_after faults_before faults_after Done ending
EndsServing held_before held_after faults_before faults_after SinkFault ending =
    GivesNothing held_before held_after faults_before faults_after WriteFault ending
EndsServing held_before held_after faults_before faults_after ReadFault ending =
    GivesStop held_before held_after faults_before faults_after ReadStop ending
EndsServing held_before held_after faults_before faults_after (TooLong line) ending =
    GivesStop held_before held_after faults_before faults_after (LongStop line) ending

-- how a run ends whose export ended so
abbrev pub EndsExporting : Option (List ℕ) → Option (List ℕ) → ℕ → ℕ → Result (Unit {0}) ExportFault → Ending → Type 0
EndsExporting held_before held_after faults_before faults_after (Ok done) ending =
    GivesNothing held_before held_after faults_before faults_after Done ending
EndsExporting held_before held_after faults_before faults_after (Err SinkBreaks) ending =
    GivesNothing held_before held_after faults_before faults_after WriteFault ending
EndsExporting held_before held_after faults_before faults_after (Err (Unread fault shard)) ending =
    GivesStop held_before held_after faults_before faults_after (stop_of_reading (fault_of fault) shard) ending

-- how a run ends that took a feed so
abbrev pub EndsFollowing : Option (List ℕ) → Option (List ℕ) → ℕ → ℕ → Followed → Ending → Type 0
EndsFollowing held_before held_after faults_before faults_after FollowsAll ending =
    GivesNothing held_before held_after faults_before faults_after Done ending
EndsFollowing held_before held_after faults_before faults_after CountsFail ending =
    GivesNothing held_before held_after faults_before faults_after WriteFault ending
EndsFollowing held_before held_after faults_before faults_after FeedFails ending =
    GivesStop held_before held_after faults_before faults_after ReadStop ending
EndsFollowing held_before held_after faults_before faults_after (FeedTooLong line) ending =
    GivesStop held_before held_after faults_before faults_after (LongStop line) ending
EndsFollowing held_before held_after faults_before faults_after (FeedIsBad line) ending =
    GivesStop held_before held_after faults_before faults_after (BadFeedStop line) ending
EndsFollowing held_before held_after faults_before faults_after (StoreFails shard) ending =
    GivesStop held_before held_after faults_before faults_after (StoreStop shard) ending
