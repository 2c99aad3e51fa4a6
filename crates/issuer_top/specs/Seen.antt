-- What a run sees of the outside: the desk, the inputs and the journals that it opened, and the sink.
use Rattle.std.specs.Prelude.{◌≡◌, ℕ, List, Option}
use Rattle.std.specs.Option.{option_map}
use Rattle.issuer_base.specs.Desk.{FailedCall}
use Rattle.issuer_base.specs.declared.outside.Desk.{Ghosts as Desk}
use Rattle.issuer_base.specs.declared.outside.Source.{Ghosts as Source}
use Rattle.issuer_base.specs.declared.outside.Sink.{Ghosts as Sink}
use Rattle.issuer_base.specs.declared.outside.store.Store.{Ghosts as Store}
use Rattle.desk_host.specs.SeenStores.{Logged, SeenJournals, journals_seen}
use Rattle.issuer_top.specs.declared.ended.Ended.{Ended}

-- what a desk tells of its inputs: nothing, or the bytes that stand under each name, if there is an input
abbrev pub Told : Type 0
Told = List ℕ → Option (Option (List ℕ))

-- the desk: what it told of its inputs and journals before the run, its count of faults before and after, and its last
-- call that failed
pub record SeenDesk : Type 0 where
  pub tells : Told
  pub logs : Logged
  pub faults_before : ℕ
  pub faults_after : ℕ
  pub last_fault : Option FailedCall

-- an input that was opened, after the run: its count of faults, and what it has left, where it tells
pub record SeenInput : Type 0 where
  pub faults : ℕ
  pub left : Option (List ℕ)

-- the sink: what it holds, where it tells, and its count of faults, before and after the run
pub record SeenSink : Type 0 where
  pub held_before : Option (List ℕ)
  pub held_after : Option (List ℕ)
  pub faults_before : ℕ
  pub faults_after : ℕ

-- all that a run sees; an input is there where it was opened, and the journals are those that were opened
pub record Seen : Type 0 where
  pub desk : SeenDesk
  pub config : Option SeenInput
  pub requests : Option SeenInput
  pub journals : SeenJournals
  pub sink : SeenSink

-- the desk before and after
abbrev pub desk_seen : {D I J : Type 0} → Desk D I J → D → D → SeenDesk
desk_seen desk before after = record {
  tells = desk.holds before;
  logs = desk.logs before;
  faults_before = desk.faults before;
  faults_after = desk.faults after;
  last_fault = desk.last_fault after;
}

-- a desk tells of inputs what it told when it was given, and its count of faults is the same
pub record IsSameDesk {D I J : Type 0} (desk : Desk D I J) (given now : D) : Type 0 where
  pub holds_are : desk.holds now ≡ desk.holds given
  pub faults_are : desk.faults now ≡ desk.faults given

-- an input after the run
abbrev pub input_seen : {I : Type 0} → Source I → I → SeenInput
input_seen source input = record { faults = source.faults input; left = source.left input }

-- the sink before and after
abbrev pub sink_seen : {W : Type 0} → Sink W → W → W → SeenSink
sink_seen sink before after = record {
  held_before = sink.held before;
  held_after = sink.held after;
  faults_before = sink.faults before;
  faults_after = sink.faults after;
}

-- all that was seen of the desk that was given and of what was given back, and of the sink before and after
abbrev pub seen_by : {D I J W : Type 0} → Desk D I J → Source I → Store J → Sink W → D → Ended D I J → W → W → Seen
seen_by desk source store sink given ended before after = record {
  desk = desk_seen desk given ended.desk;
  config = option_map (input_seen source) ended.config;
  requests = option_map (input_seen source) ended.requests;
  journals = journals_seen store ended.olds.items ended.stores.items;
  sink = sink_seen sink before after;
}
