-- A partition on one machine: its bridge, the link to the stream, and what was published.
use Rattle.std.specs.Prelude.{ℕ, ◌-◌, ◌==◌, List, [], ◌∷◌, ◌++◌, max, map, slice_index, Option, Some, None, if◌then◌else◌}
use Rattle.std.specs.List.{flat_map, range_with_len}
use Rattle.one_history.specs.Streams.{Text, Indexed}
use Rattle.bridge_rule.specs.declared.limits.TheConstants.{LOGS}
use Rattle.bridge_rule.specs.declared.held.Held.{Held}
use Rattle.bridge_rule.specs.declared.log.Step.{Step}
use Rattle.bridge_rule.specs.declared.log.Step.TheVariants.{Skips, Stays, Puts, Replaces}
use Rattle.bridge_rule.specs.Logs.{LogState, known_at, known_of}
use Rattle.bridge_rule.specs.Bridges.{BridgeState, log_at, place_counts}
use Rattle.bridge_lines.specs.Acts.{Act, Put, Cut, Count, Reply}
use Rattle.bridge_turns.specs.declared.link.Link.{Link}
use Rattle.bridge_turns.specs.Publishing.{Begun}

-- a partition: its bridge, its link, the message that is begun, and how many records of each journal were published
pub record PartitionState : Type 0 where
  pub bridge : BridgeState
  pub link : Link
  pub begun : Begun
  pub published : List ℕ

-- a partition, and all that was said
pub record Outcome : Type 0 where
  pub state : PartitionState
  pub said : List Act

abbrev pub outcome_of : PartitionState → List Act → Outcome
outcome_of state said = record { state = state; said = said }

-- these are said too
abbrev pub says : Outcome → List Act → Outcome
says outcome acts = record { state = outcome.state; said = outcome.said ++ acts }

abbrev pub with_bridge : Outcome → BridgeState → Outcome
with_bridge outcome bridge = record { state = record outcome.state { bridge = bridge }; said = outcome.said }

abbrev pub with_link : Outcome → Link → Outcome
with_link outcome link = record { state = record outcome.state { link = link }; said = outcome.said }

-- ---- what is published

-- the record with this index, if the log knows it
abbrev pub text_found : ℕ → ℕ → Option Text → List Indexed
text_found shard index None = []
text_found shard index (Some text) = record { shard = shard; index = index; text = text } ∷ []

abbrev pub found : LogState → ℕ → ℕ → List Indexed
found log shard index = text_found shard index (known_at log index)

-- the records that a log knows from this index on
abbrev pub found_from : LogState → ℕ → ℕ → List Indexed
found_from log shard from = flat_map (found log shard) (range_with_len from (known_of log - from))

-- the records of a shard that weren't published, of those that don't count
abbrev pub news_of : List LogState → List ℕ → ℕ → List Indexed
news_of logs published shard =
    found_from (log_at logs shard) shard (max (slice_index published shard) (log_at logs shard).count)

-- of all shards
unfoldable pub news : List LogState → List ℕ → List Indexed
news logs published = flat_map (news_of logs published) (range_with_len 0 LOGS)

-- how many records of a journal are known
abbrev pub known_in : List LogState → ℕ → ℕ
known_in logs shard = known_of (log_at logs shard)

unfoldable pub all_known : List LogState → List ℕ
all_known logs = map (known_in logs) (range_with_len 0 LOGS)

-- ---- what is put

-- what is said of a record that was read
abbrev pub step_acts : Step → Indexed → List Act
step_acts Skips one = []
step_acts Stays one = []
step_acts Puts one = Put one ∷ []
step_acts Replaces one = Cut one.shard one.index ∷ Put one ∷ []

abbrev pub all_step_acts : List Step → List Indexed → List Act
all_step_acts [] records = []
all_step_acts (step ∷ steps) [] = []
all_step_acts (step ∷ steps) (one ∷ records) = step_acts step one ++ all_step_acts steps records

-- what is said of a shard of which more records count
abbrev pub count_acts : ℕ → List LogState → ℕ → List Act
count_acts before logs shard =
    if (log_at logs shard).count == before then [] else Count shard (log_at logs shard).count ∷ []

unfoldable pub all_count_acts : List ℕ → List LogState → List Act
all_count_acts counts logs = flat_map (λ shard. count_acts (slice_index counts shard) logs shard) (range_with_len 0 LOGS)

-- how many records of a shard count
abbrev pub count_in : List LogState → ℕ → ℕ
count_in logs shard = (log_at logs shard).count

unfoldable pub all_counts : List LogState → List ℕ
all_counts logs = map (count_in logs) (range_with_len 0 LOGS)

-- ---- what is answered

-- the first of what waits that may go, all of them
abbrev pub gone : List LogState → List Held → List Held
gone logs [] = []
gone logs (one ∷ held) = if place_counts logs one.place then one ∷ gone logs held else []

-- and what waits then
abbrev pub left : List LogState → List Held → List Held
left logs [] = []
left logs (one ∷ held) = if place_counts logs one.place then left logs held else one ∷ held

abbrev pub reply_acts : Option ℕ → List Act
reply_acts None = []
reply_acts (Some number) = Reply number ∷ []

abbrev pub all_reply_acts : List Held → List Act
all_reply_acts held = flat_map (λ one. reply_acts one.reply) held
