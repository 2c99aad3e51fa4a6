-- The lines that a bridge begins with.
use Rattle.std.specs.Prelude.{ℕ, ◌<◌, nat_lt, if◌then◌else◌, List, length, codes, Option, Some, None}
use Rattle.std.specs.Str.{bytes_eq}
use Rattle.one_history.specs.Streams.{Barrier, Word, no_barrier}
use Rattle.bridge_rule.specs.declared.limits.TheConstants.{LOGS, INDEX_END}
use Rattle.bridge_rule.specs.Openings.{barrier_of}
use Rattle.bridge_lines.specs.declared.action.Counted.{Counted}
use Rattle.bridge_lines.specs.declared.beginning.Given.{Given}
use Rattle.bridge_lines.specs.declared.beginning.Given.TheVariants as of
use Rattle.bridge_lines.specs.Parts.{◌>>=◌, cut, name_in, number_in, shard_in}
use Rattle.bridge_lines.specs.Reading.{barrier_in}

-- what a line gives: the last barrier that counts, the machine's name, or how many records of a shard count
pub data Gift : Type 0 where
  GivesBarrier : (barrier : Barrier) → Gift
  GivesMachine : (name : Word) → Gift
  GivesCount : (counted : Counted) → Gift

abbrev pub given_of : Given → Gift
given_of (of.Position opening) = GivesBarrier (barrier_of opening)
given_of (of.Machine name) = GivesMachine name.items
given_of (of.Count counted) = GivesCount counted

-- a barrier, or 0 where none counts
unfoldable pub position_in : List ℕ → Option Barrier
position_in words = if bytes_eq words (codes "0") then Some no_barrier else barrier_in words

-- SHARD NUMBER
abbrev pub counted_of : ℕ → ℕ → Counted
counted_of shard number = record { shard = shard; number = number }

unfoldable pub count_in : List ℕ → Option Counted
count_in words = do
  parts ← cut 32 words
  shard ← shard_in parts.0
  number ← number_in parts.1
  Some (counted_of shard number)

unfoldable pub given_by : List ℕ → List ℕ → Option Gift
given_by word more =
    if bytes_eq word (codes "position") then (position_in more >>= λ barrier. Some (GivesBarrier barrier))
    else if bytes_eq word (codes "machine") then (name_in more >>= λ name. Some (GivesMachine name))
    else if bytes_eq word (codes "count") then (count_in more >>= λ counted. Some (GivesCount counted)) else None

-- what a line gives
unfoldable pub given_in : List ℕ → Option Gift
given_in turn = do
  lines ← cut 10 turn
  if nat_lt 0 (length lines.1) then None else (cut 32 lines.0 >>= λ parts. given_by parts.0 parts.1)

-- its shard and its numbers are in range
abbrev pub IsGivenWithin : Given → Type 0
IsGivenWithin (of.Position opening) = opening.number < INDEX_END
IsGivenWithin (of.Machine name) = Unit {0}
IsGivenWithin (of.Count counted) = (counted.shard < LOGS) × (counted.number < INDEX_END)
