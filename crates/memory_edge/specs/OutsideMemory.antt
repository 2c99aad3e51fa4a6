-- The model of a source and of a sink in memory.
use Rattle.std.specs.Prelude.{ℕ, ◌+◌, ◌-◌, ◌^◌, ◌==◌, min, Bool, List, if◌then◌else◌}
use Rattle.std.specs.List.{list_any}

-- the calls of an object in memory: the numbers of those that fail, how many were made, and how many failed
pub record Calls : Type 0 where
  pub fails : List ℕ
  pub made : ℕ
  pub faults : ℕ

-- the calls of a new object
abbrev pub no_calls : List ℕ → Calls
no_calls fails = record { fails = fails; made = 0; faults = 0 }

-- the next call is one of those that fail
abbrev pub is_next_listed : Calls → Bool
is_next_listed calls = list_any (λ call. call == calls.made) calls.fails

-- one more, saturating at 2^64 - 1
abbrev pub one_more : ℕ → ℕ
one_more count = min (count + 1) (2 ^ 64 - 1)

-- the calls after one more, which failed or not
abbrev pub after_call : Calls → Bool → Calls
after_call calls failed = record {
  fails = calls.fails;
  made = one_more calls.made;
  faults = if failed then one_more calls.faults else calls.faults;
}

-- a source in memory: the unread bytes, how many of them a read returns at most, and its calls
pub record SourceState : Type 0 where
  pub left : List ℕ
  pub step : ℕ
  pub calls : Calls

-- a sink in memory: the bytes that it holds, how many it has room for in all, and its calls
pub record SinkState : Type 0 where
  pub held : List ℕ
  pub room : ℕ
  pub calls : Calls
