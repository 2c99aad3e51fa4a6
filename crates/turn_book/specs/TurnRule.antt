-- The invariant of the words, the slots and the views, which holds between any two steps.
use Rattle.std.specs.Prelude.{◌≡◌, ℕ, ◌*◌, ◌<◌, ◌≤◌, List, length, map, true, ◌==◌, ◌&&◌, nat_le, nat_lt, Option, Some, None}
use mathlib.Core.Option.{some}
use mathlib.Core.Option as maybe
use lib.ListN.{get_elem?}
use Rattle.atomic_table.specs.Table.{State}
use Rattle.shared_seats.specs.Totals.{total, one_if}
use Rattle.shared_seats.specs.SeatNames.{AreNamed}
use Rattle.turn_book.specs.declared.layout.TheConstants.{SHARD_WORDS}
use Rattle.turn_book.specs.declared.logs.Log.{Log}
use Rattle.turn_book.specs.declared.view.TurnView.{TurnView}
use Rattle.turn_book.specs.Layout.{turn_in, count_in}
use Rattle.turn_book.specs.Logs.{heads_of, items_at, IsFront, StandsAt}
use Rattle.turn_book.specs.TurnViews.{has_turn, is_inside, times, spent}

-- how many of the views have the shard's turn, and how many of them hold its value
abbrev pub turns_of : {I B : Type 0} → ℕ → List (TurnView I B) → ℕ
turns_of shard views = total (λ view. one_if (has_turn shard view.turn)) views

abbrev pub insides_of : {I B : Type 0} → ℕ → List (TurnView I B) → ℕ
insides_of shard views = total (λ view. one_if (is_inside shard view.turn)) views

-- how many of the views have seen this many items of the shard's log
abbrev pub seers_of : {I B : Type 0} → ℕ → ℕ → List (TurnView I B) → ℕ
seers_of shard count views = total (λ view. one_if (length (items_at view.seen shard) == count)) views

-- how often the index in the shard's log is one of the views' own
abbrev pub owners_of : {I B : Type 0} → ℕ → ℕ → List (TurnView I B) → ℕ
owners_of shard place views = total (λ view. times shard place view.mine) views

-- 1 if the index is at least `first` and below `count`, and else 0
abbrev pub between : ℕ → ℕ → ℕ → ℕ
between first count place = one_if (nat_le first place && nat_lt place count)

-- the slot has a value, which stands for the shard's log
abbrev pub IsHome : {V I B : Type 0} → (V → B → List I → Type 0) → List (Log I B) → List (maybe.Option (Option V))
    → ℕ → Type 0
IsHome {V} stands logs homes shard = (value : V) × (get_elem? homes shard ≡ some (some (Some value)))
    × StandsAt stands value logs shard

-- the invariant of a shard, if these are the current logs
pub record IsShard {V I B : Type 0} (stands : V → B → List I → Type 0) (opening logs : List (Log I B))
    (table : State (Option V) (TurnView I B))
    (shard : ℕ) : Type 0 where
  pub front : IsFront (items_at opening shard) (items_at logs shard)
  pub count : count_in table.words shard ≡ length (items_at logs shard)
  -- the turn is taken if exactly one view has it, and else it is free
  pub turn : turn_in table.words shard ≡ turns_of shard table.views
  pub alone : turn_in table.words shard ≤ 1
  -- if the turn is free, the value is in its slot; if a view holds the value, the slot is empty
  pub home : turn_in table.words shard ≡ 0 → IsHome stands logs table.homes shard
  pub out : 0 < insides_of shard table.views → get_elem? table.homes shard ≡ some (some None)
  -- some view has seen the whole log, and each index after the opening log is one view's own, once
  pub known : 0 < seers_of shard (length (items_at logs shard)) table.views
  pub places : (place : ℕ) → owners_of shard place table.views ≡ between (length (items_at opening shard))
      (length (items_at logs shard)) place

-- what a view knows, if these are the current logs
pub record Knows {I B : Type 0} (opening logs : List (Log I B)) (view : TurnView I B) : Type 0 where
  -- it has seen a prefix of each log, and the whole log if it has the turn
  pub fronts : (shard : ℕ) → IsFront (items_at view.seen shard) (items_at logs shard)
  pub whole : (shard : ℕ) → has_turn shard view.turn ≡ true
      → length (items_at view.seen shard) ≡ length (items_at logs shard)
  -- if it has a name, it has seen the opening logs, and else it knows nothing
  pub heads : 0 < length view.names → heads_of view.seen ≡ heads_of opening
  pub opened : 0 < length view.names → (shard : ℕ) → IsFront (items_at opening shard) (items_at view.seen shard)
  pub idle : length view.names ≡ 0 → view ≡ spent
  -- the logs that it has heard are prefixes of the logs
  pub heard : (k : ℕ) (seen : List (Log I B)) → get_elem? view.heard k ≡ some seen → (shard : ℕ)
      → IsFront (items_at seen shard) (items_at logs shard)

-- there are current logs, with the opening logs' heads, that the words, the slots and the views agree with
pub record AreTurns {V I B : Type 0} (stands : V → B → List I → Type 0) (opening : List (Log I B))
    (table : State (Option V) (TurnView I B)) : Type 0 where
  pub logs : List (Log I B)
  pub heads : heads_of logs ≡ heads_of opening
  pub wide : length table.words ≡ SHARD_WORDS * length opening
  pub shards : (shard : ℕ) → shard < length opening → IsShard stands opening logs table shard
  pub knows : (seat : ℕ) (view : TurnView I B) → get_elem? table.views seat ≡ some view → Knows opening logs view
  pub names : AreNamed (map (λ view. view.names) table.views)
