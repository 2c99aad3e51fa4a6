-- What contracts see of the turns at the shards and of a seat.
use Rattle.std.specs.Prelude.{◌≡◌, ℕ, List, length, slice_get, Some}
use Rattle.issuer_base.specs.declared.outside.store.Store.{Ghosts}
use Rattle.issuer_setup.specs.IssuerSetup.{Setup}
use Rattle.shard_book.specs.declared.shard.Shard.{Shard}
use Rattle.turn_book.specs.declared.logs.Log.{Log}
use Rattle.turn_book.specs.declared.seat.TurnSeat.{TurnSeat}
use Rattle.turn_book.specs.declared.view.Turn.TheVariants.{Free, Inside}
use Rattle.turn_book.specs.Logs.{heads_of, StandsAt}
use Rattle.turn_book.specs.Seats.{opening_of, view_of, IsOf}
use Rattle.shared_shards.specs.declared.logs.LogHead.{LogHead}
use Rattle.shared_shards.specs.declared.logs.LogItem.{LogItem}
use Rattle.shared_shards.specs.declared.turns.ShardTurns.{ShardTurns}
use Rattle.shared_shards.specs.Opening.{head_with}
use Rattle.shared_shards.specs.ShardLogs.{StandsForLog}

module _ {S : Type 0} {G : Ghosts S} where
  -- the opening log of each shard
  abbrev pub opening_in : ShardTurns S G → List (Log LogItem LogHead)
  opening_in turns = opening_of turns.turns

  -- the turns are at the shards of this issuer, one for each number
  pub record AreTurnsOf (issuer : Setup) (turns : ShardTurns S G) : Type 0 where
    pub count_is : length (opening_in turns) ≡ issuer.shards
    pub heads_are : (number : ℕ) (head : LogHead) → slice_get (heads_of (opening_in turns)) number ≡ Some head
        → head ≡ head_with issuer number head.faults head.records head.opened

  -- the seat is one of these turns', and is in no turn
  pub record IsSeatOf (turns : ShardTurns S G) (seat : TurnSeat LogItem LogHead) : Type 0 where
    pub of : IsOf seat turns.turns
    pub free : (view_of seat).turn ≡ Free

  -- the seat is one of these turns', and has the turn of this shard
  pub record IsInside (turns : ShardTurns S G) (seat : TurnSeat LogItem LogHead) (shard : ℕ) : Type 0 where
    pub of : IsOf seat turns.turns
    pub inside : (view_of seat).turn ≡ Inside shard

  -- the shard stands for the log with its number
  abbrev pub StandsIn : Shard S G → List (Log LogItem LogHead) → ℕ → Type 0
  StandsIn shard logs number = StandsAt (λ shard head items. StandsForLog shard head items) shard logs number

  -- the shards stand for the logs, one for each
  pub record StandForLogs (shards : List (Shard S G)) (logs : List (Log LogItem LogHead)) : Type 0 where
    pub count_is : length shards ≡ length logs
    pub each : (number : ℕ) (shard : Shard S G) (log : Log LogItem LogHead) → slice_get shards number ≡ Some shard
        → slice_get logs number ≡ Some log
        → StandsForLog shard log.head log.items
