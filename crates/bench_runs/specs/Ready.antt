-- When a caller may take a turn.
use Rattle.std.specs.Prelude.{◌≡◌, ℕ, ◌<◌}
use Rattle.turn_book.specs.declared.view.Turn.TheVariants.{Free}
use Rattle.turn_book.specs.declared.seat.TurnSeat.{TurnSeat}
use Rattle.turn_book.specs.declared.turns.Turns.{Turns}
use Rattle.turn_book.specs.Seats.{shards_of, view_of, IsOf}

-- the seat belongs to these turns and has no turn, and the shard is one of theirs
pub record IsReady {V : Type 0} (turns : Turns V ℕ ℕ) (seat : TurnSeat ℕ ℕ) (shard : ℕ) : Type 0 where
  pub of : IsOf seat turns
  pub free : (view_of seat).turn ≡ Free
  pub within : shard < shards_of turns
