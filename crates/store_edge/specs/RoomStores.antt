-- The model of a store in memory that exposes its bytes alone.
use Rattle.std.specs.Prelude.{ℕ, List}

-- a store that exposes its bytes alone: these, how many it has room for, and how many of its calls failed
pub record RoomState : Type 0 where
  pub held : List ℕ
  pub room : ℕ
  pub faults : ℕ
