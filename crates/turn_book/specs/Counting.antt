-- What callers know that take turns at shards whose values count the items.
use Rattle.std.specs.Prelude.{◌≡◌, ℕ, zero, suc, List, [], ◌∷◌, length}
use Rattle.shared_seats.specs.Totals.{total}
use Rattle.turn_book.specs.declared.view.Turn.TheVariants.{Free}
use Rattle.turn_book.specs.declared.view.TurnView.{TurnView}
use Rattle.turn_book.specs.declared.seat.TurnSeat.{TurnSeat}
use Rattle.turn_book.specs.declared.turns.Turns.{Turns}
use Rattle.turn_book.specs.TurnViews.{times}
use Rattle.turn_book.specs.Seats.{view_of, IsOf}

-- a tally of this shard with this count stands for the log
abbrev pub CountsItems : ℕ → ℕ → ℕ → List ℕ → Type 0
CountsItems shard count head items = (shard ≡ head) × (count ≡ length items)

-- the count of the shard, or 0 where there is none
abbrev pub count_at : List ℕ → ℕ → ℕ
count_at [] shard = 0
count_at (count ∷ counts) zero = count
count_at (count ∷ counts) (suc shard) = count_at counts shard

-- the view's own indices are those of the list
abbrev pub HasAdded : List (ℕ × ℕ) → TurnView ℕ ℕ → Type 0
HasAdded places view = (shard place : ℕ) → times shard place view.mine ≡ times shard place places

-- the view's own indices are those of the lists
abbrev pub HaveAdded : List (List (ℕ × ℕ)) → TurnView ℕ ℕ → Type 0
HaveAdded lists view = (shard place : ℕ) → times shard place view.mine ≡ total (times shard place) lists

-- the seat belongs to these turns, has no turn, and has appended the items at these indices
pub record IsReady {V : Type 0} (turns : Turns V ℕ ℕ) (seat : TurnSeat ℕ ℕ) (places : List (ℕ × ℕ)) : Type 0 where
  pub of : IsOf seat turns
  pub free : (view_of seat).turn ≡ Free
  pub added : HasAdded places (view_of seat)

-- the same for several lists, and the seat into which theirs were joined
pub record IsDone {V : Type 0} (turns : Turns V ℕ ℕ) (seat : TurnSeat ℕ ℕ) (lists : List (List (ℕ × ℕ))) : Type 0 where
  pub of : IsOf seat turns
  pub free : (view_of seat).turn ≡ Free
  pub added : HaveAdded lists (view_of seat)
