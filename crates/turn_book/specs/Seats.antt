-- The turns and a seat as contracts see them.
use Rattle.std.specs.Prelude.{◌≡◌, ℕ, ◌<◌, List, [], ◌∷◌, length}
use Rattle.turn_book.specs.declared.logs.Log.{Log}
use Rattle.turn_book.specs.declared.view.Turn.TheVariants.{Inside}
use Rattle.turn_book.specs.declared.view.TurnView.{TurnView}
use Rattle.turn_book.specs.declared.seat.TurnSeat.{TurnSeat}
use Rattle.turn_book.specs.declared.turns.Turns.{Turns}
use Rattle.turn_book.specs.Logs.{heads_of}
use Rattle.turn_book.specs.TurnViews.{spent}

-- the opening log of each shard
abbrev pub opening_of : {V I B : Type 0} → Turns V I B → List (Log I B)
opening_of turns = turns.table.shared.key.view

-- the number of shards
abbrev pub shards_of : {V I B : Type 0} → Turns V I B → ℕ
shards_of turns = length (opening_of turns)

-- the first of the views
abbrev pub the_view : {I B : Type 0} → List (TurnView I B) → TurnView I B
the_view [] = spent
the_view (view ∷ views) = view

-- what the seat knows
abbrev pub view_of : {I B : Type 0} → TurnSeat I B → TurnView I B
view_of seat = the_view seat.badge.views

-- the seat belongs to these turns
pub record IsOf {V I B : Type 0} (seat : TurnSeat I B) (turns : Turns V I B) : Type 0 where
  pub table : seat.badge.table_id ≡ turns.table.shared.table_id
  pub seated : seat.badge.views ≡ view_of seat ∷ []
  pub named : 0 < length (view_of seat).names
  pub heads : heads_of (view_of seat).seen ≡ heads_of (opening_of turns)
  pub within : (shard : ℕ) → (view_of seat).turn ≡ Inside shard → shard < shards_of turns
