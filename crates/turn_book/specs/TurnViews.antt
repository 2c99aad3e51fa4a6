-- What a seat knows of the shards, and how the calls change it.
use Rattle.std.specs.Prelude.{ℕ, List, [], ◌∷◌, ◌++◌, length, Bool, false, ◌==◌, ◌&&◌, if◌then◌else◌, nat_lt}
use Rattle.shared_seats.specs.Totals.{how_many}
use Rattle.shared_seats.specs.SeatNames.{first_names, after_split, split_off}
use Rattle.shared_seats.specs.declared.seat_name.SeatName.{SeatName}
use Rattle.turn_book.specs.declared.logs.Log.{Log}
use Rattle.turn_book.specs.declared.view.Turn.{Turn}
use Rattle.turn_book.specs.declared.view.Turn.TheVariants.{Free, Moving, Inside}
use Rattle.turn_book.specs.declared.view.TurnView.{TurnView}
use Rattle.turn_book.specs.Logs.{items_at, with_items}

-- whether the turn is the shard's
abbrev pub has_turn : ℕ → Turn → Bool
has_turn shard Free = false
has_turn shard (Moving other) = other == shard
has_turn shard (Inside other) = other == shard

-- whether the turn is the shard's, and the caller holds its value
abbrev pub is_inside : ℕ → Turn → Bool
is_inside shard Free = false
is_inside shard (Moving other) = false
is_inside shard (Inside other) = other == shard

-- how often the index in the shard's log occurs in the list
abbrev pub times : ℕ → ℕ → List (ℕ × ℕ) → ℕ
times shard place places = how_many (λ pair. (pair.0 == shard) && (pair.1 == place)) places

-- the view of a seat that holds these names, has seen these logs and has made no call
abbrev pub newcomer : {I B : Type 0} → List (Log I B) → List SeatName → TurnView I B
newcomer logs names = record { seen = logs; mine = []; turn = Free; heard = []; names = names }

-- the view of a table's first seat
abbrev pub first_view : {I B : Type 0} → List (Log I B) → TurnView I B
first_view opening = newcomer opening first_names

-- the view of a seat that was joined into another
abbrev pub spent : {I B : Type 0} → TurnView I B
spent = newcomer [] []

-- the view with the turn of the shard, whose log has these items
abbrev pub moving : {I B : Type 0} → ℕ → List I → TurnView I B → TurnView I B
moving shard items view = record view { seen = with_items view.seen shard items; turn = Moving shard }

-- the same, and the caller holds the value
abbrev pub entered : {I B : Type 0} → ℕ → List I → TurnView I B → TurnView I B
entered shard items view = record view { seen = with_items view.seen shard items; turn = Inside shard }

-- the view with one more item in the shard's log, at an index of its own
abbrev pub counted : {I B : Type 0} → ℕ → I → TurnView I B → TurnView I B
counted shard item view = record view {
  seen = with_items view.seen shard (items_at view.seen shard ++ item ∷ []);
  mine = (shard, length (items_at view.seen shard)) ∷ view.mine;
}

-- the view without a turn
abbrev pub free : {I B : Type 0} → TurnView I B → TurnView I B
free view = record view { turn = Free }

-- the views of the two seats after a split
abbrev pub parent_view : {I B : Type 0} → TurnView I B → TurnView I B
parent_view view = record view { names = after_split view.names }

abbrev pub child_view : {I B : Type 0} → TurnView I B → TurnView I B
child_view view = newcomer view.seen (split_off view.names)

-- the longer of two logs
abbrev pub longer : {I B : Type 0} → Log I B → Log I B → Log I B
longer log other = if nat_lt (length log.items) (length other.items) then other else log

-- the longer log of each shard
abbrev pub longer_logs : {I B : Type 0} → List (Log I B) → List (Log I B) → List (Log I B)
longer_logs [] others = others
longer_logs (log ∷ logs) [] = log ∷ logs
longer_logs (log ∷ logs) (other ∷ others) = longer log other ∷ longer_logs logs others

-- the view of a seat into which another was joined
abbrev pub joined : {I B : Type 0} → TurnView I B → TurnView I B → TurnView I B
joined view other = record {
  seen = longer_logs view.seen other.seen;
  mine = view.mine ++ other.mine;
  turn = Free;
  heard = [];
  names = view.names ++ other.names;
}

-- the same view while the join lasts
abbrev pub joining : {I B : Type 0} → TurnView I B → TurnView I B → TurnView I B
joining view other = record (joined view other) { heard = view.seen ∷ other.seen ∷ [] }

-- the view once the join is done
abbrev pub settled : {I B : Type 0} → TurnView I B → TurnView I B
settled view = record view { heard = [] }
