-- Which names the seats of a table hold, and when a seat is whole.
use Rattle.std.specs.Prelude.{ℕ, ◌+◌, ◌<◌, ◌≤◌, List, [], ◌∷◌, Bool, true, false, ◌==◌, ◌&&◌, nat_le}
use Rattle.shared_seats.specs.Totals.{total, how_many}
use Rattle.shared_seats.specs.declared.seat_name.SeatName.{SeatName}

-- whether two paths are equal
abbrev pub is_path : List ℕ → List ℕ → Bool
is_path [] [] = true
is_path (k ∷ path) (l ∷ other) = (k == l) && is_path path other
is_path _ _ = false

-- the name with this path, from which this many seats were split
abbrev pub seat_name : List ℕ → ℕ → SeatName
seat_name path splits = record { path = path; splits = splits }

-- the names of a table's first seat: the empty one
abbrev pub first_names : List SeatName
first_names = seat_name [] 0 ∷ []

-- a seat's names after a split from the first of them
abbrev pub after_split : List SeatName → List SeatName
after_split [] = []
after_split (name ∷ names) = seat_name name.path (name.splits + 1) ∷ names

-- the names of the seat that is split off: the number of the split, before the path of the first name
abbrev pub split_off : List SeatName → List SeatName
split_off [] = []
split_off (name ∷ names) = seat_name ((name.splits + 1) ∷ name.path) 0 ∷ []

-- how many of the names have the path
abbrev pub held : List ℕ → List SeatName → ℕ
held path names = how_many (λ name. is_path path name.path) names

-- how many of the names have the path, and were split k times or more
abbrev pub split_from : List ℕ → ℕ → List SeatName → ℕ
split_from path k names = how_many (λ name. is_path path name.path && nat_le k name.splits) names

-- no path is held twice by the seats, and a path is held only if its parent is held and was split that often
pub record AreNamed (seats : List (List SeatName)) : Type 0 where
  pub once : (path : List ℕ) → total (held path) seats ≤ 1
  pub split : (k : ℕ) (path : List ℕ) → 0 < total (held (k ∷ path)) seats → (0 < k)
      × (0 < total (split_from path k) seats)

-- the empty path is held, and with each path all that were split from it
pub record IsWhole (names : List SeatName) : Type 0 where
  pub first : 0 < held [] names
  pub parts : (k : ℕ) (path : List ℕ) → 0 < k → 0 < split_from path k names → 0 < held (k ∷ path) names
