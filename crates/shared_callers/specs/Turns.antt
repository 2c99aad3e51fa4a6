-- Which lines and texts the parts have, if all are dealt in turns.
use Rattle.std.specs.Prelude.{◌≡◌, ℕ, ◌+◌, ◌%◌, ◌<◌, List, ◌++◌, length}
use Rattle.shared_laws.specs.Dealing.{HaveTurns}
use Rattle.shared_callers.specs.Parts.{lines_of}
use Rattle.shared_callers.specs.declared.part.Part.{Part}

-- the turn after this one, of `count` turns
abbrev pub IsBehind : ℕ → ℕ → ℕ → Type 0
IsBehind count turn next = (turn + 1 < count → next ≡ turn + 1) × (turn + 1 ≡ count → next ≡ 0)

-- after those before, these lines were dealt in turns and wait, so many of them; `first` is the part that has the first
-- one, and `next` the part that gets the next one
pub record AreWaiting (parts : List Part) (first next count : ℕ) (before waiting : List (List ℕ)) : Type 0 where
  pub count_is : count ≡ length waiting
  pub first_is : first ≡ length before % length parts
  pub next_is : next ≡ length (before ++ waiting) % length parts
  pub turns : HaveTurns lines_of parts before waiting

-- after those that were taken, these texts are due, so many of them; `from` is the lane that has the first one
pub record AreDue {L : Type 0} (texts_in : L → List (List ℕ)) (lanes : List L) (from count : ℕ)
    (taken due : List (List ℕ)) : Type 0 where
  pub count_is : count ≡ length due
  pub from_is : from ≡ length taken % length lanes
  pub turns : HaveTurns texts_in lanes taken due

-- so it is for some lines
pub record IsWaiting (parts : List Part) (first next count : ℕ) : Type 0 where
  pub before : List (List ℕ)
  pub waiting : List (List ℕ)
  pub are : AreWaiting parts first next count before waiting

-- so it is for some texts
pub record IsDue {L : Type 0} (texts_in : L → List (List ℕ)) (lanes : List L) (from count : ℕ) : Type 0 where
  pub taken : List (List ℕ)
  pub due : List (List ℕ)
  pub are : AreDue texts_in lanes from count taken due
