-- How the program ends, and what was read and said then.
use Rattle.std.specs.Prelude.{Bool, true, false, ◌≡◌, ◌⊎◌, ℕ, List, ◌∷◌, [], ◌++◌, length, take, Option, Some, None}
use Rattle.std.specs.Io.KnownBytes.{Consumes, IsAtEnd}
use Rattle.bridge_lines.specs.declared.action.Why.{Why}
use Rattle.bridge_lines.specs.declared.action.Why.TheVariants.{BadLine}
use Rattle.bridge_lines.specs.Acts.{Act, Stop}
use Rattle.bridge_lines.specs.TurnReading.{turn_end}
use Rattle.bridge_serve.specs.declared.ended.Ended.{Ended}
use Rattle.bridge_serve.specs.declared.ended.Ended.TheVariants as by
use Rattle.bridge_serve.specs.declared.window.TheConstants.{WINDOW_BYTES}
use Rattle.bridge_serve.specs.Runs.{DeskState, Run, IsRefused}

-- since the input was `all` and `before` had been said, whole turns were read and answered, and the bytes `ahead` were
-- read beyond them
pub record Serves (before : List Act) (all left : Option (List ℕ)) (ahead : List ℕ) (desk : DeskState) (said : List Act)
    : Type 0 where
  pub read : List ℕ
  pub run : Run before read desk said
  pub consumed : Consumes all left (read ++ ahead)

-- the bytes have no whole turn, though there is no room for more; or the first turn of them isn't taken
abbrev pub MayStop : List ℕ → DeskState → Why → Type 0
MayStop ahead desk why =
    ((why ≡ BadLine) × (turn_end ahead ≡ None) × (length ahead ≡ WINDOW_BYTES))
    ⊎ ((end : ℕ) × (turn_end ahead ≡ Some end) × IsRefused (take end ahead) desk why)

-- and this is said last
pub record Stops (ahead : List ℕ) (desk : DeskState) (said final : List Act) : Type 0 where
  pub why : Why
  pub may_stop : MayStop ahead desk why
  pub final_is : final ≡ said ++ Stop why ∷ []

-- what is so at each end: of the bytes that were read and not answered, and of all that was said
abbrev pub HasEnded : Ended → Option (List ℕ) → List ℕ → DeskState → List Act → List Act → Type 0
-- all of the input was read, and its last bytes are no whole turn
HasEnded by.AtEnd left ahead desk said final = IsAtEnd left × (turn_end ahead ≡ None) × (final ≡ said)
HasEnded by.Stopped left ahead desk said final = Stops ahead desk said final
HasEnded by.NoInput left ahead desk said final = ⊥
HasEnded by.ReadFault left ahead desk said final = (turn_end ahead ≡ None) × (final ≡ said)
-- the output didn't take all that was said
HasEnded by.WriteFault left ahead desk said final = (final ≡ said) ⊎ Stops ahead desk said final
HasEnded by.NoMemory left ahead desk said final = final ≡ said
HasEnded by.TooMany left ahead desk said final = final ≡ said

pub record Ends (before : List Act) (all left : Option (List ℕ)) (ended : Ended) (final : List Act) : Type 0 where
  pub ahead : List ℕ
  pub desk : DeskState
  pub said : List Act
  pub serves : Serves before all left ahead desk said
  pub has_ended : HasEnded ended left ahead desk said final

-- it goes on, or has ended
abbrev pub GoesOn : List Act → Option (List ℕ) → Option (List ℕ) → List ℕ → DeskState → Option Ended → List Act → Type 0
GoesOn before all left ahead desk None final = Serves before all left ahead desk final
GoesOn before all left ahead desk (Some ended) final = Ends before all left ended final

-- whether it ended since the input failed
abbrev pub is_read_fault : Ended → Bool
is_read_fault by.AtEnd = false
is_read_fault by.Stopped = false
is_read_fault by.NoInput = false
is_read_fault by.ReadFault = true
is_read_fault by.WriteFault = false
is_read_fault by.NoMemory = false
is_read_fault by.TooMany = false

abbrev pub some_read_fault : Option Ended → Bool
some_read_fault None = false
some_read_fault (Some ended) = is_read_fault ended

-- whether it ended since the output failed
abbrev pub is_write_fault : Ended → Bool
is_write_fault by.AtEnd = false
is_write_fault by.Stopped = false
is_write_fault by.NoInput = false
is_write_fault by.ReadFault = false
is_write_fault by.WriteFault = true
is_write_fault by.NoMemory = false
is_write_fault by.TooMany = false
