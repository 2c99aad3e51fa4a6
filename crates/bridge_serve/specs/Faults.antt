-- Why a turn isn't taken.
use Rattle.std.specs.Prelude.{ℕ, List, ⊤}
use Rattle.bridge_serve.specs.declared.desk.Fault.{Fault}
use Rattle.bridge_serve.specs.declared.desk.Fault.TheVariants.{Stop, NoMemory}
use Rattle.bridge_serve.specs.Runs.{DeskState, IsRefused}

-- it is refused, or no memory was left
abbrev pub IsFault : Fault → List ℕ → DeskState → Type 0
IsFault (Stop why) turn desk = IsRefused turn desk why
IsFault NoMemory turn desk = ⊤
