-- The exit status of each ending.
use Rattle.std.specs.Prelude.{ℕ}
use Rattle.bridge_serve.specs.declared.ended.Ended.{Ended}
use Rattle.bridge_serve.specs.declared.ended.Ended.TheVariants as by

-- the exit status of a program that ended so
abbrev pub status_of : Ended → ℕ
status_of by.AtEnd = 0
status_of by.Stopped = 1
status_of by.NoInput = 3
status_of by.ReadFault = 3
status_of by.WriteFault = 4
status_of by.NoMemory = 7
status_of by.TooMany = 8
