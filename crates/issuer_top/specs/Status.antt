-- The status of each ending.
use Rattle.std.specs.Prelude.{ℕ}
use Rattle.answer_text.specs.StopText.{status_of_stop}
use Rattle.issuer_top.specs.declared.ending.Ending.{Ending}
use Rattle.issuer_top.specs.declared.ending.Ending.TheVariants.{Done, Stopped, WriteFault}

-- the status of a run that ended so
abbrev pub status_of : Ending → ℕ
status_of Done = 0
status_of (Stopped stop) = status_of_stop stop
status_of WriteFault = 4
