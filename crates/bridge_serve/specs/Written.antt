-- What is written of a run.
use Rattle.std.specs.Prelude.{ℕ, List, [], Option}
use Rattle.std.specs.List.{flat_map}
use Rattle.std.specs.Io.KnownBytes.{Appends}
use Rattle.bridge_lines.specs.Acts.{Act}
use Rattle.bridge_lines.specs.ActLines.{lines_of}
use Rattle.bridge_serve.specs.declared.ended.Ended.{Ended}
use Rattle.bridge_serve.specs.declared.ended.Ended.TheVariants.{AtEnd, Stopped, NoInput, ReadFault, WriteFault, NoMemory, TooMany}
use Rattle.bridge_serve.specs.Printing.{Fails}
use Rattle.bridge_serve.specs.Ends.{Ends}

-- all of the lines were written, or the first bytes of them where the output failed
abbrev pub IsWritten : Ended → Option (List ℕ) → Option (List ℕ) → List ℕ → Type 0
IsWritten AtEnd old new lines = Appends old new lines
IsWritten Stopped old new lines = Appends old new lines
IsWritten NoInput old new lines = Appends old new lines
IsWritten ReadFault old new lines = Appends old new lines
IsWritten WriteFault old new lines = Fails old new lines
IsWritten NoMemory old new lines = Appends old new lines
IsWritten TooMany old new lines = Appends old new lines

-- since the input was `all`, and the output `old`: turns were read and answered, the program ended in this way, and the
-- lines of all that was said were written
pub record WritesRun (all left : Option (List ℕ)) (ended : Ended) (old new : Option (List ℕ)) : Type 0 where
  pub said : List Act
  pub ends : Ends [] all left ended said
  pub written : IsWritten ended old new (flat_map lines_of said)
