-- The parts of a row of the decision table, as the code reads them.
use Rattle.std.specs.Prelude.{ℕ, Bool, List, codes, Option, Some}
use Rattle.std.specs.Option.{option_and_then}
use Rattle.serde_json.specs.Data.{Data}
use Rattle.serde_json.specs.Find.{get, as_bool}
use Rattle.config_read.specs.Elements.{◌>>=◌, bytes_member}

-- what a row decides: the response code, whether it approves, the status update
abbrev pub decision_in : Data → Option (List ℕ × Bool × List ℕ)
decision_in element = do
  arc ← bytes_member (codes "arc") 2 element
  approve ← option_and_then as_bool (get (codes "approve") element)
  csu ← bytes_member (codes "csu") 4 element
  Some (arc, approve, csu)
