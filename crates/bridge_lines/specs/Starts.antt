-- What a bridge begins with, and how its lines change it.
use Rattle.std.specs.Prelude.{ℕ, List, [], replicate, slice_set}
use Rattle.one_history.specs.Streams.{Word}
use Rattle.bridge_rule.specs.declared.limits.TheConstants.{LOGS}
use Rattle.bridge_rule.specs.declared.opening.Opening.{Opening}
use Rattle.bridge_lines.specs.declared.beginning.Beginning.{Beginning}
use Rattle.bridge_lines.specs.declared.beginning.Given.{Given}
use Rattle.bridge_lines.specs.declared.beginning.Given.TheVariants as of

-- its machine's name, the last barrier that counts, and how many records of each shard count
pub record Start : Type 0 where
  pub machine : Word
  pub last : Opening
  pub counts : List ℕ

abbrev pub start_of : Beginning → Start
start_of beginning = record { machine = beginning.machine.items; last = beginning.last; counts = beginning.counts }

-- where no barrier counts, and no record
abbrev pub no_start : Start
no_start = record {
  machine = [];
  last = record { number = 0; name = record { items = [] }; machine = record { items = [] } };
  counts = replicate LOGS 0;
}

-- a position begins anew; a name or a count comes in place of the one before
abbrev pub given_to : Start → Given → Start
given_to start (of.Position opening) = record { machine = []; last = opening; counts = replicate LOGS 0 }
given_to start (of.Machine name) = record start { machine = name.items }
given_to start (of.Count counted) = record start { counts = slice_set start.counts counted.shard counted.number }
