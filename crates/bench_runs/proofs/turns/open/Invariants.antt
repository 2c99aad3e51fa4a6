-- The opening logs are empty.
use Rattle.std.proofs.Common.{map}
use Rattle.bench_runs.proofs.Tallies.{log_of}
use Rattle.bench_runs.proofs.turns.open.Given as goal

abbrev pub ghosts-load : goal.ghosts-load
ghosts-load a = record { opening = map log_of a.values.items }
