-- The opening logs are empty.
use Rattle.std.proofs.Common.{map}
use Rattle.sharing_tests.specs.declared.turns.Tally.{Tally}
use Rattle.turn_book.proofs.CountingLemmas.{log_of}
use Rattle.sharing_tests.proofs.turns.open.Given as goal

abbrev pub ghosts-load : goal.ghosts-load
ghosts-load a = record { opening = map (log_of (λ (tally : Tally). tally.shard) (λ (tally : Tally). tally.count)) a.values.items }
