-- The logs are those that the mark shows.
use Rattle.shared_shards.proofs.opening.start.Given as goal

abbrev pub ghosts-start_with : goal.ghosts-start_with
ghosts-start_with g a = record { opening = a.logs.now.view }
