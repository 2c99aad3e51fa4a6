-- There is one tally less each time.
use Rattle.sharing_tests.proofs.turns.sum_counts.Given as goal

abbrev pub decreases-loop-tally : goal.decreases-loop-tally
decreases-loop-tally l = goal.left-loop-tally l
