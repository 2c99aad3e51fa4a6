-- The words so far are those of the blocks so far.
use Rattle.std.proofs.Common.{get_or, []}
use Rattle.des_lanes.proofs.LaneWords.{Words}
use Rattle.des_lanes.proofs.words.words_of.Given as goal

abbrev pub invariant-loop-lane : goal.invariant-loop-lane
invariant-loop-lane l = Words (λ lane. get_or l.blocks lane []) l.lane l.words
