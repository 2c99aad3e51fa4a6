-- The words so far are those of the halves of the keys so far.
use Rattle.std.proofs.Common.{take, drop}
use Rattle.des_lanes.specs.Lanes.{key_at}
use Rattle.des_lanes.proofs.LaneWords.{Words}
use Rattle.des_lanes.proofs.words.half_words.Given as goal

abbrev pub invariant-loop-lane : goal.invariant-loop-lane
invariant-loop-lane l = record {
  left : Words (λ lane. take 8 (key_at l.keys lane)) l.lane l.left;
  right : Words (λ lane. drop 8 (key_at l.keys lane)) l.lane l.right;
}
