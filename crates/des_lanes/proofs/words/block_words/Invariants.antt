-- The words so far are those of the block of the texts so far.
use Rattle.std.proofs.Common.{◌≡◌, ℕ, ◌*◌, ◌<◌, length, get_or, take, drop, []}
use Rattle.retail_mac.specs.Mac.{padded}
use Rattle.des_lanes.proofs.LaneWords.{Words}
use Rattle.des_lanes.proofs.words.block_words.Given as goal

abbrev pub invariant-loop-lane : goal.invariant-loop-lane
invariant-loop-lane g l = record {
  block : Words (λ lane. take 8 (drop (8 * l.i) (padded (get_or l.texts lane [])))) l.lane l.words;
  sized : (lane : ℕ) → lane < l.lane → length (get_or l.texts lane []) ≡ g.row.N;
}
