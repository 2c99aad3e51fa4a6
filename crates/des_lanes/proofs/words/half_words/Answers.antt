-- One word more of each half.
use Rattle.std.proofs.Common.{refl, arith, ◌∙◌}
use Rattle.des_lanes.specs.Lanes.{key_at}
use Rattle.des_lanes.proofs.LaneWords.{Words_none, Words_more}
use Rattle.des_lanes.proofs.words.half_words.Goals as goal

pub loop-lane-init : goal.loop-lane-init
loop-lane-init c = record { left = Words_none _ _ refl; right = Words_none _ _ refl }

pub loop-lane-preserved : goal.loop-lane-preserved
unfolding key_at
loop-lane-preserved c = record {
  left = Words_more _ c.loop-lane.lane c.word_from.result c.loop-lane.left c.loop-lane.invariant.left (omega arith)
      (c.word_from.ensures ∙ c.left_half.ensures);
  right = Words_more _ c.loop-lane.lane c.word_from-in-loop-lane.result c.loop-lane.right c.loop-lane.invariant.right (omega arith)
      (c.word_from-in-loop-lane.ensures ∙ c.right_half.ensures);
}

pub returns-clause-left : goal.returns-clause-left
returns-clause-left c = λ lane below. c.loop-lane.invariant.left.at lane (omega arith)

pub returns-clause-right : goal.returns-clause-right
returns-clause-right c = λ lane below. c.loop-lane.invariant.right.at lane (omega arith)
