-- One word more.
use Rattle.std.proofs.Common.{refl, arith}
use Rattle.des_lanes.proofs.LaneWords.{Words_none, Words_more}
use Rattle.des_lanes.proofs.words.words_of.Goals as goal

pub loop-lane-init : goal.loop-lane-init
loop-lane-init c = Words_none _ _ refl

pub loop-lane-preserved : goal.loop-lane-preserved
loop-lane-preserved c = Words_more _ c.loop-lane.lane c.word_from.result c.loop-lane.words c.loop-lane.invariant (omega arith) c.word_from.ensures

pub returns : goal.returns
returns c = λ lane below. c.loop-lane.invariant.at lane (omega arith)
