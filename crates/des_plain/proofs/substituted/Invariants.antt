-- The number so far is that of the outputs of the boxes so far.
use Rattle.des_block.specs.Tables.{s_boxes}
use Rattle.des_plain.proofs.PlainSteps.{Substitutes}
use Rattle.des_plain.proofs.substituted.Given as goal

abbrev pub invariant-loop-i : goal.invariant-loop-i
invariant-loop-i l = Substitutes s_boxes l.word l.i l.out
