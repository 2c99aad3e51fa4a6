-- Each round key is appended to those before it.
use Rattle.std.proofs.Common.{refl, arith}
use Rattle.des_block.specs.Keyed.{key_bits}
use Rattle.des_block.proofs.ScheduleSteps.{Lays_more, Lays_all}
use Rattle.des_block.proofs.schedule.round_keys.Goals as goal

pub loop-i-preserved : goal.loop-i-preserved
unfolding key_bits
loop-i-preserved c =
    Lays_more key_bits c.args.key c.loop-i.i c.loop-i.keys c.key_word.result c.key_word-in-loop-i.result _ c.loop-i.invariant (omega arith)
    c.key_word.ensures c.key_word-in-loop-i.ensures refl

pub returns : goal.returns
returns c = Lays_all key_bits c.args.key c.loop-i.i c.loop-i.keys (omega arith) c.loop-i.invariant
