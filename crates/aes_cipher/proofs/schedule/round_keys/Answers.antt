-- Each round key is appended to those before it.
use Rattle.std.proofs.Common.{arith, refl}
use Rattle.aes_cipher.proofs.ScheduleSteps.{Scheduled_none, Scheduled_more, Scheduled_all}
use Rattle.aes_cipher.proofs.schedule.round_keys.Goals as goal

pub loop-i-init : goal.loop-i-init
loop-i-init c = Scheduled_none c.args.key.now _ refl refl

pub loop-i-preserved : goal.loop-i-preserved
loop-i-preserved c =
    Scheduled_more c.args.key.now c.loop-i.keys c.loop-i.last c.next_key-last.result c.loop-i.i _ c.loop-i.invariant
    (omega arith) refl
    c.next_key-last.ensures.first c.next_key-last.ensures.second c.next_key-last.ensures.third
    c.next_key-last.ensures.fourth

pub returns : goal.returns
returns c = Scheduled_all c.args.key.now c.loop-i.keys c.loop-i.last c.loop-i.i c.loop-i.invariant (omega arith)
