-- The round keys so far.
use Rattle.aes_cipher.proofs.ScheduleSteps.{Scheduled}
use Rattle.aes_cipher.proofs.schedule.round_keys.Given as goal

abbrev pub invariant-loop-i : goal.invariant-loop-i
invariant-loop-i l = Scheduled l.fn.key l.keys l.last l.i
