-- The round keys so far.
use Rattle.des_block.specs.Keyed.{key_bits}
use Rattle.des_block.proofs.ScheduleSteps.{Lays}
use Rattle.des_block.proofs.schedule.round_keys.Given as goal

abbrev pub invariant-loop-i : goal.invariant-loop-i
invariant-loop-i l = Lays key_bits l.key l.i l.keys
