-- The word of the bytes so far.
use Rattle.std.proofs.Common.{◌≡◌, ◌-◌, ◌*◌, ◌/◌, ◌^◌}
use Rattle.des_block.specs.Schedule.{key_choice}
use Rattle.des_block.proofs.Linear.{word_picked}
use Rattle.des_block.proofs.schedule.key_word.Given as goal

abbrev pub invariant-loop-j : goal.invariant-loop-j
invariant-loop-j l = l.word ≡ word_picked 64 (key_choice l.i) (l.key / 2 ^ (64 - 8 * l.j) * 2 ^ (64 - 8 * l.j))
