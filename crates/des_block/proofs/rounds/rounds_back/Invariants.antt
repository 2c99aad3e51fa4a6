-- The rounds so far, four in a step, with the keys in reverse order.
use Rattle.std.proofs.Common.{◌*◌, map, reverse}
use Rattle.des_block.specs.Keyed.{key_bits}
use Rattle.des_block.proofs.MixedSteps.{Runs}
use Rattle.des_block.proofs.rounds.rounds_back.Given as goal

abbrev pub invariant-loop-i : goal.invariant-loop-i
invariant-loop-i l = Runs (reverse (map key_bits l.keys)) l.initial.ready.0 l.initial.ready.1 (4 * l.i) l.ready.0 l.ready.1
