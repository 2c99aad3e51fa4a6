-- Both blocks after the rounds so far.
use Rattle.std.proofs.Common.{◌*◌, map}
use Rattle.des_block.specs.Keyed.{key_bits}
use Rattle.des_block.proofs.MixedSteps.{Runs}
use Rattle.des_block.proofs.rounds.rounds_of_both.Given as goal

abbrev pub invariant-loop-i : goal.invariant-loop-i
invariant-loop-i l =
    Runs (map key_bits l.keys) l.initial.ready.0.0 l.initial.ready.0.1 (4 * l.i) l.ready.0.0 l.ready.0.1
    × Runs (map key_bits l.keys) l.initial.ready.1.0 l.initial.ready.1.1 (4 * l.i) l.ready.1.0 l.ready.1.1
