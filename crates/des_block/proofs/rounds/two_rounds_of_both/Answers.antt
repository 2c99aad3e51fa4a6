-- Two rounds of each block.
use Rattle.des_block.specs.Keyed.{key_bits}
use Rattle.des_block.proofs.MixedSteps.{two_are}
use Rattle.des_block.proofs.rounds.two_rounds_of_both.Goals as goal

pub returns-clause-first : goal.returns-clause-first
returns-clause-first c =
    two_are c.args.halves.0 c.args.halves.1 _ _ (key_bits c.args.first.now) (key_bits c.args.second.now) c.mixed.ensures c.mixed-3.ensures

pub returns-clause-second : goal.returns-clause-second
returns-clause-second c =
    two_are c.args.beside.0 c.args.beside.1 _ _ (key_bits c.args.first.now) (key_bits c.args.second.now) c.mixed-2.ensures c.mixed-4.ensures
