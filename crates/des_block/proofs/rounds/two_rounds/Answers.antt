-- Two rounds of one block.
use Rattle.des_block.specs.Keyed.{key_bits}
use Rattle.des_block.proofs.MixedSteps.{two_are}
use Rattle.des_block.proofs.rounds.two_rounds.Goals as goal

pub returns : goal.returns
returns c = two_are c.args.halves.0 c.args.halves.1 _ _ (key_bits c.args.first.now) (key_bits c.args.second.now) c.mixed.ensures c.mixed-2.ensures
