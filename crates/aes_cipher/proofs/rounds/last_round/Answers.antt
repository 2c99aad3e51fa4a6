-- Four columns that are not mixed, and the round key.
use Rattle.aes_cipher.proofs.RoundSteps.{last_round_is}
use Rattle.aes_cipher.proofs.rounds.last_round.Goals as goal

pub returns : goal.returns
returns c =
    last_round_is c.args.state.now c.args.key.now c.substituted_column.result c.substituted_column-2.result
    c.substituted_column-3.result c.substituted_column-4.result
    c.substituted_column.ensures c.substituted_column-2.ensures c.substituted_column-3.ensures
    c.substituted_column-4.ensures
