-- Four mixed columns, and the round key.
use Rattle.aes_cipher.proofs.RoundSteps.{round_is}
use Rattle.aes_cipher.proofs.rounds.round.Goals as goal

pub returns : goal.returns
returns c =
    round_is c.args.state.now c.args.key.now c.mixed_column.result c.mixed_column-2.result c.mixed_column-3.result
    c.mixed_column-4.result
    c.mixed_column.ensures c.mixed_column-2.ensures c.mixed_column-3.ensures c.mixed_column-4.ensures
