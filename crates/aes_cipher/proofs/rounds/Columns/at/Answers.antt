-- Four words one after another are the block.
use Rattle.std.proofs.Common.{arith}
use Rattle.aes_cipher.proofs.RoundSteps.{state_at_is}
use Rattle.aes_cipher.proofs.rounds.Columns.at.Goals as goal

pub returns : goal.returns
returns c =
    state_at_is c.args.text.now c.args.at
    (record {
      first = c.word_at.result;
      second = c.word_at-2.result;
      third = c.word_at-3.result;
      fourth = c.word_at-4.result;
    })
    (omega arith) c.word_at.ensures c.word_at-2.ensures c.word_at-3.ensures c.word_at-4.ensures
