-- Four bytes from an offset, big-endian.
use Rattle.std.proofs.Common.{arith}
use Rattle.aes_cipher.proofs.RoundSteps.{word_at_is}
use Rattle.aes_cipher.proofs.rounds.word_at.Goals as goal

pub returns : goal.returns
returns c =
    word_at_is c.args.text.now c.args.at c.from_be_bytes.result (omega arith) (λ i. omega (arith, c.type_inv.text i))
    c.from_be_bytes.ensures
