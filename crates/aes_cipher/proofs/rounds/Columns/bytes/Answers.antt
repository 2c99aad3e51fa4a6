-- The bytes of the four words, one after another.
use Rattle.aes_cipher.specs.Columns.{word_bytes}
use Rattle.aes_cipher.proofs.RoundSteps.{bytes_are}
use Rattle.aes_cipher.proofs.rounds.Columns.bytes.Goals as goal

pub returns : goal.returns
unfolding word_bytes
returns c =
    bytes_are c.to_be_bytes.result c.to_be_bytes-2.result c.to_be_bytes-3.result c.to_be_bytes-4.result c.args.self.now
    c.to_be_bytes.ensures c.to_be_bytes-2.ensures c.to_be_bytes-3.ensures c.to_be_bytes-4.ensures
