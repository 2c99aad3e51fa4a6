-- The xor goes word by word.
use Rattle.aes_cipher.specs.Columns.{state_bytes}
use Rattle.aes_cipher.proofs.RoundSteps.{xor_state}
use Rattle.aes_cipher.proofs.rounds.Columns.xor.Goals as goal

pub returns : goal.returns
unfolding state_bytes
returns c =
    xor_state c.args.self.now.first c.args.self.now.second c.args.self.now.third c.args.self.now.fourth c.args.other.now
