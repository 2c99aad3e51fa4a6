-- Each word of the next round key is an xor.
use Rattle.std.proofs.Common.{ap, ◌∙◌}
use Rattle.aes_cipher.specs.Cipher.{xor_bytes}
use Rattle.aes_cipher.specs.Columns.{word_bytes}
use Rattle.aes_cipher.proofs.RoundSteps.{xor-word_bytes}
use Rattle.aes_cipher.proofs.schedule.next_key.Goals as goal

pub returns-clause-first : goal.returns-clause-first
returns-clause-first c =
    xor-word_bytes c.args.key.now.first _
    ∙ ap (xor_bytes (word_bytes c.args.key.now.first)) (xor-word_bytes c.rotated_and_substituted.result c.args.constant
    ∙ ap (λ s. xor_bytes s (word_bytes c.args.constant)) c.rotated_and_substituted.ensures)

pub returns-clause-second : goal.returns-clause-second
returns-clause-second c = xor-word_bytes c.args.key.now.second _

pub returns-clause-third : goal.returns-clause-third
returns-clause-third c = xor-word_bytes c.args.key.now.third _

pub returns-clause-fourth : goal.returns-clause-fourth
returns-clause-fourth c = xor-word_bytes c.args.key.now.fourth _
