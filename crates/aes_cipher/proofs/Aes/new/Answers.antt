-- The stored round keys are those of the key.
use Rattle.std.proofs.Common.{ap, ◌∙◌}
use Rattle.aes_cipher.specs.Cipher.{round_keys}
use Rattle.aes_cipher.specs.Columns.{HasKey}
use Rattle.aes_cipher.proofs.Aes.new.Goals as goal

pub returns : goal.returns
unfolding HasKey
returns c = c.round_keys.ensures ∙ ap round_keys c.new.ensures
