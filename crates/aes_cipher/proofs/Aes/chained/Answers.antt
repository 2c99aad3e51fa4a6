-- One block more, and the chain is still that of the blocks so far.
use Rattle.std.proofs.Common.{refl, ap₂, ◌∙◌}
use Rattle.aes_cipher.specs.Cipher.{ciphered, aes_encipher}
use Rattle.aes_cipher.specs.Columns.{HasKey}
use Rattle.aes_cipher.specs.Mac.{blocks}
use Rattle.aes_cipher.proofs.Blocks.{chained-more}
use Rattle.aes_cipher.proofs.Aes.chained.Goals as goal

pub loop-i-init : goal.loop-i-init
unfolding blocks
loop-i-init c = λ key keyed. refl

pub loop-i-preserved : goal.loop-i-preserved
unfolding HasKey aes_encipher
loop-i-preserved c = λ key keyed.
    chained-more key c.args.text.now _ _ _ _ c.loop-i.i (c.loop-i.invariant key keyed) c.at.ensures
    (c.enciphered-chain.ensures ∙ ap₂ ciphered keyed c.xor.ensures)
