-- A whole block is xored with K1, and a padded one with K2.
use Rattle.std.proofs.Common.{◌∙◌, ap₂, arith}
use Rattle.std.proofs.lemmas.List.{take_all}
use Rattle.aes_cipher.specs.Cipher.{xor_bytes}
use Rattle.aes_cipher.proofs.Blocks.{masked_whole, masked_filled}
use Rattle.aes_cipher.proofs.mac.CmacKey.masked.Goals as goal

pub returns-then-last-eq16 : goal.returns-then-last-eq16
returns-then-last-eq16 c = λ key ready.
    let last = c.args.last.now in
    c.xor.ensures ∙ ap₂ xor_bytes (c.at.ensures ∙ take_all 16 last (omega arith)) ready.whole
    ∙ masked_whole key last (omega arith)

pub returns : goal.returns
returns c = λ key ready.
    c.xor-2.ensures ∙ ap₂ xor_bytes c.filled.ensures ready.padded ∙ masked_filled key c.args.last.now (omega arith)
