-- The chain over the blocks before the last one, from a block of zeros, and its end.
use Rattle.std.proofs.Common.{◌∙◌, ap, fold, ◌/◌}
use Rattle.std.proofs.lemmas.List.{take_rest}
use Rattle.aes_cipher.specs.Mac.{zero_block, blocks, blocks_before_last, chained}
use Rattle.aes_cipher.proofs.Blocks.{cmac_end}
use Rattle.aes_cipher.proofs.mac.CmacKey.cmac.Goals as goal

pub returns : goal.returns
unfolding zero_block blocks_before_last
returns c = λ key keyed.
    let text = c.args.text.now in
    c.ended.ensures key keyed
    ∙ cmac_end key text _ _ _ (ap (λ k. k / 16) c.saturating_sub-count.ensures)
    (c.chained-chain.ensures key keyed.cipher
    ∙ ap (λ start. fold (chained key) start (blocks (c.saturating_sub-count.result / 16) text)) c.new-start.ensures)
    (take_rest text _)
