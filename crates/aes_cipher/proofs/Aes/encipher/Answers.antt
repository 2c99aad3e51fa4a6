-- A chain of one block from zeros is the block, enciphered.
use Rattle.std.proofs.Common.{ap, ◌∙◌, fold, arith}
use Rattle.aes_cipher.specs.Mac.{zero_block, blocks, chained}
use Rattle.aes_cipher.proofs.Blocks.{one_block, first_block}
use Rattle.aes_cipher.proofs.Aes.encipher.Goals as goal

pub returns : goal.returns
unfolding zero_block
returns c = λ key keyed.
    let block = c.args.block in
    c.bytes.ensures ∙ c.chained.ensures key keyed
    ∙ ap (λ start. fold (chained key) start (blocks 1 block)) c.new.ensures
    ∙ one_block key zero_block block (omega arith) ∙ first_block key block (omega arith)
