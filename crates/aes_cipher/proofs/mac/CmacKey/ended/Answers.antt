-- The masked block is the last of the chain.
use Rattle.std.proofs.Common.{ap, ◌∙◌, arith}
use Rattle.aes_cipher.specs.Columns.{state_bytes}
use Rattle.aes_cipher.specs.Mac.{chained}
use Rattle.aes_cipher.proofs.Blocks.{one_block}
use Rattle.aes_cipher.proofs.mac.CmacKey.ended.Goals as goal

pub returns : goal.returns
returns c = λ key keyed.
    let chain = state_bytes c.args.chain.now in
    c.bytes.ensures ∙ c.chained.ensures key keyed.cipher
    ∙ one_block key chain c.bytes-block.result (omega arith)
    ∙ ap (chained key chain) (c.bytes-block.ensures ∙ c.masked.ensures key keyed)
