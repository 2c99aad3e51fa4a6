-- The chain from a block of zeros, and its end.
use Rattle.std.proofs.Common.{◌∙◌, take, ap, fold, ◌/◌, length}
use Rattle.std.proofs.lemmas.List.{take_rest}
use Rattle.des_block.specs.Cipher.{word_bytes}
use Rattle.retail_mac.specs.Mac.{blocks, chained}
use Rattle.retail_mac.proofs.Blocks.{zero_word}
use Rattle.retail_mac.proofs.Pieces.{retail_mac-end}
use Rattle.retail_mac.proofs.mac_under.Goals as goal

pub returns : goal.returns
returns c = λ key keyed.
    let text = c.args.text.now in
    c.ended.ensures key keyed
    ∙ retail_mac-end key text _ _
    (c.chained.ensures (take 8 key) (c.left.ensures key keyed) ∙ ap (λ start. fold (chained (take 8 key)) start (blocks (length text / 8) text))
    (ap word_bytes c.new-chain.ensures ∙ zero_word))
    (take_rest text _)
