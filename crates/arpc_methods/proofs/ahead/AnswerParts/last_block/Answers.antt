-- By either method it is the block of that method.
use Rattle.std.proofs.Common.{ap, ◌∙◌, sym, ◌++◌, ◌∷◌, replicate}
use Rattle.retail_mac.specs.Mac.{xor_bytes}
use Rattle.arpc_methods.specs.Ahead.{block_by, last_block}
use Rattle.arpc_methods.proofs.ahead.AnswerParts.last_block.Goals as goal

pub returns-in-One : goal.returns-in-One
unfolding last_block block_by
returns-in-One c = c.with_code.ensures ∙ sym (ap (λ method. block_by method c.args.self.now) c.in-One.is)

pub returns-in-Two : goal.returns-in-Two
unfolding last_block block_by
returns-in-Two c =
    c.with_update.ensures ∙ ap (λ first. xor_bytes first (c.args.self.now.csu ++ 0x80 ∷ replicate 3 0)) c.requires
    ∙ sym (ap (λ method. block_by method c.args.self.now) c.in-Two.is)
