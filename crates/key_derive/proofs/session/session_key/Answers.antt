-- The halves of the session key are two encipherments that differ in the third byte of the block.
use Rattle.std.proofs.Common.{◌++◌, ap, ap₂, ◌∙◌}
use Rattle.des_block.specs.Cipher.{tdes_encipher}
use Rattle.key_derive.specs.SessionKey.{session_key}
use Rattle.key_derive.proofs.session.session_key.Goals as goal

pub returns : goal.returns
unfolding session_key
returns c mk keyed =
    c.joined.ensures
    ∙ ap₂ (λ left right. left ++ right)
    (c.encipher_both.ensures.first mk keyed ∙ ap (tdes_encipher mk) c.with_third.ensures)
    (c.encipher_both.ensures.second mk keyed ∙ ap (tdes_encipher mk) c.with_third-2.ensures)
