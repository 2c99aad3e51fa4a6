-- The block and its complement, both enciphered, are the halves of the key, which is set to odd parity.
use Rattle.std.proofs.Common.{◌++◌, map, ap, ap₂, ◌∙◌}
use Rattle.des_block.specs.Cipher.{tdes_encipher}
use Rattle.key_derive.specs.MasterKey.{with_odd_parity, diversified}
use Rattle.key_derive.proofs.master.diversified.Goals as goal

pub returns : goal.returns
unfolding diversified
returns c imk keyed =
    c.in_odd_parity.ensures
    ∙ ap (map with_odd_parity) (c.joined.ensures ∙ ap₂ (λ left right. left ++ right)
    (c.encipher_both.ensures.first imk keyed)
    (c.encipher_both.ensures.second imk keyed ∙ ap (tdes_encipher imk) c.complement.ensures))
