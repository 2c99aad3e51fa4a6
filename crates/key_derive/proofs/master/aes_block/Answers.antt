-- Five bytes of zeros and the packed card number are the 32 digits.
use Rattle.std.proofs.Common.{◌∷◌, sym, ap, ◌∙◌, arith, append-nil}
use Rattle.aes_cipher.specs.Cipher.{aes_encipher}
use Rattle.key_derive.specs.MasterKey.{aes_master}
use Rattle.key_derive.proofs.Packing.{packed-32}
use Rattle.key_derive.proofs.master.aes_block.Goals as goal

pub returns : goal.returns
unfolding aes_master
returns c imk =
    sym (ap (aes_encipher imk) (ap (λ rest. 0 ∷ 0 ∷ 0 ∷ 0 ∷ 0 ∷ rest) (append-nil c.copy_from_slice.new.self
    ∙ c.copy_from_slice.ensures.after ∙ c.written.ensures.exact)
    ∙ packed-32 c.args.pan.now c.args.psn (omega (arith, c.written.ensures.within))))
