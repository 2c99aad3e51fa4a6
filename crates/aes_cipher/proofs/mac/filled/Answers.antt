-- The bytes, a byte 80 and zeros.
use Rattle.std.proofs.Common.{◌∙◌, length, refl}
use Rattle.aes_cipher.proofs.Blocks.{filled_is}
use Rattle.aes_cipher.proofs.mac.filled.Goals as goal

pub returns : goal.returns
returns c =
    c.new.ensures ∙ filled_is c.args.last.now c.copy_from_slice.new.self (length c.args.last.now) c.requires refl
    c.copy_from_slice.ensures.after
