-- The CMAC under a key that is computed first.
use Rattle.aes_cipher.proofs.mac.cmac.Goals as goal

pub returns : goal.returns
returns c = c.cmac.ensures c.args.key.now c.new.ensures
