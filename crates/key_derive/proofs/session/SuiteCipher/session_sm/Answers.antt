-- The session key for secure messaging is derived from the request's cryptogram.
use Rattle.std.proofs.Common.{ap, ◌∙◌}
use Rattle.aes_cipher.specs.Cipher.{aes_encipher}
use Rattle.key_derive.proofs.Sessions.{des-session_sm, aes-session_sm}
use Rattle.key_derive.proofs.session.SuiteCipher.session_sm.Goals as goal

pub returns-in-TripleDes : goal.returns-in-TripleDes
returns-in-TripleDes c =
    rw (c.in-TripleDes.is) (des-session_sm c.in-TripleDes.cipher c.session_key.result.0 c.args.ac.now c.session_key.ensures)

pub returns-in-Aes : goal.returns-in-Aes
returns-in-Aes c =
    rw (c.in-Aes.is) (aes-session_sm c.in-Aes.cipher c.encipher.result c.args.ac.now (λ mk keyed. c.encipher.ensures mk keyed
    ∙ ap (aes_encipher mk) c.with_zeros.ensures))
