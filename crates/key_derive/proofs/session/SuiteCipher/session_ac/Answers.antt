-- The session key for cryptograms is derived from the two bytes of the ATC, followed by zeros.
use Rattle.std.proofs.Common.{◌≡◌, ◌/◌, ◌%◌, [], ◌∷◌, get_or, ap, ap₂, ◌∙◌, arith}
use Rattle.aes_cipher.specs.Cipher.{aes_encipher}
use Rattle.key_derive.specs.SessionKey.{session_key}
use Rattle.key_derive.proofs.Sessions.{des-session_ac, aes-session_ac}
use Rattle.key_derive.proofs.session.SuiteCipher.session_ac.Goals as goal

pub returns-in-TripleDes : goal.returns-in-TripleDes
returns-in-TripleDes c =
    let high : get_or c.to_be_bytes.result 0 0 ≡ c.args.atc / 256 = ap (λ bytes. get_or bytes 0 0) c.to_be_bytes.ensures ∙ omega arith in
    let low : get_or c.to_be_bytes.result 1 0 ≡ c.args.atc % 256 = ap (λ bytes. get_or bytes 1 0) c.to_be_bytes.ensures ∙ omega arith in
    rw (c.in-TripleDes.is) (des-session_ac c.in-TripleDes.cipher c.session_key.result.0 c.args.atc (λ mk keyed.
    c.session_key.ensures mk keyed ∙ ap (session_key mk) (ap₂ (λ h l. h ∷ l ∷ 0 ∷ 0 ∷ 0 ∷ 0 ∷ 0 ∷ 0 ∷ []) high low)))

pub returns-in-Aes : goal.returns-in-Aes
returns-in-Aes c =
    let high : get_or c.to_be_bytes.result 0 0 ≡ c.args.atc / 256 = ap (λ bytes. get_or bytes 0 0) c.to_be_bytes.ensures ∙ omega arith in
    let low : get_or c.to_be_bytes.result 1 0 ≡ c.args.atc % 256 = ap (λ bytes. get_or bytes 1 0) c.to_be_bytes.ensures ∙ omega arith in
    rw (c.in-Aes.is) (aes-session_ac c.in-Aes.cipher c.encipher.result c.args.atc (λ mk keyed. c.encipher.ensures mk keyed
    ∙ ap (aes_encipher mk) (ap₂ (λ h l. h ∷ l ∷ 0 ∷ 0 ∷ 0 ∷ 0 ∷ 0 ∷ 0 ∷ 0 ∷ 0 ∷ 0 ∷ 0 ∷ 0 ∷ 0 ∷ 0 ∷ 0 ∷ []) high low)))
