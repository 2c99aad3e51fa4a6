-- The session keys under the cipher of one suite.
use Rattle.std.proofs.Common.{◌≡◌, ℕ, List, ◌++◌, replicate}
use Rattle.issuer_base.specs.declared.request.Suite.{Suite}
use Rattle.issuer_base.specs.declared.request.Suite.TheVariants.{TripleDes, Aes}
use Rattle.des_block.specs.declared.Tdes.{Tdes}
use Rattle.des_block.specs.Keyed.{HasKeyPair}
use Rattle.aes_cipher.specs.declared.Aes.{Aes as AesCipher}
use Rattle.aes_cipher.specs.Cipher.{aes_encipher}
use Rattle.aes_cipher.specs.Columns.{HasKey}
use Rattle.key_derive.specs.declared.session.SuiteCipher.TheVariants.{TripleDes as UnderTripleDes, Aes as UnderAes}
use Rattle.key_derive.specs.SessionKey.{session_key, counter_bytes, session_ac, session_sm}
use Rattle.key_derive.specs.SuiteCipher.{HasCipherKey}

pub des-session_ac : (cipher : Tdes) (key : List ℕ) (atc : ℕ)
    → ((mk : List ℕ) → HasKeyPair cipher mk → key ≡ session_key mk (counter_bytes atc ++ replicate 6 0))
    → (suite : Suite) (mk : List ℕ) → HasCipherKey (UnderTripleDes cipher) suite mk → key ≡ session_ac suite mk atc
unfolding session_ac
des-session_ac cipher key atc is TripleDes mk has = is mk has
des-session_ac cipher key atc is Aes mk has = absurd has

pub aes-session_ac : (cipher : AesCipher) (key : List ℕ) (atc : ℕ)
    → ((mk : List ℕ) → HasKey cipher mk → key ≡ aes_encipher mk (counter_bytes atc ++ replicate 14 0))
    → (suite : Suite) (mk : List ℕ) → HasCipherKey (UnderAes cipher) suite mk → key ≡ session_ac suite mk atc
unfolding session_ac
aes-session_ac cipher key atc is TripleDes mk has = absurd has
aes-session_ac cipher key atc is Aes mk has = is mk has

pub des-session_sm : (cipher : Tdes) (key ac : List ℕ) → ((mk : List ℕ) → HasKeyPair cipher mk → key ≡ session_key mk ac)
    → (suite : Suite) (mk : List ℕ) → HasCipherKey (UnderTripleDes cipher) suite mk → key ≡ session_sm suite mk ac
unfolding session_sm
des-session_sm cipher key ac is TripleDes mk has = is mk has
des-session_sm cipher key ac is Aes mk has = absurd has

pub aes-session_sm : (cipher : AesCipher) (key ac : List ℕ)
    → ((mk : List ℕ) → HasKey cipher mk → key ≡ aes_encipher mk (ac ++ replicate 8 0))
    → (suite : Suite) (mk : List ℕ) → HasCipherKey (UnderAes cipher) suite mk → key ≡ session_sm suite mk ac
unfolding session_sm
aes-session_sm cipher key ac is TripleDes mk has = absurd has
aes-session_sm cipher key ac is Aes mk has = is mk has
