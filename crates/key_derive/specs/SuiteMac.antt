-- The MAC of a card's suite.
use Rattle.std.specs.Prelude.{ℕ, List, take}
use Rattle.issuer_base.specs.declared.request.Suite.{Suite}
use Rattle.issuer_base.specs.declared.request.Suite.TheVariants.{TripleDes, Aes}
use Rattle.des_block.specs.Keyed.{HasKeyPair}
use Rattle.retail_mac.specs.Mac.{retail_mac}
use Rattle.aes_cipher.specs.Mac.{cmac, HasCmacKey}
use Rattle.key_derive.specs.declared.key.MacKey.{MacKey}
use Rattle.key_derive.specs.declared.key.MacKey.TheVariants.{TripleDes as TripleDesKey, Aes as AesKey}

-- the MAC, eight bytes: the retail MAC for triple DES, ISO/IEC 9797-1, algorithm 3; for AES the first half of the CMAC,
-- SP 800-38B, which is this project's profile
unfoldable pub mac_of : Suite → List ℕ → List ℕ → List ℕ
mac_of TripleDes key text = retail_mac key text
mac_of Aes key text = take 8 (cmac key text)

-- the key schedules are those of this key in this suite
abbrev pub HasMacKey : MacKey → Suite → List ℕ → Type 0
HasMacKey (TripleDesKey cipher) TripleDes key = HasKeyPair cipher key
HasMacKey (AesKey cipher) Aes key = HasCmacKey cipher key
HasMacKey _ _ key = ⊥
