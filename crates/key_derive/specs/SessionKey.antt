-- Session keys: EMV 4.3 Book 2, Annex A1.3.1, for triple DES. Those with AES are this project's profile.
use Rattle.std.specs.Prelude.{ℕ, ◌/◌, ◌%◌, List, [], ◌∷◌, ◌++◌, replicate, slice_set}
use Rattle.issuer_base.specs.declared.request.Suite.{Suite}
use Rattle.issuer_base.specs.declared.request.Suite.TheVariants.{TripleDes, Aes}
use Rattle.des_block.specs.Cipher.{tdes_encipher}
use Rattle.aes_cipher.specs.Cipher.{aes_encipher}
use Rattle.key_derive.specs.declared.card.CardKeys.{CardKeys}
use Rattle.key_derive.specs.SuiteKey.{SuiteKey}

-- triple DES of the diversification value with F0 as its third byte, followed by that with 0F
unfoldable pub session_key : List ℕ → List ℕ → List ℕ
session_key mk value = tdes_encipher mk (slice_set value 2 0xF0) ++ tdes_encipher mk (slice_set value 2 0x0F)

-- the ATC in two bytes, big-endian
abbrev pub counter_bytes : ℕ → List ℕ
counter_bytes atc = atc / 256 ∷ atc % 256 ∷ []

-- the key for cryptograms: the value is the ATC and zeros
unfoldable pub session_ac : Suite → List ℕ → ℕ → List ℕ
session_ac TripleDes mk atc = session_key mk (counter_bytes atc ++ replicate 6 0)
session_ac Aes mk atc = aes_encipher mk (counter_bytes atc ++ replicate 14 0)

-- the key for secure messaging: the value is the application cryptogram, with AES followed by zeros
unfoldable pub session_sm : Suite → List ℕ → List ℕ → List ℕ
session_sm TripleDes mk ac = session_key mk ac
session_sm Aes mk ac = aes_encipher mk (ac ++ replicate 8 0)

-- the key for the cryptograms of the transaction with this ATC, from the card's keys
abbrev pub session_of : CardKeys → ℕ → SuiteKey
session_of keys atc = record { suite = keys.suite; key = session_ac keys.suite keys.ac.0 atc }
