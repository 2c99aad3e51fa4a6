-- Texts that were enciphered in CBC, and how they are deciphered.
use Rattle.std.specs.Prelude.{◌≡◌, ◌<◌, ℕ, List, [], ◌∷◌, ◌++◌, slice_index}
use Rattle.des_block.specs.Cipher.{tdes_decipher}
use Rattle.retail_mac.specs.Mac.{xor_bytes, cbc}

-- each number is a byte
abbrev pub AreBytes : List ℕ → Type 0
AreBytes bytes = (i : ℕ) → slice_index bytes i < 256

-- the text is this message of bytes, padded and enciphered in CBC
pub record IsEnciphered (key message text : List ℕ) : Type 0 where
  pub bytes : AreBytes message
  pub text_is : text ≡ cbc key message

-- CBC back from a block: each block deciphered by triple DES, xor the block before it
unfoldable pub cbc_back : List ℕ → List ℕ → List (List ℕ) → List ℕ
cbc_back key before [] = []
cbc_back key before (block ∷ rest) = xor_bytes (tdes_decipher key block) before ++ cbc_back key block rest
