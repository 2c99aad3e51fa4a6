-- The ARPC under triple DES, as both methods end: a block is enciphered by triple DES.
use Rattle.std.specs.Prelude.{ℕ, List, ◌∷◌, ◌++◌, take, replicate}
use Rattle.des_block.specs.Cipher.{des_encipher, tdes_encipher}
use Rattle.retail_mac.specs.Mac.{xor_bytes}
use Rattle.issuer_base.specs.declared.answer.Method.{Method}
use Rattle.issuer_base.specs.declared.answer.Method.TheVariants.{One, Two}
use Rattle.arpc_methods.specs.declared.ahead.AnswerParts.{AnswerParts}

-- the application cryptogram, enciphered by DES under the left half of the key: the MAC's chain after its first block
unfoldable pub first_block : AnswerParts → List ℕ
first_block parts = des_encipher (take 8 parts.key.0) parts.ac

-- the block that is enciphered last, by this method: the application cryptogram xor the response code; or the MAC's chain
-- xor the card status update, padded
unfoldable pub block_by : Method → AnswerParts → List ℕ
block_by One parts = xor_bytes parts.ac (parts.arc ++ replicate 6 0)
block_by Two parts = xor_bytes (first_block parts) (parts.csu ++ 0x80 ∷ replicate 3 0)

-- the block that is enciphered last
unfoldable pub last_block : AnswerParts → List ℕ
last_block parts = block_by parts.method parts

-- the ARPC: by method 2 its first four bytes
unfoldable pub arpc_block : AnswerParts → List ℕ
arpc_block parts = tdes_encipher parts.key.0 (last_block parts)
