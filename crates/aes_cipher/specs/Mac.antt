-- CMAC over AES-128 (NIST SP 800-38B).
use Rattle.std.specs.Prelude.{◌≡◌, ℕ, zero, suc, ◌-◌, ◌*◌, ◌/◌, ◌%◌, ◌^◌, ◌==◌, if◌then◌else◌, List, [], ◌∷◌, ◌++◌}
use Rattle.std.specs.Prelude.{length, take, drop, replicate, fold, bit_xor}
use Rattle.std.specs.Int.{w128, from_be_bytes, to_be_bytes}
use Rattle.aes_cipher.specs.Cipher.{xor_bytes, aes_encipher}
use Rattle.aes_cipher.specs.Columns.{state_bytes, HasKey}
use Rattle.aes_cipher.specs.declared.mac.CmacKey.{CmacKey}

-- the IV of the chain
unfoldable pub zero_block : List ℕ
zero_block = replicate 16 0

-- a block shifted left by one bit and, if the lost bit is 1, xored with 87 in the last byte (6.1)
unfoldable pub twice : List ℕ → List ℕ
twice block =
    let n = from_be_bytes w128 block in
    to_be_bytes w128 (bit_xor (n * 2 % 2 ^ 128) (n / 2 ^ 127 * 0x87))

-- the subkeys K1, for a last block that is whole, and K2, for one that is padded (6.1)
unfoldable pub subkey_1 : List ℕ → List ℕ
subkey_1 key = twice (aes_encipher key zero_block)

unfoldable pub subkey_2 : List ℕ → List ℕ
subkey_2 key = twice (subkey_1 key)

-- the first n blocks of sixteen bytes
unfoldable pub blocks : ℕ → List ℕ → List (List ℕ)
blocks zero bytes = []
blocks (suc n) bytes = take 16 bytes ∷ blocks n (drop 16 bytes)

-- how many blocks precede the last one; the last one of the empty text is empty
unfoldable pub blocks_before_last : List ℕ → ℕ
blocks_before_last text = (length text - 1) / 16

-- the last block: xor K1 if it is whole, otherwise padded with a byte 80 and bytes 00, xor K2 (6.2)
unfoldable pub masked_last : List ℕ → List ℕ → List ℕ
masked_last key last =
    if length last == 16
    then xor_bytes last (subkey_1 key)
    else xor_bytes (last ++ 0x80 ∷ replicate (15 - length last) 0) (subkey_2 key)

-- a step of CBC: the block xor the previous result, enciphered
unfoldable pub chained : List ℕ → List ℕ → List ℕ → List ℕ
chained key before block = aes_encipher key (xor_bytes before block)

-- CMAC: the last block of CBC with a zero IV over the text's blocks, the last of which is masked (6.2)
unfoldable pub cmac : List ℕ → List ℕ → List ℕ
cmac key text =
    let n = blocks_before_last text in
    chained key (fold (chained key) zero_block (blocks n text)) (masked_last key (drop (16 * n) text))

-- the round keys and the subkeys are those of this key of sixteen bytes
pub record HasCmacKey (ready : CmacKey) (key : List ℕ) : Type 0 where
  pub cipher : HasKey ready.cipher key
  pub whole : state_bytes ready.whole ≡ subkey_1 key
  pub padded : state_bytes ready.padded ≡ subkey_2 key
