-- A card's master keys: EMV 4.3 Book 2, Annex A1.4. Those with AES are this project's profile.
use Rattle.std.specs.Prelude.{ℕ, ◌+◌, ◌-◌, ◌*◌, ◌/◌, ◌%◌, ◌==◌, nat_le, if◌then◌else◌, List, ◌++◌, length, replicate, map, bit_xor, count_ones}
use Rattle.sha1.specs.Sha1.{sha1}
use Rattle.des_block.specs.Cipher.{tdes_encipher}
use Rattle.aes_cipher.specs.Cipher.{aes_encipher}
use Rattle.issuer_base.specs.declared.answer.MasterOption.{MasterOption}
use Rattle.issuer_base.specs.declared.answer.MasterOption.TheVariants.{A, B}
use Rattle.key_derive.specs.Digits.{packed, card_digits, rightmost16, evened, decimal16}

-- the byte with the least significant bit that makes its number of ones odd
abbrev pub with_odd_parity : ℕ → ℕ
with_odd_parity byte = if count_ones (byte / 2) % 2 == 0 then 2 * (byte / 2) + 1 else 2 * (byte / 2)

-- the block xor FFFFFFFFFFFFFFFF
abbrev pub complement : List ℕ → List ℕ
complement block = map (λ byte. bit_xor byte 0xFF) block

-- triple DES under the issuer's master key of a block, followed by that of its complement, in odd parity
unfoldable pub diversified : List ℕ → List ℕ → List ℕ
diversified imk block = map with_odd_parity (tdes_encipher imk block ++ tdes_encipher imk (complement block))

-- option A, Annex A1.4.1: the block is the rightmost sixteen digits of the account and sequence number
unfoldable pub option_a : List ℕ → List ℕ → ℕ → List ℕ
option_a imk pan psn = diversified imk (packed (rightmost16 (card_digits pan psn)))

-- option B, Annex A1.4.2: if the account number has more than sixteen digits, the block is sixteen decimal digits of
-- the digest of all its digits and those of the sequence number; otherwise it is option A
unfoldable pub option_b : List ℕ → List ℕ → ℕ → List ℕ
option_b imk pan psn =
    if nat_le (length pan) 16 then option_a imk pan psn
    else diversified imk (decimal16 (sha1 (packed (evened (card_digits pan psn)))))

-- a card's master key by the issuer's option
abbrev pub master_key : MasterOption → List ℕ → List ℕ → ℕ → List ℕ
master_key A imk pan psn = option_a imk pan psn
master_key B imk pan psn = option_b imk pan psn

-- with AES: under the issuer's master key, the digits of the account and sequence number, with zeros on the left to 32
-- digits
unfoldable pub aes_master : List ℕ → List ℕ → ℕ → List ℕ
aes_master imk pan psn =
    let digits = card_digits pan psn in
    aes_encipher imk (packed (replicate (32 - length digits) 0 ++ digits))
