-- The fields of a request: EMV 4.3 Book 3 Annex A, with this project's profile of the issuer application data.
use Rattle.std.specs.Prelude.{ℕ, ◌+◌, ◌*◌, ◌/◌, ◌%◌, Bool, ◌&&◌, ◌||◌, ◌==◌, nat_le, if◌then◌else◌}
use Rattle.std.specs.Prelude.{List, [], ◌∷◌, take, drop, slice_index, fold, bit_and, Option, Some, None}
use Rattle.std.specs.List.{list_all, flat_map}
use Rattle.issuer_base.specs.declared.request.Parts.{Parts}
use Rattle.issuer_base.specs.declared.request.Suite.{Suite}
use Rattle.issuer_base.specs.declared.request.Suite.TheVariants.{TripleDes, Aes}

-- both nibbles of the byte are decimal digits: EMV 4.3 Book 3, section 4.3, format n
unfoldable pub is_bcd : ℕ → Bool
is_bcd byte = nat_le (byte / 16) 9 && nat_le (byte % 16) 9

-- the common core identifiers: A5 for triple DES, A6 for AES
abbrev pub is_core_identifier : ℕ → Bool
is_core_identifier byte = byte == 0xA5 || byte == 0xA6

-- the suite that a common core identifier names
unfoldable pub suite_named : ℕ → Option Suite
suite_named identifier = if identifier == 0xA5 then Some TripleDes else if identifier == 0xA6 then Some Aes else None

-- the profile of the issuer application data: 0F, a common core identifier, and 0F before the discretionary data
unfoldable pub has_profile : List ℕ → Bool
has_profile iad =
    slice_index iad 0 == 0x0F && is_core_identifier (slice_index iad 1) && slice_index iad 16 == 0x0F

-- a request's fields: the sequence number and the amount are decimal, and the application data has the profile
unfoldable pub is_request : Parts → Bool
is_request parts = is_bcd parts.psn && list_all is_bcd parts.amount && has_profile parts.iad

-- these fields, if they are a request's, or none
unfoldable pub request_from : Parts → Option Parts
request_from parts = if is_request parts then Some parts else None

-- the card verification results: bytes 4 to 8 of the issuer application data
unfoldable pub cvr : Parts → List ℕ
cvr parts = take 5 (drop 3 parts.iad)

-- the suite of the request's card: byte 2 of the issuer application data, the common core identifier, is A6 for AES
unfoldable pub suite_of : Parts → Suite
suite_of parts = if slice_index parts.iad 1 == 0xA6 then Aes else TripleDes

-- the derivation key index: byte 3 of the issuer application data
unfoldable pub dki : Parts → ℕ
dki parts = slice_index parts.iad 2

-- an ARQC: bits 8-7 of the cryptogram information data are 10, and byte 1 of the card verification results says
-- that no second cryptogram was requested, bits 8-7, and that the first was an ARQC, bits 6-5
unfoldable pub is_arqc : Parts → Bool
is_arqc parts = bit_and parts.cid 0xC0 == 0x80 && bit_and (slice_index (cvr parts) 0) 0xF0 == 0xA0

-- the number of issuer script commands processed: bits 8-5 of byte 4 of the card verification results
unfoldable pub script_count : Parts → ℕ
script_count parts = slice_index (cvr parts) 3 / 16

-- the last online ATC register: bytes 18 and 19 of the issuer application data, big-endian
unfoldable pub last_online : Parts → ℕ
last_online parts = 256 * slice_index parts.iad 17 + slice_index parts.iad 18

-- the two decimal digits of a BCD byte
abbrev pub digits_of : ℕ → List ℕ
digits_of byte = byte / 16 ∷ byte % 16 ∷ []

-- the value of decimal digits, the most significant one first
abbrev pub decimal : List ℕ → ℕ
decimal digits = fold (λ value digit. 10 * value + digit) 0 digits

-- the amount authorised: the value of its twelve decimal digits
unfoldable pub amount_value : Parts → ℕ
amount_value parts = decimal (flat_map digits_of parts.amount)
