-- The fields of a request for a cryptogram's check, and the form of each one's value: EMV 4.3 Book 3, Annex A.
use Rattle.std.specs.Prelude.{ℕ, Bool, true, false, ◌&&◌, List, [], ◌∷◌, length, drop, take_while, nat_le, ◌==◌}
use Rattle.std.specs.List.{list_all, flat_map}
use Rattle.issuer_base.specs.CardNumber.{is_pan}
use Rattle.issuer_base.specs.ChipData.{is_bcd, has_profile, digits_of}

-- a field: its tag, whether it is required, and whether a value has its form
pub record Field : Type 0 where
  pub tag : ℕ
  pub is_required : Bool
  pub has_form : List ℕ → Bool

-- the value has this many bytes
abbrev pub has_bytes : ℕ → List ℕ → Bool
has_bytes count value = length value == count

-- the value has this many bytes, each of two decimal digits
abbrev pub has_decimal_bytes : ℕ → List ℕ → Bool
has_decimal_bytes count value = length value == count && list_all is_bcd value

-- the decimal digits before the first nibble that is none
unfoldable pub leading_digits : List ℕ → List ℕ
leading_digits value = take_while (λ nibble. nat_le nibble 9) (flat_map digits_of value)

-- an account number in 4 to 10 bytes, two digits a byte, padded at its end with nibbles F
unfoldable pub has_account_number : List ℕ → Bool
has_account_number value =
    nat_le 4 (length value) && nat_le (length value) 10 && is_pan (leading_digits value)
    && list_all (λ nibble. nibble == 15) (drop (length (leading_digits value)) (flat_map digits_of value))

-- issuer application data of the profile's form
abbrev pub has_application_data : List ℕ → Bool
has_application_data value = length value == 32 && has_profile value

-- a required field
abbrev pub required : ℕ → (List ℕ → Bool) → Field
required tag has_form = record { tag = tag; is_required = true; has_form = has_form }

-- an optional field
abbrev pub optional : ℕ → (List ℕ → Bool) → Field
optional tag has_form = record { tag = tag; is_required = false; has_form = has_form }

-- the fields in the order in which they are checked
abbrev pub fields : List Field
fields =
    required 0x5A has_account_number  -- primary account number
    ∷ optional 0x5F34 (has_decimal_bytes 1)  -- its sequence number
    ∷ required 0x82 (has_bytes 2)  -- application interchange profile
    ∷ required 0x95 (has_bytes 5)  -- terminal verification results
    ∷ required 0x9A (has_bytes 3)  -- transaction date
    ∷ required 0x9C (has_bytes 1)  -- transaction type
    ∷ required 0x9F02 (has_decimal_bytes 6)  -- amount authorised
    ∷ optional 0x9F03 (has_bytes 6)  -- amount other
    ∷ required 0x9F10 has_application_data  -- issuer application data
    ∷ required 0x9F1A (has_bytes 2)  -- terminal country code
    ∷ required 0x5F2A (has_bytes 2)  -- transaction currency code
    ∷ required 0x9F26 (has_bytes 8)  -- application cryptogram
    ∷ required 0x9F27 (has_bytes 1)  -- cryptogram information data
    ∷ required 0x9F36 (has_bytes 2)  -- application transaction counter
    ∷ required 0x9F37 (has_bytes 4)  -- unpredictable number
    ∷ []
