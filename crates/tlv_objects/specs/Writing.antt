-- The shortest encoding of an object: EMV 4.3 Book 3, Annex B.
use Rattle.std.specs.Prelude.{ℕ, ◌/◌, ◌%◌, Bool, ◌&&◌, List, [], ◌∷◌, ◌++◌, length, nat_lt, if◌then◌else◌}
use Rattle.tlv_objects.specs.Grammar.{is_tag}

-- the bytes of a tag, big-endian, without leading zeros
abbrev pub tag_bytes : ℕ → List ℕ
tag_bytes tag =
    if nat_lt tag 0x100 then tag ∷ []
    else if nat_lt tag 0x10000 then tag / 0x100 ∷ tag % 0x100 ∷ []
    else if nat_lt tag 0x1000000 then tag / 0x10000 ∷ tag / 0x100 % 0x100 ∷ tag % 0x100 ∷ []
    else tag / 0x1000000 ∷ tag / 0x10000 % 0x100 ∷ tag / 0x100 % 0x100 ∷ tag % 0x100 ∷ []

-- whether a number is that of a tag of one to three bytes whose first byte isn't 00
abbrev pub is_tag_number : ℕ → Bool
is_tag_number tag = nat_lt tag 0x1000000 && is_tag (tag_bytes tag)

-- the shortest encoding of a length below 65,536
abbrev pub length_bytes : ℕ → List ℕ
length_bytes n =
    if nat_lt n 128 then n ∷ [] else (if nat_lt n 256 then 129 ∷ n ∷ [] else 130 ∷ n / 256 ∷ n % 256 ∷ [])

-- the tag, the shortest encoding of the value's length, and the value
abbrev pub object_text : ℕ → List ℕ → List ℕ
object_text tag value = tag_bytes tag ++ (length_bytes (length value) ++ value)
