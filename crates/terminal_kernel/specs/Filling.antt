-- A list of data objects, filled: EMV 4.3 Book 3, section 5.4, "Rules for using a DOL".
use Rattle.std.specs.Prelude.{ℕ, ◌-◌, Bool, false, ◌||◌, ◌==◌, if◌then◌else◌, List, [], ◌∷◌, ◌++◌, length, take, drop, replicate, slice_index}
use Rattle.std.specs.Prelude.{bit_and, Option, Some, None, flat_map}
use Rattle.tlv_objects.specs.Writing.{tag_bytes}
use Rattle.terminal_kernel.specs.declared.dol.DolEntry.{DolEntry}
use Rattle.terminal_kernel.specs.Given.{DataObject, value_of}

-- a tag is that of a constructed data object where bit 6 of its first byte is set: Annex B1
abbrev pub is_constructed : ℕ → Bool
is_constructed tag = bit_and (slice_index (tag_bytes tag) 0) 0x20 == 0x20

-- the tag is one of these
abbrev pub is_among : List ℕ → ℕ → Bool
is_among [] tag = false
is_among (one ∷ others) tag = tag == one || is_among others tag

-- the data objects of format n: Annex A
abbrev pub is_numeric : ℕ → Bool
is_numeric tag =
    is_among (
    0x5F34  -- application primary account number sequence number
    ∷ 0x9A  -- transaction date
    ∷ 0x9C  -- transaction type
    ∷ 0x9F02  -- amount, authorised
    ∷ 0x9F03  -- amount, other
    ∷ 0x9F1A  -- terminal country code
    ∷ 0x5F2A  -- transaction currency code
    ∷ []
    ) tag

-- the data object of format cn: the application primary account number
abbrev pub is_compressed_numeric : ℕ → Bool
is_compressed_numeric tag = tag == 0x5A

-- the last so many bytes of a value; a shorter one has 00 bytes on its left
abbrev pub right_justified : ℕ → List ℕ → List ℕ
right_justified size value = replicate (size - length value) 0x00 ++ drop (length value - size) value

-- the first so many bytes of a value; a shorter one has filling bytes on its right
abbrev pub left_justified : ℕ → ℕ → List ℕ → List ℕ
left_justified filling size value = take size value ++ replicate (size - length value) filling

-- a value in so many bytes, as the format of its tag says
abbrev pub fitted : ℕ → ℕ → List ℕ → List ℕ
fitted tag size value =
    if is_numeric tag then right_justified size value
    else if is_compressed_numeric tag then left_justified 0xFF size value
    else left_justified 0x00 size value

-- a value, or 00 bytes where there is none
abbrev pub fitted_or_zeros : ℕ → ℕ → Option (List ℕ) → List ℕ
fitted_or_zeros tag size (Some value) = fitted tag size value
fitted_or_zeros tag size None = replicate size 0x00

-- the bytes of an entry: those of a constructed data object are 00, as are those of one that isn't given
abbrev pub filled_entry : List DataObject → DolEntry → List ℕ
filled_entry given entry =
    if is_constructed entry.tag then replicate entry.length 0x00
    else fitted_or_zeros entry.tag entry.length (value_of entry.tag given)

-- the bytes of a list, entry by entry
abbrev pub filled : List DataObject → List DolEntry → List ℕ
filled given dol = flat_map (filled_entry given) dol
