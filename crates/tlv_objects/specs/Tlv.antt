-- The BER-TLV objects of a text: EMV 4.3 Book 3, Annex B.
use Rattle.std.specs.Prelude.{ℕ, zero, suc, ◌+◌, ◌-◌, ◌*◌, Bool, List, [], ◌∷◌, length, take, drop, Option, Some, None, option_and_then, bit_and}
use Rattle.std.specs.Prelude.{nat_lt, ◌==◌, ◌&&◌, false, if◌then◌else◌}

-- an object: its tag as a number, the bytes of its value, and the offset where it begins
pub record TlvObject : Type 0 where
  pub tag : ℕ
  pub value : List ℕ
  pub at : ℕ

-- what a text holds: its objects in order, and the offset where it is malformed, if it is
pub record TlvText : Type 0 where
  pub objects : List TlvObject
  pub torn : Option ℕ

infixl 10 ◌>>=◌
abbrev pub ◌>>=◌ : {A B : Type 0} → Option A → (A → Option B) → Option B
o >>= f = option_and_then f o

-- a tag has more bytes after its first one if the low five bits of that byte are all set
abbrev pub opens_long_tag : ℕ → Bool
opens_long_tag byte = bit_and byte 31 == 31

-- a later byte of a tag is its last if bit 8 is clear
abbrev pub ends_tag : ℕ → Bool
ends_tag byte = nat_lt byte 128

-- the third byte of a tag is the last one that it may have
abbrev pub tag_from_third : ℕ → List ℕ → Option (ℕ × List ℕ)
tag_from_third tag [] = None
tag_from_third tag (byte ∷ rest) = if ends_tag byte then Some (256 * tag + byte, rest) else None

abbrev pub tag_from_second : ℕ → List ℕ → Option (ℕ × List ℕ)
tag_from_second tag [] = None
tag_from_second tag (byte ∷ rest) =
    if ends_tag byte then Some (256 * tag + byte, rest) else tag_from_third (256 * tag + byte) rest

-- the tag at the start of a text as a number, and the bytes after it
unfoldable pub tag_at : List ℕ → Option (ℕ × List ℕ)
tag_at [] = None
tag_at (byte ∷ rest) = if opens_long_tag byte then tag_from_second byte rest else Some (byte, rest)

-- a length in one byte
abbrev pub short_length : List ℕ → Option (ℕ × List ℕ)
short_length [] = None
short_length (byte ∷ rest) = Some (byte, rest)

-- a length in two bytes
abbrev pub long_length : List ℕ → Option (ℕ × List ℕ)
long_length [] = None
long_length (high ∷ []) = None
long_length (high ∷ low ∷ rest) = Some (256 * high + low, rest)

-- the length at the start of a text, and the bytes after it: a byte below 128, or 81 and one byte, or 82 and two
unfoldable pub length_at : List ℕ → Option (ℕ × List ℕ)
length_at [] = None
length_at (byte ∷ rest) =
    if nat_lt byte 128 then Some (byte, rest)
    else (if byte == 129 then short_length rest else (if byte == 130 then long_length rest else None))

-- an object at the start of a text: its tag, its value, and the bytes after it
pub record FrontObject : Type 0 where
  pub tag : ℕ
  pub value : List ℕ
  pub rest : List ℕ

-- the object at the start of a text, none if the tag, the length or the value ends early or has no such encoding
unfoldable pub front_object : List ℕ → Option FrontObject
front_object bytes = do
  tag ← tag_at bytes
  len ← length_at tag.1
  if nat_lt (length len.1) len.0 then None
      else Some (record { tag = tag.0; value = take len.0 len.1; rest = drop len.0 len.1 })

-- an object would begin at the start of a text as most do: with no 00 byte, a tag of one or two bytes and a length of one,
-- among three bytes or more
unfoldable pub begins_short : List ℕ → Bool
begins_short [] = false
begins_short (first ∷ []) = false
begins_short (first ∷ second ∷ []) = false
begins_short (first ∷ second ∷ third ∷ rest) =
    if opens_long_tag first then nat_lt second 128 && nat_lt third 128 else nat_lt 0 first && nat_lt second 128

-- nothing more
abbrev pub no_more : TlvText
no_more = record { objects = []; torn = None }

-- malformed at this offset
abbrev pub torn_at : ℕ → TlvText
torn_at at = record { objects = []; torn = Some at }

-- the same text with an object before it
abbrev pub in_front : TlvObject → TlvText → TlvText
in_front object text = record { objects = object ∷ text.objects; torn = text.torn }

-- The objects of a text that begins at an offset; its first `inside` bytes belong to an object that was read, and are
-- skipped. A 00 byte where an object may begin is skipped too. At any other byte where none begins, the text is
-- malformed.
unfoldable pub objects_from : (inside at : ℕ) → List ℕ → TlvText
objects_from inside at [] = no_more
objects_from (suc inside) at (byte ∷ rest) = objects_from inside (at + 1) rest
objects_from zero at (zero ∷ rest) = objects_from 0 (at + 1) rest
objects_from zero at (suc byte ∷ rest) = elim (front_object (suc byte ∷ rest)) [
  | None ↦ torn_at at
  | Some front ↦ in_front (record { tag = front.tag; value = front.value; at = at })
      (objects_from (length rest - length front.rest) (at + 1) rest)
]

-- the objects of a text
abbrev pub objects_of : List ℕ → TlvText
objects_of bytes = objects_from 0 0 bytes

-- the unread bytes of a cursor, and their offset in the text
pub record Ahead : Type 0 where
  pub bytes : List ℕ
  pub at : ℕ

-- the unread objects of a cursor
abbrev pub objects_ahead : Ahead → TlvText
objects_ahead ahead = objects_from 0 ahead.at ahead.bytes
