-- The encodings of an object, and how objects cover a text: EMV 4.3 Book 3, Annex B.
use Rattle.std.specs.Prelude.{◌≡◌, ◌≢◌, ℕ, ◌+◌, ◌*◌, ◌<◌, Bool, false, not, ◌&&◌, List, [], ◌∷◌, ◌++◌, length, replicate, fold, slice_get, Option}
use Rattle.std.specs.Prelude.{Some, None, IsTrue, ◌==◌}
use Rattle.tlv_objects.specs.Tlv.{TlvObject, opens_long_tag, ends_tag}

-- whether the bytes are a tag: a single one that isn't 00, or a first one that opens a long tag and one or two more, of
-- which only the last has bit 8 clear
abbrev pub is_tag : List ℕ → Bool
is_tag [] = false
is_tag (a ∷ []) = not (opens_long_tag a) && not (a == 0)
is_tag (a ∷ b ∷ []) = opens_long_tag a && ends_tag b
is_tag (a ∷ b ∷ c ∷ []) = opens_long_tag a && (not (ends_tag b) && ends_tag c)
is_tag (a ∷ b ∷ c ∷ d ∷ more) = false

-- the bytes as a big-endian number
abbrev pub big_endian : List ℕ → ℕ
big_endian bytes = fold (λ number byte. 256 * number + byte) 0 bytes

-- the bytes encode the length: a byte below 128, or 81 and one byte, or 82 and two
abbrev pub SpellsLength : List ℕ → ℕ → Type 0
SpellsLength [] n = ⊥
SpellsLength (a ∷ []) n = (a < 128) × (n ≡ a)
SpellsLength (a ∷ b ∷ []) n = (a ≡ 129) × (n ≡ b)
SpellsLength (a ∷ b ∷ c ∷ []) n = (a ≡ 130) × (n ≡ 256 * b + c)
SpellsLength (a ∷ b ∷ c ∷ d ∷ more) n = ⊥

-- the bytes are those of the tag, of any encoding of the value's length, and of the value
pub record Spells (bytes : List ℕ) (tag : ℕ) (value : List ℕ) : Type 0 where
  pub tag_bytes : List ℕ
  pub length_bytes : List ℕ
  pub joined : bytes ≡ tag_bytes ++ (length_bytes ++ value)
  pub is_a_tag : IsTrue (is_tag tag_bytes)
  pub number : big_endian tag_bytes ≡ tag
  pub spells_length : SpellsLength length_bytes (length value)

-- the bytes aren't empty, and neither begin with a 00 byte nor with an object
pub record IsNoObject (bytes : List ℕ) : Type 0 where
  pub some : bytes ≢ []
  pub not_zero : slice_get bytes 0 ≢ Some 0
  pub none : (spelling rest : List ℕ) (tag : ℕ) (value : List ℕ) → Spells spelling tag value → bytes ≢ spelling ++ rest

-- The objects cover the text that begins at an offset: each is encoded at its own offset, after any number of 00 bytes.
-- After the last there are only 00 bytes, or what is malformed at its offset.
abbrev pub Covers : (at : ℕ) (text : List ℕ) (objects : List TlvObject) (torn : Option ℕ) → Type 0
Covers at text [] None = (zeros : ℕ) × (text ≡ replicate zeros 0)
Covers at text [] (Some place) =
    (zeros : ℕ) × (rest : List ℕ) × (text ≡ replicate zeros 0 ++ rest) × (place ≡ at + zeros) × IsNoObject rest
Covers at text (object ∷ objects) torn =
    (zeros : ℕ) × (spelling rest : List ℕ) × (text ≡ replicate zeros 0 ++ (spelling ++ rest)) × (object.at ≡ at + zeros)
    × Spells spelling object.tag object.value × Covers (object.at + length spelling) rest objects torn
