-- The text of objects is read as these objects.
use Rattle.std.proofs.Common.{◌≡◌, ℕ, zero, suc, ◌+◌, ◌/◌, ◌%◌, ◌<◌, Bool, true, false, nat_lt, List, [], ◌∷◌, ◌++◌, length}
use Rattle.std.proofs.Common.{None, IsTrue, refl, sym, ap, subst, ◌∙◌, lit<, arith, length-append}
use Rattle.std.proofs.lemmas.Bool.Decides.{nat_tests}
use Rattle.std.proofs.lemmas.Bool.{ltb-true, lt-ltb}
use Rattle.hex.specs.Hex.{IsBytes}
use Rattle.tlv_objects.specs.Tlv.{TlvObject, objects_from, in_front}
use Rattle.tlv_objects.specs.Writing.{tag_bytes, is_tag_number, length_bytes, object_text}
use Rattle.tlv_objects.proofs.Texts.{nothing_in}
use Rattle.tlv_objects.proofs.Written.{objects_behind_text}
use Rattle.chip_request.specs.Fields.{Field}
use Rattle.chip_request.specs.Reading.{values_of, first_wrong}
use Rattle.terminal_kernel.specs.Given.{DataObject, data_object}
use Rattle.terminal_kernel.specs.Held.{HasBytes}
use Rattle.terminal_kernel.specs.Requested.{objects_text}
use Rattle.terminal_kernel.proofs.Bytes.{IsBytes-one, IsBytes-two}

-- an object of a tag of one or two bytes, with a value of fewer than 128
pub record IsShort (object : DataObject) : Type 0 where
  pub is_tag : IsTrue (is_tag_number object.tag)
  pub tag : object.tag < 0x10000
  pub size : length object.value < 128
  pub value : IsBytes object.value

pub short_object : (tag size : ℕ) (value : List ℕ) → IsTrue (is_tag_number tag) → tag < 0x10000 → size < 128 → HasBytes size value
    → IsShort (data_object tag value)
short_object tag size value is_tag two few field = record {
  is_tag = is_tag;
  tag = two;
  size = subst (λ (n : ℕ). n < 128) (sym field.size) few;
  value = field.bytes;
}

-- all are
abbrev pub AreShort : List DataObject → Type 0
AreShort [] = Unit {0}
AreShort (object ∷ objects) = IsShort object × AreShort objects

-- the first, and the others
infixr 4 ◌&◌
pub ◌&◌ : {A B : Type 0} → A → B → A × B
first & others = (first, others)

-- the objects as they stand in their text, which stands at a place
abbrev pub placed : ℕ → List DataObject → List TlvObject
placed at [] = []
placed at (object ∷ objects) =
    record { tag = object.tag; value = object.value; at = at } ∷ placed (at + length (object_text object.tag object.value)) objects

-- their text is read as them
pub objects_from-text : (objects : List DataObject) (at : ℕ) → AreShort objects
    → objects_from 0 at (objects_text objects) ≡ record { objects = placed at objects; torn = None }
objects_from-text [] at short = nothing_in at
objects_from-text (object ∷ objects) at short =
    objects_behind_text object.tag object.value (objects_text objects) at short.0.is_tag
    ∙ ap (in_front (record { tag = object.tag; value = object.value; at = at }))
    (objects_from-text objects (at + length (object_text object.tag object.value)) short.1)

-- THE SIZE AND THE BYTES OF THE TEXT

length_bytes-short : (size : ℕ) → size < 128 → length_bytes size ≡ size ∷ []
length_bytes-short size few = grind (arith, nat_tests)

-- the text of a short object: its tag, one byte for the length, and its value
text-short : (object : DataObject) → IsShort object → object_text object.tag object.value ≡ tag_bytes object.tag ++ (length object.value ∷ object.value)
text-short object short = ap (λ (size : List ℕ). tag_bytes object.tag ++ (size ++ object.value)) (length_bytes-short (length object.value) short.size)

-- how many bytes a short object has
abbrev pub size_of : DataObject → ℕ
size_of object = length (tag_bytes object.tag) + (1 + length object.value)

-- and all together
abbrev pub total_size : List DataObject → ℕ
total_size [] = 0
total_size (object ∷ objects) = size_of object + total_size objects

pub length-objects_text : (objects : List DataObject) → AreShort objects → length (objects_text objects) ≡ total_size objects
length-objects_text [] short = refl
length-objects_text (object ∷ objects) short =
    let text = ap length (text-short object short.0) in
    let tag = length-append (tag_bytes object.tag) (length object.value ∷ object.value) in
    let joined = length-append (object_text object.tag object.value) (objects_text objects) in
    let others = length-objects_text objects short.1 in
    omega arith

IsBytes-append : (bytes more : List ℕ) → IsBytes bytes → IsBytes more → IsBytes (bytes ++ more)
IsBytes-append [] more first second i = second i
IsBytes-append (byte ∷ bytes) more first second zero = first 0
IsBytes-append (byte ∷ bytes) more first second (suc i) = IsBytes-append bytes more (λ k. first (suc k)) second i

IsBytes-tag : (tag : ℕ) → tag < 0x10000 → IsBytes (tag_bytes tag)
IsBytes-tag tag two = by_size (nat_lt tag 0x100) refl
  where
    by_size : (one : Bool) → nat_lt tag 0x100 ≡ one → IsBytes (tag_bytes tag)
    by_size true is_one = rw is_one (IsBytes-one tag (omega (arith, ltb-true tag 0x100 is_one)))
    by_size false is_two = rw (is_two, lt-ltb tag 0x10000 two) (IsBytes-two (tag / 0x100) (tag % 0x100) (omega arith) (omega arith))

pub IsBytes-objects_text : (objects : List DataObject) → AreShort objects → IsBytes (objects_text objects)
IsBytes-objects_text [] short i = lit< tt
IsBytes-objects_text (object ∷ objects) short i =
    let size : length object.value < 256 = omega (arith, short.0.size) in
    let behind = IsBytes-append (length object.value ∷ []) object.value (IsBytes-one (length object.value) size) short.0.value in
    let text = IsBytes-append (tag_bytes object.tag) (length object.value ∷ object.value) (IsBytes-tag object.tag short.0.tag) behind in
    IsBytes-append (object_text object.tag object.value) (objects_text objects)
    (subst IsBytes (sym (text-short object short.0)) text)
    (IsBytes-objects_text objects short.1) i

-- WHAT IS WRONG WITH FIELDS

-- this is wrong with none of the fields
abbrev pub AreRight : (Field → List (List ℕ) → Bool) → List TlvObject → List Field → Type 0
AreRight is_wrong objects [] = Unit {0}
AreRight is_wrong objects (field ∷ fields) = (is_wrong field (values_of field.tag objects) ≡ false) × AreRight is_wrong objects fields

pub first_wrong-none : (is_wrong : Field → List (List ℕ) → Bool) (objects : List TlvObject) (fields : List Field) → AreRight is_wrong objects fields
    → first_wrong is_wrong objects fields ≡ None
unfolding first_wrong
first_wrong-none is_wrong objects [] right = refl
first_wrong-none is_wrong objects (field ∷ fields) right = rw right.0 (first_wrong-none is_wrong objects fields right.1)
