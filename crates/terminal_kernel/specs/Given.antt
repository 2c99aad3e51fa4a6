-- The data objects that are given to fill a list with, and which are refused.
use Rattle.std.specs.Prelude.{ℕ, Bool, ◌&&◌, ◌==◌, nat_lt, nat_le, if◌then◌else◌, List, [], ◌∷◌, ◌++◌, map, length, Option, Some, None, is_none, Result, Ok}
use Rattle.tlv_objects.specs.Tlv.{TlvObject}
use Rattle.chip_request.specs.Objects.{objects_of}
use Rattle.terminal_kernel.specs.declared.given.BadData.{BadData}
use Rattle.terminal_kernel.specs.declared.limits.TheConstants.{MAX_OBJECTS, MAX_VALUE_BYTES}
use Rattle.terminal_kernel.specs.Dol.{unless_bad}

-- a data object: a tag, and a value
pub record DataObject : Type 0 where
  pub tag : ℕ
  pub value : List ℕ

-- an object with this tag and value
abbrev pub data_object : ℕ → List ℕ → DataObject
data_object tag value = record { tag = tag; value = value }

-- an object of a text, without its offset
abbrev pub plain : TlvObject → DataObject
plain object = data_object object.tag object.value

-- the value of the first object with a tag, none exactly where no object has it
abbrev pub value_of : ℕ → List DataObject → Option (List ℕ)
value_of tag [] = None
value_of tag (object ∷ objects) = if object.tag == tag then Some object.value else value_of tag objects

-- whether an object may follow these: they are fewer than 64, its value has at most 64 bytes, and none has its tag
abbrev pub may_follow : List DataObject → TlvObject → Bool
may_follow before object =
    nat_lt (length before) MAX_OBJECTS && nat_le (length object.value) MAX_VALUE_BYTES
    && is_none (value_of object.tag before)

-- the offset of the first object that may not follow these and those before it
unfoldable pub first_unfit : List DataObject → List TlvObject → Option ℕ
first_unfit before [] = None
first_unfit before (object ∷ objects) =
    if may_follow before object then first_unfit (before ++ plain object ∷ []) objects else Some object.at

-- the objects of a text, or the offset of the first that it may not have, which may be one that is torn
unfoldable pub data_of : List ℕ → Result (List DataObject) BadData
data_of bytes =
    let text = objects_of bytes in
    unless_bad (first_unfit [] text.objects) (λ at. record { at = at }) (
    unless_bad text.torn (λ at. record { at = at }) (Ok (map plain text.objects)))
