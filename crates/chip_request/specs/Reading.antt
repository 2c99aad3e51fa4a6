-- The request in chip data, or their first fault.
use Rattle.std.specs.Prelude.{ℕ, ◌+◌, ◌*◌, Bool, true, false, not, List, [], ◌∷◌, replicate, slice_index, Option, Some, None, Result, Ok, Err, ◌==◌}
use Rattle.std.specs.Prelude.{if◌then◌else◌}
use Rattle.tlv_objects.specs.Tlv.{TlvObject}
use Rattle.chip_request.specs.Objects.{objects_of}
use Rattle.issuer_base.specs.declared.request.Parts.{Parts}
use Rattle.chip_request.specs.declared.reading.RequestFault.{RequestFault}
use Rattle.chip_request.specs.declared.reading.RequestFault.TheVariants.{BadTlv, Missing, BadField, Repeated}
use Rattle.chip_request.specs.Fields.{Field, fields, leading_digits}

-- the values of the objects with a tag, in order
unfoldable pub values_of : ℕ → List TlvObject → List (List ℕ)
values_of tag [] = []
values_of tag (object ∷ objects) =
    if tag == object.tag then object.value ∷ values_of tag objects else values_of tag objects

-- a field is missing where it is required and no object has its tag
abbrev pub is_missing : Field → List (List ℕ) → Bool
is_missing field [] = field.is_required
is_missing field (value ∷ values) = false

-- it is malformed where the first value isn't of its form
abbrev pub is_misformed : Field → List (List ℕ) → Bool
is_misformed field [] = false
is_misformed field (value ∷ values) = not (field.has_form value)

-- it is repeated where two objects have its tag
abbrev pub is_repeated : Field → List (List ℕ) → Bool
is_repeated field [] = false
is_repeated field (value ∷ []) = false
is_repeated field (value ∷ another ∷ values) = true

-- the tag of the first field with which this is wrong
unfoldable pub first_wrong : (Field → List (List ℕ) → Bool) → List TlvObject → List Field → Option ℕ
first_wrong is_wrong objects [] = None
first_wrong is_wrong objects (field ∷ others) =
    if is_wrong field (values_of field.tag objects) then Some field.tag else first_wrong is_wrong objects others

-- the first value of a field, or a default where it is absent
abbrev pub first_or : List ℕ → List (List ℕ) → List ℕ
first_or other [] = other
first_or other (value ∷ values) = value

-- the fields of the objects: an absent sequence number is 0, and an absent other amount is six bytes 00
unfoldable pub parts_of : List TlvObject → Parts
parts_of objects = record {
  pan = leading_digits (value 0x5A);
  psn = slice_index (value 0x5F34) 0;
  aip = value 0x82;
  atc = 256 * slice_index (value 0x9F36) 0 + slice_index (value 0x9F36) 1;
  tvr = value 0x95;
  date = value 0x9A;
  kind = slice_index (value 0x9C) 0;
  amount = value 0x9F02;
  other = first_or (replicate 6 0) (values_of 0x9F03 objects);
  country = value 0x9F1A;
  currency = value 0x5F2A;
  un = value 0x9F37;
  cid = slice_index (value 0x9F27) 0;
  iad = value 0x9F10;
  ac = value 0x9F26;
}
  where
    value : ℕ → List ℕ
    value tag = first_or [] (values_of tag objects)

-- the fault of this tag or offset, if there is one, and else the next result
abbrev pub refused : {A : Type 0} → Option ℕ → (ℕ → RequestFault) → Result A RequestFault → Result A RequestFault
refused (Some named) fault next = Err (fault named)
refused None fault next = next

-- a torn text is refused first, then a missing, a malformed and a repeated field, each time the first in the table
unfoldable pub request_of : List ℕ → Result Parts RequestFault
request_of bytes =
    let text = objects_of bytes in
    refused text.torn BadTlv (
    refused (first_wrong is_missing text.objects fields) Missing (
    refused (first_wrong is_misformed text.objects fields) BadField (
    refused (first_wrong is_repeated text.objects fields) Repeated (Ok (parts_of text.objects)))))
