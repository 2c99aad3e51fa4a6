-- What a pass over the objects finds of each field.
use Rattle.std.specs.Prelude.{ℕ, ◌+◌, ◌*◌, Bool, true, false, not, ◌&&◌, List, [], ◌∷◌, map, length, replicate, slice_index, Option, Some, None}
use Rattle.std.specs.Prelude.{option_and_then, option_map, is_some, is_none, ◌==◌, if◌then◌else◌}
use Rattle.tlv_objects.specs.Tlv.{TlvObject}
use Rattle.chip_request.specs.Fields.{Field}
use Rattle.issuer_base.specs.declared.request.Parts.{Parts}
use Rattle.issuer_base.specs.ChipData.{request_from}
use Rattle.chip_request.specs.Forms.{account_number_in}
use Rattle.chip_request.specs.declared.reading.RequestFault.{RequestFault}
use Rattle.chip_request.specs.declared.reading.RequestFault.TheVariants as faults
use Rattle.chip_request.specs.declared.slots.Wrong.{Wrong}
use Rattle.chip_request.specs.declared.slots.Wrong.TheVariants.{Missing, Misformed, Repeated}

-- a field, the value of the first object with its tag, and whether there is another
pub record Found : Type 0 where
  pub field : Field
  pub first : Option (List ℕ)
  pub is_repeated : Bool

-- after one more value of the field
abbrev pub with_value : Found → List ℕ → Found
with_value found value =
    if is_some found.first then record found { is_repeated = true } else record found { first = Some value }

-- after one more object
abbrev pub with_object : TlvObject → Found → Found
with_object object found = if found.field.tag == object.tag then with_value found object.value else found

-- what was found of each field, after more objects
abbrev pub with_objects : List Found → List TlvObject → List Found
with_objects founds [] = founds
with_objects founds (object ∷ objects) = with_objects (map (with_object object) founds) objects

-- before any object
abbrev pub unfound : Field → Found
unfound field = record { field = field; first = None; is_repeated = false }

-- whether a field has this fault
abbrev pub is_wrong : Wrong → Found → Bool
is_wrong Missing found = found.field.is_required && is_none found.first
is_wrong Misformed found = elim (found.first) [ None ↦ false | Some value ↦ not (found.field.has_form value) ]
is_wrong Repeated found = found.is_repeated

-- a field has no fault
abbrev pub is_right : Found → Bool
is_right found = not (is_wrong Repeated found) && not (is_wrong Missing found) && not (is_wrong Misformed found)

-- the tag of the first field with this fault
unfoldable pub first_wrong_found : Wrong → List Found → Option ℕ
first_wrong_found wrong [] = None
first_wrong_found wrong (found ∷ others) =
    if is_wrong wrong found then Some found.field.tag else first_wrong_found wrong others

-- the fault of this tag, if there is one, and else the next fault
abbrev pub named : Option ℕ → (ℕ → RequestFault) → Option RequestFault → Option RequestFault
named (Some tag) fault next = Some (fault tag)
named None fault next = next

-- the first fault: a missing field first, then a malformed one, and then a repeated one
unfoldable pub fault_among : List Found → Option RequestFault
fault_among founds =
    named (first_wrong_found Missing founds) faults.Missing (
    named (first_wrong_found Misformed founds) faults.BadField (
    named (first_wrong_found Repeated founds) faults.Repeated None))

-- the index in a table of the first field with a tag
unfoldable pub place_of : ℕ → List Field → Option ℕ
place_of tag [] = None
place_of tag (field ∷ others) =
    if field.tag == tag then Some 0 else option_map (λ place. place + 1) (place_of tag others)

-- what was found of each field of a table: its first value, and whether there is another
unfoldable pub founds_of : List Field → List (Option (List ℕ)) → List Bool → List Found
founds_of (field ∷ others) (first ∷ firsts) (is ∷ are) =
    record { field = field; first = first; is_repeated = is } ∷ founds_of others firsts are
founds_of _ _ _ = []

-- the first value of the field with a tag
unfoldable pub first_with_tag : ℕ → List Found → Option (List ℕ)
first_with_tag tag [] = None
first_with_tag tag (found ∷ others) = if found.field.tag == tag then found.first else first_with_tag tag others

-- a value of this many bytes, or this many 00 bytes in place of another
abbrev pub sized : ℕ → Option (List ℕ) → List ℕ
sized count None = replicate count 0
sized count (Some value) = if length value == count then value else replicate count 0

-- a value is present, with this many bytes
abbrev pub is_sized : ℕ → Option (List ℕ) → Bool
is_sized count None = false
is_sized count (Some value) = length value == count

-- a value is absent, or has this many bytes
abbrev pub is_absent_or_sized : ℕ → Option (List ℕ) → Bool
is_absent_or_sized count None = true
is_absent_or_sized count (Some value) = length value == count

-- each field of fixed length has that length
unfoldable pub have_sizes : List Found → Bool
have_sizes founds =
    is_absent_or_sized 1 (first_with_tag 0x5F34 founds)
    && is_sized 2 (first_with_tag 0x82 founds)
    && is_sized 5 (first_with_tag 0x95 founds)
    && is_sized 3 (first_with_tag 0x9A founds)
    && is_sized 1 (first_with_tag 0x9C founds)
    && is_sized 6 (first_with_tag 0x9F02 founds)
    && is_absent_or_sized 6 (first_with_tag 0x9F03 founds)
    && is_sized 32 (first_with_tag 0x9F10 founds)
    && is_sized 2 (first_with_tag 0x9F1A founds)
    && is_sized 2 (first_with_tag 0x5F2A founds)
    && is_sized 8 (first_with_tag 0x9F26 founds)
    && is_sized 1 (first_with_tag 0x9F27 founds)
    && is_sized 2 (first_with_tag 0x9F36 founds)
    && is_sized 4 (first_with_tag 0x9F37 founds)

-- the request in the values that were found, if they make one
unfoldable pub request_in : List Found → Option Parts
request_in founds = option_and_then (λ pan. request_from (record {
  pan = pan;
  psn = slice_index (bytes 1 0x5F34) 0;
  aip = bytes 2 0x82;
  atc = 256 * slice_index (bytes 2 0x9F36) 0 + slice_index (bytes 2 0x9F36) 1;
  tvr = bytes 5 0x95;
  date = bytes 3 0x9A;
  kind = slice_index (bytes 1 0x9C) 0;
  amount = bytes 6 0x9F02;
  other = bytes 6 0x9F03;
  country = bytes 2 0x9F1A;
  currency = bytes 2 0x5F2A;
  un = bytes 4 0x9F37;
  cid = slice_index (bytes 1 0x9F27) 0;
  iad = bytes 32 0x9F10;
  ac = bytes 8 0x9F26;
})) (option_and_then account_number_in (first_with_tag 0x5A founds))
  where
    bytes : ℕ → ℕ → List ℕ
    bytes count tag = sized count (first_with_tag tag founds)
