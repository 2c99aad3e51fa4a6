-- What is found of each field after all objects.
use Rattle.std.proofs.Common.{ℕ, List, [], ◌∷◌, map, Option, Some, None}
use Rattle.tlv_objects.specs.Tlv.{TlvObject}
use Rattle.chip_request.specs.Fields.{Field, fields}
use Rattle.chip_request.specs.Reading.{values_of, is_repeated}
use Rattle.chip_request.specs.Slots.{Found}

-- the first of some values
abbrev pub first_of : List (List ℕ) → Option (List ℕ)
first_of [] = None
first_of (value ∷ values) = Some value

-- what was found of a field when all values of it are seen
abbrev pub found_of : Field → List (List ℕ) → Found
found_of field values = record { field = field; first = first_of values; is_repeated = is_repeated field values }

-- what was found of each field when all objects are seen
abbrev pub all_found : List TlvObject → List Found
all_found objects = map (λ field. found_of field (values_of field.tag objects)) fields
