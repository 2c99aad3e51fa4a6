-- The table and the slots of the code as the definitions name them.
use Rattle.std.specs.Prelude.{List, map, option_map}
use Rattle.chip_request.specs.declared.slots.Field as declared_field
use Rattle.chip_request.specs.declared.slots.Slots as declared_slots
use Rattle.chip_request.specs.Fields.{Field, fields}
use Rattle.chip_request.specs.Forms.{fits}
use Rattle.chip_request.specs.Slots.{Found, founds_of}

-- a field of the table
abbrev pub field_in : declared_field.Field → Field
field_in field = record { tag = field.tag; is_required = field.is_required; has_form = fits field.form }

-- what the slots hold of each field
abbrev pub founds_in : declared_slots.Slots → List Found
founds_in slots = founds_of fields (map (option_map (λ value. value.now)) slots.firsts) slots.are_repeated
