-- The JSON value that bytes are parsed as, and its members, by the meaning of a text in
-- `serde_json`.
use Rattle.std.specs.Prelude.{ℕ, List, [], ◌∷◌, Option, None, if◌then◌else◌}
use Rattle.std.specs.Option.{option_and_then, option_map}
use Rattle.std.specs.Str.{is_utf8}
use Rattle.serde_json.specs.Data.{Data, Items, no_items, item}
use Rattle.serde_json.specs.Read.{read}
use Rattle.serde_json.specs.Find.{get, as_str, as_number, as_u64, as_array}

-- the JSON value that these bytes are parsed as; none if they aren't UTF-8, or not one JSON value
unfoldable pub json_of : List ℕ → Option Data
json_of bytes = if is_utf8 bytes then read bytes else None

-- the text of the member with this name, if it is one
abbrev pub text_member : List ℕ → Data → Option (List ℕ)
text_member name value = option_and_then as_str (get name value)

-- the unsigned whole number of the member with this name, if it is one
abbrev pub number_member : List ℕ → Data → Option ℕ
number_member name value = option_and_then as_u64 (option_and_then as_number (get name value))

-- the elements of a list, in order
abbrev pub elements_of : Items → List Data
elements_of no_items = []
elements_of (item element elements) = element ∷ elements_of elements

-- the elements of the list of the member with this name, if it is one
abbrev pub list_member : List ℕ → Data → Option (List Data)
list_member name value = option_map elements_of (option_and_then as_array (get name value))
