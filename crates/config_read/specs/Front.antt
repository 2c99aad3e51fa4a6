-- The elements of a list up to the first that is malformed.
use Rattle.std.specs.Prelude.{List, [], ◌∷◌, Option, Some, None}
use Rattle.serde_json.specs.Data.{Data}

-- what one element is parsed as, before what the others are parsed as
abbrev pub in_front : {A : Type 0} → Option A → List A → List A
in_front None found = []
in_front (Some thing) found = thing ∷ found

-- what the elements are parsed as, up to the first that is malformed
abbrev pub front : {A : Type 0} → (Data → Option A) → List Data → List A
front said [] = []
front said (element ∷ elements) = in_front (said element) (front said elements)
