-- The JSON value that bytes are parsed as, and the elements of a list of values.
use Rattle.std.proofs.Common.{◌≡◌, ℕ, List, [], ◌∷◌, Option, None, inl, inr, refl, ap, ◌∙◌}
use Rattle.std.proofs.lemmas.Bool.{cond-true, cond-false, cases_Bool}
use Rattle.std.proofs.lemmas.Str.{IsUtf8-from_is_utf8, is_utf8-from_IsUtf8}
use Rattle.std.specs.Str.{IsUtf8, is_utf8}
use Rattle.serde_json.specs.Data.{Data}
use Rattle.serde_json.specs.Read.{read}
use Rattle.serde_json.specs.View.{items_of}
use Rattle.config_read.specs.Json.{elements_of, json_of}

-- bytes that are UTF-8 are the value that their text is
pub json_of-text : (bytes : List ℕ) (value : Option Data) → IsUtf8 bytes → read bytes ≡ value → json_of bytes ≡ value
unfolding json_of
json_of-text bytes value utf8 is = cond-true (is_utf8 bytes) (read bytes) None (is_utf8-from_IsUtf8 bytes utf8) ∙ is

-- bytes whose text is none, if they are UTF-8, are none
pub json_of-none : (bytes : List ℕ) → (IsUtf8 bytes → read bytes ≡ None) → json_of bytes ≡ None
unfolding json_of
json_of-none bytes none =
    elim (cases_Bool (is_utf8 bytes)) [
      | inl utf8 ↦ cond-true (is_utf8 bytes) (read bytes) None utf8 ∙ none (IsUtf8-from_is_utf8 bytes utf8)
      | inr other ↦ cond-false (is_utf8 bytes) (read bytes) None other
    ]

-- the elements of the list with these elements are these
pub elements_of-items_of : (elements : List Data) → elements_of (items_of elements) ≡ elements
elements_of-items_of [] = refl
elements_of-items_of (element ∷ elements) = ap (λ more. element ∷ more) (elements_of-items_of elements)
