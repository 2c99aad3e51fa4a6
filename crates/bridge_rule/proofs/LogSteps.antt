-- A log's step at one record.
use Rattle.std.proofs.Common.{◌≡◌, ℕ, Bool, List, [], ◌∷◌, Some, map, ap, sym, ◌∙◌}
use Rattle.std.proofs.lemmas.Option.{none-some, same_Some}
use Rattle.std.specs.List.{slice_get}
use Rattle.arrayvec.specs.ArrayVec.{ArrayVec}
use Rattle.one_history.specs.Streams.{Text, is_word}
use Rattle.bridge_rule.specs.Logs.{text_items, first_known}

-- the first known text, compared
pub known_first : (items : List (ArrayVec ℕ)) (known : ArrayVec ℕ) (text : Text) (answer : Bool) → Some known ≡ slice_get items 0
    → answer ≡ is_word known.items text → Some answer ≡ first_known (map text_items items) text
known_first [] known text answer is compared = absurd (none-some known (sym is))
known_first (item ∷ items) known text answer is compared =
    ap Some (compared ∙ ap (λ (other : ArrayVec ℕ). is_word other.items text) (same_Some known item is))
