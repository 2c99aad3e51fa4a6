-- The elements of a list: what they are parsed as, or the first one at fault.
use Rattle.std.specs.Prelude.{◌≡◌, ℕ, ◌+◌, List, [], ◌∷◌, ◌++◌, length, take, slice_get, Bool, false, IsTrue, Option, Some, Result, Ok, Err}

-- the elements are parsed as these things, and each may follow those before it; the first follows the ones that are given
abbrev pub AreSound : {E A : Type 0} → (E → Option A) → (List A → A → Bool) → List A → List E → List A → Type 0
AreSound parsed may_follow before [] [] = Unit {0}
AreSound parsed may_follow before (element ∷ elements) (thing ∷ things) =
    (parsed element ≡ Some thing) × IsTrue (may_follow before thing)
    × AreSound parsed may_follow (before ++ thing ∷ []) elements things
AreSound parsed may_follow before [] (thing ∷ things) = ⊥
AreSound parsed may_follow before (element ∷ elements) [] = ⊥

-- the first fault is at this place: the element there is malformed, or may not follow those before it, which are sound
pub record IsFirstFault {E A : Type 0} (parsed : E → Option A) (may_follow : List A → A → Bool) (before : List A)
    (elements : List E) (place : ℕ) : Type 0 where
  pub sound : List A
  pub are_sound : AreSound parsed may_follow before (take place elements) sound
  pub element : E
  pub stands : slice_get elements place ≡ Some element
  pub broken : (thing : A) → parsed element ≡ Some thing → may_follow (before ++ sound) thing ≡ false

-- a list is parsed as these things, or refused for its first fault
abbrev pub IsParsed : {E A F : Type 0} → (E → Option A) → (List A → A → Bool) → (ℕ → F) → List A → List E
    → Result (List A) F → Type 0
IsParsed parsed may_follow fault before elements (Ok things) = AreSound parsed may_follow before elements things
IsParsed parsed may_follow fault before elements (Err found) =
    (place : ℕ) × (found ≡ fault (length before + place)) × IsFirstFault parsed may_follow before elements place
