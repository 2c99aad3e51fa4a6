-- The elements of a part one at a time, up to the first that is malformed.
use Rattle.std.proofs.Common.{◌≡◌, ℕ, ◌+◌, ◌≤◌, List, [], ◌∷◌, ◌++◌, length, drop, map, Option, Some, None}
use Rattle.std.proofs.Common.{arith}
use Rattle.serde_json.specs.Data.{Data}
use Rattle.serde_json.specs.View.{view}
use Rattle.serde_json.specs.declared.value.Value.{Value}
use Rattle.config_read.specs.Front.{front, in_front}

-- after so many elements, these things were said, and what is said in front begins with them
pub record HasFront {A : Type 0} (said : Data → Option A) (elements : List Value) (count : ℕ) (found : List A) : Type 0 where
  pub so_far : front said (map view elements) ≡ found ++ front said (map view (drop count elements))
  pub each : length found ≡ count

-- there are no more of them
in_front-le : {A : Type 0} (first : Option A) (found : List A) (count : ℕ) → length found ≤ count → length (in_front first found) ≤ 1 + count
in_front-le None found count few = omega arith
in_front-le (Some thing) found count few = omega arith

pub length-front-le : {A : Type 0} (said : Data → Option A) (elements : List Data) → length (front said elements) ≤ length elements
length-front-le said [] = omega arith
length-front-le said (element ∷ elements) =
    let more = in_front-le (said element) (front said elements) (length elements) (length-front-le said elements) in
    omega (arith, more)
