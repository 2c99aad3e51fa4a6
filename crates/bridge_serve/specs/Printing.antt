-- What becomes of lines that are to be written: they are written, or wait, or the output failed.
use Rattle.std.specs.Prelude.{◌≡◌, ℕ, List, ◌++◌, Option, Bool, true, false}
use Rattle.std.specs.Io.KnownBytes.{Appends, Keeps}
use Rattle.issuer_base.specs.OutsideFaults.{CountsFaults}

-- the first of these bytes were written, and the others wait
pub record Writes (old new : Option (List ℕ)) (bytes waiting : List ℕ) : Type 0 where
  pub written : List ℕ
  pub appended : Appends old new written
  pub all : bytes ≡ written ++ waiting

-- the first of these bytes were written, and the output failed then: nothing is written any more
pub record Fails (old new : Option (List ℕ)) (bytes : List ℕ) : Type 0 where
  pub lost : List ℕ
  pub writes : Writes old new bytes lost

-- bytes that waited, and these: by whether the output failed before, and now
abbrev pub Prints : Option (List ℕ) → Option (List ℕ) → List ℕ → List ℕ → Bool → Bool → Type 0
Prints old new bytes waiting false false = Writes old new bytes waiting
Prints old new bytes waiting false true = Fails old new bytes
Prints old new bytes waiting true false = ⊥
Prints old new bytes waiting true true = Keeps old new

-- the output's faults: it counts one where it fails, and isn't asked again
abbrev pub CountsOnce : ℕ → ℕ → Bool → Bool → Type 0
CountsOnce old new false failed = CountsFaults old new failed
CountsOnce old new true failed = (new ≡ old) × (failed ≡ true)
