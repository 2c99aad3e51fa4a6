-- The bytes that are read and not taken, and what a read adds to them.
use Rattle.std.specs.Prelude.{◌≡◌, ℕ, List, ◌++◌, length, slice_range, Option}
use Rattle.std.specs.Io.KnownBytes.{Consumes, IsAtEnd}
use Rattle.bridge_serve.specs.declared.window.Window.{Window}

-- the bytes
abbrev pub ahead_of : Window → List ℕ
ahead_of window = slice_range window.bytes.items window.start window.end

-- so many more bytes of the input were read; if none were, the input is at its end
pub record ReadsMore (left now : Option (List ℕ)) (old new : List ℕ) (count : ℕ) : Type 0 where
  pub piece : List ℕ
  pub consumed : Consumes left now piece
  pub counted : count ≡ length piece
  pub joined : new ≡ old ++ piece
  pub at_end : count ≡ 0 → IsAtEnd now
