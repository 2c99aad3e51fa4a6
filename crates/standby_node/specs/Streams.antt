-- What a stream of feed lines makes of the histories of a node's shards.
use Rattle.std.specs.Prelude.{◌≡◌, ℕ, ◌+◌, ◌-◌, ◌^◌, min, List, [], ◌∷◌, ◌++◌, length}
use Rattle.issuer_base.specs.declared.entry.Entry.{Entry}
use Rattle.issuer_setup.specs.IssuerSetup.{Setup}
use Rattle.line_reader.specs.Lines.{BeginsWithLines, IsLinesAndRest}
use Rattle.standby_node.specs.FeedLines.{IsBadLine, TakesLine}

-- the lines, taken in order, make these histories of the opening ones
abbrev pub TakesLines : Setup → List (List Entry) → List (List ℕ) → List (List Entry) → Type 0
TakesLines issuer opening [] after = after ≡ opening
TakesLines issuer opening (line ∷ lines) after =
    (between : List (List Entry)) × TakesLine issuer opening line between × TakesLines issuer between lines after

-- the whole lines of the stream make these histories of the opening ones; its unfinished last line doesn't count
pub record TakesStream (issuer : Setup) (opening : List (List Entry)) (stream : List ℕ)
    (histories : List (List Entry)) : Type 0 where
  pub lines : List (List ℕ)
  pub rest : List ℕ
  pub split : IsLinesAndRest stream lines rest
  pub taken : TakesLines issuer opening lines histories

-- how many lines there are, as a `u64` counts them
abbrev pub line_count : ℕ → ℕ
line_count lines = min lines (2 ^ 64 - 1)

-- the number of the line after so many others, counted from 1
abbrev pub line_number : ℕ → ℕ
line_number before = line_count (before + 1)

-- the stream has this whole line, with this number; the lines before it make these histories of the opening ones
pub record StopsAt (issuer : Setup) (opening : List (List Entry)) (stream : List ℕ) (number : ℕ) (line : List ℕ)
    (histories : List (List Entry)) : Type 0 where
  pub before : List (List ℕ)
  pub ahead : List ℕ
  pub begins : BeginsWithLines stream (before ++ line ∷ []) ahead
  pub taken : TakesLines issuer opening before histories
  pub number_is : number ≡ line_number (length before)

-- the line with this number is the stream's first bad one, and those before it make these histories
pub record StopsBadly (issuer : Setup) (opening : List (List Entry)) (stream : List ℕ) (number : ℕ)
    (histories : List (List Entry)) : Type 0 where
  pub line : List ℕ
  pub stops : StopsAt issuer opening stream number line histories
  pub bad : IsBadLine issuer histories line
