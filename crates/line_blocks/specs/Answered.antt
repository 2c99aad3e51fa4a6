-- Which lines of a request file were answered, by what of it was read.
use Rattle.std.specs.Prelude.{◌≡◌, ℕ, ◌+◌, List, ◌++◌, length, Option}
use Rattle.std.specs.List.{flat_map}
use Rattle.issuer_base.specs.Tells.{Tells}
use Rattle.line_reader.specs.Lines.{lines, ended, BeginsWithLines, IsLinesAndRest}
use Rattle.line_reader.specs.Reading.{IsWithinLimits, StaysWithinLimits, PassesLimit}

-- so much of a file was read: the rest is what the input has left, where it tells
pub record WasRead (file read : List ℕ) (left : Option (List ℕ)) : Type 0 where
  pub unread : List ℕ
  pub split : file ≡ read ++ unread
  pub tells : Tells left unread

-- the file was read to its end and is within the limits, and these are all its lines
pub record AreAllLines (file read : List ℕ) (asked : List (List ℕ)) : Type 0 where
  pub to_the_end : read ≡ file
  pub within : IsWithinLimits (length (lines file)) (length file)
  pub asked_are : asked ≡ lines file

-- what was read passes no limit, and these are its whole lines
pub record AreWholeLines (read : List ℕ) (asked : List (List ℕ)) : Type 0 where
  pub rest : List ℕ
  pub parted : IsLinesAndRest read asked rest
  pub within : StaysWithinLimits (length asked) (length (flat_map ended asked)) rest

-- a byte past a limit was read, in the line of this number, and these are the lines before it
pub record AreLinesBefore (number : ℕ) (read : List ℕ) (asked : List (List ℕ)) : Type 0 where
  pub ahead : List ℕ
  pub parted : BeginsWithLines read asked ahead
  pub within : IsWithinLimits (length asked) (length (flat_map ended asked))
  pub passes : PassesLimit (length asked) (length (flat_map ended asked)) ahead
  pub number_is : number ≡ length asked + 1

-- these are the first lines of the file, within the limits: those of a prefix of what was read that ends with a line
pub record AreFirstLines (file read : List ℕ) (asked : List (List ℕ)) : Type 0 where
  pub prefix : List ℕ
  pub ahead : List ℕ
  pub more : List ℕ
  pub was_read : read ≡ prefix ++ ahead
  pub split : file ≡ prefix ++ more
  pub ends_line : lines file ≡ lines prefix ++ lines more
  pub within : IsWithinLimits (length (lines prefix)) (length prefix)
  pub asked_are : asked ≡ lines prefix
