-- When more of an input may be waited for.
use Rattle.std.specs.Prelude.{◌≡◌, ◌⊎◌, ℕ, List, Option}
use Rattle.line_reader.specs.Lines.{IsFirstNewline}
use Rattle.line_reader.specs.Reading.{Reading}
use Rattle.line_reader.specs.NextLine.{GivesLine, GivesRest, ReachesEnd, StopsAtFault, StopsAtLimit}
use Rattle.line_reader.specs.declared.reader.NextLine.{NextLine}
use Rattle.line_reader.specs.declared.reader.NextLine.TheVariants.{Line, Rest, End, Fault, TooLong}

-- the next line is whole in memory, so no read waits for it
abbrev pub IsInHand : Reading → Type 0
IsInHand reading = (place : ℕ) × IsFirstNewline reading.ahead place

-- the next line may be asked for: it is whole in memory, or `OwesNone` says that nothing is owed to the lines before
abbrev pub MayReadOn : Reading → Type 0 → Type 0
MayReadOn reading OwesNone = IsInHand reading ⊎ OwesNone

-- what a call for the next line found, by its outcome: of the input and of the reader, before and after
pub record ReadsNext (found : NextLine) (was now : Option (List ℕ)) (old new : Reading) : Type 0 where
  pub line : found ≡ Line → GivesLine was now old new
  pub rest : found ≡ Rest → GivesRest was now old new
  pub end : found ≡ End → ReachesEnd was now old new
  pub fault : found ≡ Fault → StopsAtFault was now old new
  pub too_long : found ≡ TooLong → StopsAtLimit was now old new
