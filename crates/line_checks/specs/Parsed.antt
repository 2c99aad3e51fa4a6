-- What a line says, by the forms of lines.
use Rattle.std.specs.Prelude.{ℕ, List, Result}
use Rattle.issuer_base.specs.TheOnly.{the}
use Rattle.chip_request.specs.declared.line.LineKind.{LineKind}
use Rattle.chip_request.specs.Lines.{ReadsAs}
use Rattle.chip_request.proofs.OneReading.{one_reading}

-- what a line says, or the column of its first error: the only result that it is parsed as
abbrev pub line_of : List ℕ → Result LineKind ℕ
line_of line = the (ReadsAs line) (one_reading line)
