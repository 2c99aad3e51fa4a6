-- A line is parsed as one result, and as no other.
use Rattle.std.proofs.Common.{ℕ, List}
use Rattle.issuer_base.specs.TheOnly.{TheOnly}
use Rattle.chip_request.specs.Lines.{ReadsAs}
use Rattle.chip_request.specs.LineParts.{line_of}
use Rattle.chip_request.proofs.LineLaws.{line_reads, reads_once}

abbrev pub one_reading : (line : List ℕ) → TheOnly (ReadsAs line)
one_reading line = (line_of line, line_reads line, λ other reads. reads_once line other (line_of line) reads (line_reads line))
