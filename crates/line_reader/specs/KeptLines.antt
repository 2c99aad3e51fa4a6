-- Lines in one buffer, one after another.
use Rattle.std.specs.Prelude.{ℕ, ◌-◌, ◌≤◌, List, length, slice_range}
use Rattle.line_reader.specs.declared.packed.Span.{Span}

-- the lines, in their order, and how many there may be
pub record KeptLines : Type 0 where
  pub lines : List (List ℕ)
  pub room : ℕ

-- the bytes of a line that lies there in a buffer
abbrev pub line_at : List ℕ → Span → List ℕ
line_at bytes span = slice_range bytes span.start span.end

-- a line of at most so many bytes lies there
pub record LiesIn (most : ℕ) (bytes : List ℕ) (span : Span) : Type 0 where
  pub in_order : span.start ≤ span.end
  pub within : span.end ≤ length bytes
  pub short : span.end - span.start ≤ most
