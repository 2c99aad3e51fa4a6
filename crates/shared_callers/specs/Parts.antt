-- The lines and texts of a part.
use Rattle.std.specs.Prelude.{ℕ, List, map}
use Rattle.shared_callers.specs.declared.part.Part.{Part}

-- the lines that wait
abbrev pub lines_of : Part → List (List ℕ)
lines_of part = part.lines.lines

-- the texts that are due
abbrev pub texts_of : Part → List (List ℕ)
texts_of part = part.texts.texts

-- how many lines may wait in each part, in their order
abbrev pub rooms_of : List Part → List ℕ
rooms_of parts = map (λ part. part.lines.room) parts
