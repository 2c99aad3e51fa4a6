-- The line of a shard's number of records.
use Rattle.std.specs.Prelude.{ℕ, List, [], ◌∷◌}
use Rattle.std.specs.Fmt.{decimal}
use Rattle.answer_text.specs.AnswerText.{line_of}

-- a shard, and how many records it has
unfoldable pub count_text : ℕ → ℕ → List ℕ
count_text shard count = line_of (decimal shard ∷ decimal count ∷ [])
