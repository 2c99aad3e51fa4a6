-- A line of a word and two numbers is one line: no word has a newline.
use Rattle.std.proofs.Common.{◌≡◌, ℕ, List, [], ◌∷◌, true}
use Rattle.std.specs.Fmt.{decimal}
use Rattle.answer_text.specs.AnswerText.{line_of, IsLine}
use Rattle.answer_text.proofs.Lines.{has_no_newline, line_of-IsLine, decimal-inner}

-- the line of a word and two numbers
pub numbers-IsLine : (word : List ℕ) (first second : ℕ) → has_no_newline word ≡ true
    → IsLine (line_of (word ∷ decimal first ∷ decimal second ∷ []))
numbers-IsLine word first second inner =
    line_of-IsLine (word ∷ decimal first ∷ decimal second ∷ []) (simp (inner, decimal-inner))
