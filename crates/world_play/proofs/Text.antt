-- The lines of a summary, put one behind the other, are its text.
use Rattle.std.proofs.Common.{◌≡◌, ℕ, List, [], ◌∷◌, ◌++◌, sym, ◌∙◌, append-nil, append_assoc}
use Rattle.std.specs.List.{flat_map}
use Rattle.std.specs.Fmt.{decimal}
use Rattle.answer_text.specs.AnswerText.{line_of}
use Rattle.world_play.specs.declared.summary.Summary.{Summary}
use Rattle.world_play.specs.SummaryText.{NamedCount, named_counts, summary_text}

-- the line of a count
abbrev line : NamedCount → List ℕ
line named = line_of (named.name ∷ decimal named.count ∷ [])

-- lines put behind a text one by one
abbrev put_lines : List ℕ → List NamedCount → List ℕ
put_lines text [] = text
put_lines text (named ∷ more) = put_lines (text ++ line named) more

put_lines-joined : (text : List ℕ) (all : List NamedCount) → put_lines text all ≡ text ++ flat_map line all
put_lines-joined text [] = sym (append-nil text)
put_lines-joined text (named ∷ more) = put_lines-joined (text ++ line named) more ∙ append_assoc text (line named) (flat_map line more)

-- the text of a summary
pub lines_joined : (summary : Summary) → put_lines [] (named_counts summary) ≡ summary_text summary
unfolding summary_text
lines_joined summary = put_lines-joined [] (named_counts summary)
