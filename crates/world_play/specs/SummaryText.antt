-- The text of a summary.
use Rattle.std.specs.Prelude.{ℕ, List, [], ◌∷◌, codes}
use Rattle.std.specs.List.{flat_map}
use Rattle.std.specs.Fmt.{decimal}
use Rattle.answer_text.specs.AnswerText.{line_of}
use Rattle.world_play.specs.declared.summary.Summary.{Summary}

-- a count and its name
pub record NamedCount : Type 0 where
  pub name : List ℕ
  pub count : ℕ

abbrev pub named_count : List ℕ → ℕ → NamedCount
named_count name count = record { name = name; count = count }

-- the eleven counts, in the order of their lines
unfoldable pub named_counts : Summary → List NamedCount
named_counts summary =
    named_count (codes "taps") summary.taps
    ∷ named_count (codes "fresh") summary.fresh
    ∷ named_count (codes "approved") summary.approved
    ∷ named_count (codes "kept") summary.kept
    ∷ named_count (codes "refused") summary.refused
    ∷ named_count (codes "authenticated") summary.authenticated
    ∷ named_count (codes "unauthenticated") summary.unauthenticated
    ∷ named_count (codes "queued") summary.queued
    ∷ named_count (codes "done") summary.done
    ∷ named_count (codes "ran") summary.ran
    ∷ named_count (codes "halted") summary.halted
    ∷ []

-- a line for each, of its name and its number
unfoldable pub summary_text : Summary → List ℕ
summary_text summary = flat_map (λ named. line_of (named.name ∷ decimal named.count ∷ [])) (named_counts summary)
