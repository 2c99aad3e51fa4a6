-- What a clearing check prints: a line for each verdict, then one for each open record, then the totals.
use Rattle.std.specs.Prelude.{ℕ, List, [], ◌∷◌, ◌++◌, length, map, fold, codes}
use Rattle.std.specs.List.{flat_map, count_by}
use Rattle.std.specs.Fmt.{decimal}
use Rattle.answer_text.specs.AnswerText.{line_of, refusal_words}
use Rattle.issuer_setup.specs.IssuerSetup.{Setup}
use Rattle.clearing_check.specs.declared.filed.Filed.{Filed}
use Rattle.clearing_check.specs.Records.{is_certified, opens, place_of}
use Rattle.clearing_check.specs.declared.verdict.Verdict.{Verdict}
use Rattle.clearing_check.specs.declared.verdict.Verdict.TheVariants.{Refused, WrongKind, Lone, Differs, Declined, Against, Certified}
use Rattle.clearing_check.specs.Verdicts.{verdict, after_line}

-- a word, and where a record is: its shard, and its index in the shard's journal
abbrev pub place_words : List ℕ → ℕ → ℕ → List (List ℕ)
place_words word shard place = word ∷ decimal shard ∷ decimal place ∷ []

-- a verdict: a refusal's number and details, or the verdict's word and where the record is
unfoldable pub verdict_words : Verdict → List (List ℕ)
verdict_words (Refused refusal) = codes "refused" ∷ refusal_words refusal
verdict_words WrongKind = codes "refused" ∷ codes "17" ∷ []
verdict_words Lone = codes "lone" ∷ []
verdict_words (Differs shard place) = place_words (codes "differs") shard place
verdict_words (Declined shard place) = place_words (codes "declined") shard place
verdict_words (Against shard place) = place_words (codes "against") shard place
verdict_words (Certified shard place) = place_words (codes "certified") shard place

-- the line of a verdict
unfoldable pub verdict_text : Verdict → List ℕ
verdict_text verdict = line_of (verdict_words verdict)

-- the line of an open record, which is at this place
unfoldable pub open_text : ℕ × ℕ → List ℕ
open_text place = line_of (place_words (codes "open") place.0 place.1)

-- the last line: how many records are certified, and how many are open
unfoldable pub total_text : ℕ → ℕ → List ℕ
total_text certified left = line_of (codes "total" ∷ decimal certified ∷ decimal left ∷ [])

-- the lines of the verdicts on these lines, each over the records after those before it
abbrev pub verdicts_text : Setup → List Filed → List (List ℕ) → List ℕ
verdicts_text issuer records [] = []
verdicts_text issuer records (line ∷ lines) =
    verdict_text (verdict issuer records line) ++ verdicts_text issuer (after_line issuer records line) lines

-- the records after these lines
abbrev pub after_lines : Setup → List Filed → List (List ℕ) → List Filed
after_lines issuer records lines = fold (after_line issuer) records lines

-- the lines of the open records, and the totals
abbrev pub closing_text : List Filed → List ℕ
closing_text records =
    flat_map open_text (map place_of (opens records))
    ++ total_text (count_by is_certified records) (length (opens records))

-- the whole text of a clearing check of these lines
abbrev pub clear_text : Setup → List Filed → List (List ℕ) → List ℕ
clear_text issuer records lines =
    verdicts_text issuer records lines ++ closing_text (after_lines issuer records lines)
