-- A round of several callers: they answer the lines that wait, while the answers that are due are written and the next
-- lines in hand are taken.
use Rattle.std.specs.Prelude.{◌≡◌, ℕ, List, [], ◌++◌, map, Option, Result, OnErr}
use Rattle.std.specs.List.{flat_map}
use Rattle.issuer_base.specs.Sink.{WritesAll}
use Rattle.issuer_base.specs.declared.answer.Answer.{Answer}
use Rattle.issuer_base.specs.declared.faults.WriteFault.{WriteFault}
use Rattle.issuer_base.specs.declared.outside.store.Store.{Ghosts}
use Rattle.answer_text.specs.AnswerText.{printed}
use Rattle.line_reader.specs.Reading.{Reading, TakesInHand, kept}
use Rattle.shared_callers.specs.Lanes.{LanesServe}
use Rattle.shared_callers.specs.declared.lanes.Lanes.{Lanes}

-- the answers that were due were written, or the sink took a prefix of their text and failed
abbrev pub WritesAnswers : List Answer → Option (List ℕ) → Option (List ℕ) → Result (Unit {0}) WriteFault → Type 0
WritesAnswers due held_before held_after result = WritesAll held_before held_after result (flat_map printed due)

module _ {S : Type 0} {G : Ghosts S} where
  -- the lines that waited were answered, and their answers are due; meanwhile the answers that were due were written,
  -- and then lines in hand were taken, which wait now; if the sink failed, none was taken
  pub record AnswersRound (now : Lanes S G) (input_was input_is : Reading)
      (held_before held_after : Option (List ℕ)) (result : Result (Unit {0}) WriteFault)
      (lines : List (List ℕ)) (answers due : List Answer) (waiting : List (List ℕ)) : Type 0 where
    pub more : List Answer
    pub taken : List (List ℕ)
    pub served : LanesServe now (lines ++ waiting) (answers ++ more) more (map kept taken)
    pub in_hand : TakesInHand input_was taken input_is
    pub written : WritesAnswers due held_before held_after result
    pub failed : OnErr result (taken ≡ [])
