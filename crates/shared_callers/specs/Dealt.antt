-- The lines that were dealt to all callers, and their answers.
use Rattle.std.specs.Prelude.{◌≡◌, ℕ, ◌≤◌, List, [], ◌++◌, length, map, Option, Result, OnErr}
use Rattle.std.specs.List.{flat_map}
use Rattle.issuer_base.specs.Sink.{WritesAll}
use Rattle.issuer_base.specs.declared.faults.WriteFault.{WriteFault}
use Rattle.issuer_base.specs.declared.answer.Answer.{Answer}
use Rattle.issuer_setup.specs.IssuerSetup.{Setup}
use Rattle.turn_book.specs.declared.logs.Log.{Log}
use Rattle.shared_shards.specs.declared.logs.LogItem.{LogItem}
use Rattle.shared_shards.specs.declared.logs.LogHead.{LogHead}
use Rattle.answer_text.specs.AnswerText.{printed}
use Rattle.line_reader.specs.Reading.{Reading, TakesInHand, kept}
use Rattle.shared_callers.specs.OneLane.{HaveAllHad}
use Rattle.shared_callers.specs.Halves.{HasWaiting, HasDue}
use Rattle.shared_callers.specs.declared.half_block.HalfBlock.{HalfBlock}
use Rattle.shared_callers.specs.declared.lane.Lane.{Lane}

-- since the opening logs, the lanes' callers gave these answers to these lines; the texts of the answers `due`, which
-- are the last, are due; these lines wait
pub record HasDealt (issuer : Setup) (opening : List (Log LogItem LogHead)) (lanes : List Lane) (half : HalfBlock)
    (lines : List (List ℕ)) (answers due : List Answer) (waiting : List (List ℕ)) : Type 0 where
  pub taken : List Answer
  pub answers_are : answers ≡ taken ++ due
  pub answered : length answers ≡ length lines
  pub waits : HasWaiting half lines waiting
  pub dues : HasDue half (map printed taken) (map printed due)
  pub had : HaveAllHad issuer opening lanes lines answers

-- a round: the lines that waited were answered, and their answers are due; meanwhile the answers that were due were
-- written, and then lines in hand were taken, which wait now; if the sink failed, none was taken
pub record DealsRound (issuer : Setup) (lanes_was lanes_is : List Lane) (half_was half_is : HalfBlock)
    (input_was input_is : Reading) (held_before held_after : Option (List ℕ)) (result : Result (Unit {0}) WriteFault)
    : Type 0 where
  pub each : (opening : List (Log LogItem LogHead)) (lines : List (List ℕ)) (answers due : List Answer)
      (waiting : List (List ℕ)) → HasDealt issuer opening lanes_was half_was lines answers due waiting
      → (more : List Answer) × (taken : List (List ℕ))
      × HasDealt issuer opening lanes_is half_is (lines ++ waiting) (answers ++ more) more (map kept taken)
      × TakesInHand input_was taken input_is
      × WritesAll held_before held_after result (flat_map printed due)
      × OnErr result (taken ≡ [])
  pub read : input_was.lines ≤ input_is.lines
