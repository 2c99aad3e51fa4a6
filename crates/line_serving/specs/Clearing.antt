-- What a clearing check reads and writes, by how it ended.
use Rattle.std.specs.Prelude.{◌≡◌, ◌⊎◌, ℕ, ◌+◌, ◌<◌, ◌≤◌, List, [], ◌++◌, length, Option, Result, Ok, Err}
use Rattle.std.specs.Io.KnownBytes.{Appends}
use Rattle.issuer_base.specs.declared.faults.WriteFault.{WriteFault}
use Rattle.issuer_base.specs.Sink.{AppendsFront}
use Rattle.issuer_setup.specs.IssuerSetup.{Setup}
use Rattle.line_reader.specs.Reading.{unread}
use Rattle.line_checks.specs.declared.lines_ahead.TheConstants.{MOST_AHEAD}
use Rattle.line_blocks.specs.declared.block.TheConstants.{BLOCK_LINES}
use Rattle.line_blocks.specs.declared.served.Served.{Served}
use Rattle.line_blocks.specs.declared.served.Served.TheVariants.{All, ReadFault, WriteFault as SinkFault, TooLong}
use Rattle.line_blocks.specs.Answered.{AreAllLines, AreWholeLines, AreLinesBefore, AreFirstLines}
use Rattle.line_blocks.specs.Serving.{ServesLines}
use Rattle.clearing_check.specs.declared.filed.Filed.{Filed}
use Rattle.clearing_check.specs.ClearingLine.{AreAhead, LookUps, none_ahead}
use Rattle.clearing_check.specs.ClearText.{verdicts_text, after_lines, clear_text}
use Rattle.line_serving.specs.declared.judge.Judge.{Judge}

-- it has read nothing, no text is due, and no line waits
pub record IsNew (judge : Judge) : Type 0 where
  pub reads_first : judge.reader ≡ unread
  pub none_due : judge.block.text.items ≡ []
  pub no_lines : judge.block.lines ≡ 0
  pub none_waits : judge.ahead ≡ none_ahead

-- these lines are judged since the book had these records, their verdicts have this text, and these were looked up and
-- wait
pub record HasJudged (issuer : Setup) (records now : List Filed) (lines : List (List ℕ)) (text : List ℕ)
    (waiting : List (List ℕ)) (ahead : LookUps) : Type 0 where
  pub waits : AreAhead issuer waiting ahead
  pub text_is : text ≡ verdicts_text issuer records lines
  pub records_are : now ≡ after_lines issuer records lines

-- the lines that wait were looked up and are fewer than are checked together, and their verdicts fit the block
pub record MaySettle (issuer : Setup) (judge : Judge) : Type 0 where
  pub waiting : List (List ℕ)
  pub waits : AreAhead issuer waiting judge.ahead
  pub few : length judge.ahead.found < MOST_AHEAD
  pub fit : judge.block.lines + length judge.ahead.found ≤ BLOCK_LINES

-- so does the verdict on another line
pub record TakesMore (issuer : Setup) (judge : Judge) : Type 0 where
  pub may_settle : MaySettle issuer judge
  pub fits : judge.block.lines + length judge.ahead.found < BLOCK_LINES

-- what a clearing check with these filed records did, by how it ended: of the input before and after, and of the sink
-- before and after. At the end of the input the whole text was written; at a fault of the input or a limit the verdicts
-- on the lines before; and where the sink failed, a prefix of the verdicts on the first lines, or of the whole text
abbrev pub Clears : Setup → List Filed → Option (List ℕ) → Option (List ℕ) → Option (List ℕ) → Option (List ℕ) → Served
    → Type 0
Clears issuer records was now held_before held_after All =
    ServesLines AreAllLines (λ lines text. text ≡ clear_text issuer records lines) (Appends held_before held_after)
    was now
Clears issuer records was now held_before held_after ReadFault =
    ServesLines (λ file read asked. AreWholeLines read asked) (λ lines text. text ≡ verdicts_text issuer records lines)
    (Appends held_before held_after) was now
Clears issuer records was now held_before held_after SinkFault =
    ServesLines AreFirstLines (λ lines text. text ≡ verdicts_text issuer records lines)
    (AppendsFront held_before held_after) was now
    ⊎ ServesLines AreAllLines (λ lines text. text ≡ clear_text issuer records lines)
    (AppendsFront held_before held_after) was now
Clears issuer records was now held_before held_after (TooLong number) =
    ServesLines (λ file read asked. AreLinesBefore number read asked)
    (λ lines text. text ≡ verdicts_text issuer records lines) (Appends held_before held_after) was now

-- ---- blocks

-- a line follows what was due: a part of both was written, and the remainder is due; or the sink failed at a prefix
abbrev pub Puts : List ℕ → List ℕ → List ℕ → Option (List ℕ) → Option (List ℕ) → Result (Unit {0}) WriteFault → Type 0
Puts line due left held_before held_after (Ok done) =
    (early : List ℕ) × Appends held_before held_after early × (early ++ left ≡ due ++ line)
Puts line due left held_before held_after (Err fault) = AppendsFront held_before held_after (due ++ line)
