-- How a run ends that answers the lines of a request file.
use Rattle.std.specs.Prelude.{◌≡◌, ℕ, ◌<◌, ◌⊎◌, true, List, length, ◌++◌, Some}
use Rattle.std.specs.List.{flat_map}
use Rattle.issuer_base.specs.Tells.{Tells}
use Rattle.issuer_base.specs.declared.answer.Answer.{Answer}
use Rattle.line_reader.specs.Lines.{lines}
use Rattle.line_reader.specs.Reading.{IsWithinLimits}
use Rattle.issuer_setup.specs.IssuerSetup.{Setup}
use Rattle.answer_text.specs.AnswerText.{printed}
use Rattle.answer_text.specs.StopText.{stop_text}
use Rattle.answer_text.specs.declared.stop_line.Stop.{Stop}
use Rattle.answer_text.specs.declared.stop_line.Stop.TheVariants.{ReadFault, NoMemory, TooLong}
use Rattle.host_loading.specs.Books.{ShardBook}
use Rattle.command_line.specs.Command.{RequestFile, IsServe}
use Rattle.line_blocks.specs.Answered.{WasRead, AreAllLines, AreWholeLines, AreLinesBefore, AreFirstLines}
use Rattle.line_serving.specs.Answers.{AreAnsweredBy, AnswersNone}
use Rattle.desk_host.specs.Kept.{KeepJournals, HoldOwnTails}
use Rattle.desk_host.specs.Lawful.{IsLawful}
use Rattle.desk_host.specs.Left.{LeaveJournals}
use Rattle.issuer_top.specs.InOrder.{IsInOrder}
use Rattle.issuer_top.specs.Opened.{OpenedConfigOnly, OpenedBothInputs, FailsToOpen}
use Rattle.issuer_top.specs.Opening.{SaysIssuer}
use Rattle.issuer_top.specs.Seen.{Seen, SeenInput}
use Rattle.issuer_top.specs.Stops.{StopsBefore}
use Rattle.issuer_top.specs.Ways.{Ways, Runs}

-- lines of the request file were read and answered, and this is the text of their answers; the journals are kept
-- meanwhile, and the run is lawful. With one caller nothing is in doubt at the end but the record of a line that was
-- answered that its store failed
pub record AnswersLines (config : List ℕ) (requests : RequestFile) (journal : List ℕ) (seen : Seen) (text : List ℕ)
    : Type 0 where
  pub issuer : Setup
  pub first : List ShardBook
  pub last : List ShardBook
  pub input : SeenInput
  pub file : List ℕ
  pub read : List ℕ
  pub asked : List (List ℕ)
  pub answers : List Answer
  pub opened : OpenedBothInputs seen
  pub input_is : seen.requests ≡ Some input
  pub said : SaysIssuer seen config issuer
  pub kept : KeepJournals issuer journal seen.desk.logs seen.journals first last
  pub lawful : IsLawful issuer first last
  pub held : Tells (seen.desk.tells requests.name) (Some file)
  pub was_read : WasRead file read input.left
  pub answered : AreAnsweredBy requests.callers issuer first last asked answers
  pub own_tails : requests.callers ≡ 1 → HoldOwnTails issuer asked answers seen.journals last
  pub printed_is : text ≡ flat_map printed answers

-- the journals were loaded to serve, and no line was answered; the journals are kept meanwhile, and the run is lawful
pub record AnswersNoLine (config : List ℕ) (requests : RequestFile) (journal : List ℕ) (seen : Seen) : Type 0 where
  pub issuer : Setup
  pub first : List ShardBook
  pub last : List ShardBook
  pub said : SaysIssuer seen config issuer
  pub kept : KeepJournals issuer journal seen.desk.logs seen.journals first last
  pub lawful : IsLawful issuer first last
  pub none : AnswersNone requests.callers first last

-- ---- the ways to end

-- status 0: all lines of the request file were answered
pub record IsServed (config : List ℕ) (requests : RequestFile) (journal : List ℕ) (seen : Seen) (text : List ℕ)
    : Type 0 where
  pub lines : AnswersLines config requests journal seen text
  pub which : AreAllLines lines.file lines.read lines.asked

-- status 3: the desk failed at the request file's name, once the journals were loaded
pub record CannotOpenRequests (config : List ℕ) (requests : RequestFile) (journal : List ℕ) (seen : Seen)
    (text : List ℕ) : Type 0 where
  pub loaded : AnswersNoLine config requests journal seen
  pub fails : FailsToOpen seen requests.name true
  pub last : text ≡ stop_text ReadFault

-- status 3: the request file failed while it was read, and the whole lines of what was read were answered
pub record CannotReadRequests (config : List ℕ) (requests : RequestFile) (journal : List ℕ) (seen : Seen)
    (text : List ℕ) : Type 0 where
  pub answers : List ℕ
  pub lines : AnswersLines config requests journal seen answers
  pub which : AreWholeLines lines.read lines.asked
  pub failed : 0 < lines.input.faults
  pub last : text ≡ answers ++ stop_text ReadFault

-- status 4: the first lines of the request file were answered
pub record IsBegun (config : List ℕ) (requests : RequestFile) (journal : List ℕ) (seen : Seen) (text : List ℕ)
    : Type 0 where
  pub lines : AnswersLines config requests journal seen text
  pub which : AreFirstLines lines.file lines.read lines.asked

-- status 7: no memory was left to serve with, once the journals were loaded and before the request file was opened;
-- they are kept, and with one caller their whole lines stay at each crash since they were opened
pub record CannotServe (config : List ℕ) (requests : RequestFile) (journal : List ℕ) (seen : Seen) (text : List ℕ)
    : Type 0 where
  pub loaded : AnswersNoLine config requests journal seen
  pub opened : OpenedConfigOnly seen
  pub left : requests.callers ≡ 1 → LeaveJournals journal seen.desk.logs seen.journals
  pub last : text ≡ stop_text NoMemory

-- status 8: a byte of the request file past a limit was read, in the line of this number, and the lines before were
-- answered
pub record IsTooLong (number : ℕ) (config : List ℕ) (requests : RequestFile) (journal : List ℕ) (seen : Seen)
    (text : List ℕ) : Type 0 where
  pub answers : List ℕ
  pub lines : AnswersLines config requests journal seen answers
  pub which : AreLinesBefore number lines.read lines.asked
  pub last : text ≡ answers ++ stop_text (TooLong number)

-- how a run stops once its journals were loaded
abbrev pub StopsToServe : List ℕ → RequestFile → List ℕ → Seen → Stop → List ℕ → Type 0
StopsToServe config requests journal seen ReadFault text =
    CannotOpenRequests config requests journal seen text ⊎ CannotReadRequests config requests journal seen text
StopsToServe config requests journal seen NoMemory text = CannotServe config requests journal seen text
StopsToServe config requests journal seen (TooLong number) text = IsTooLong number config requests journal seen text
StopsToServe config requests journal seen stop text = ⊥

abbrev pub ways_to_serve : List ℕ → RequestFile → List ℕ → Seen → Ways
ways_to_serve config requests journal seen = record {
  IsDone = IsServed config requests journal seen;
  Stops = λ stop text. StopsBefore config journal seen stop text ⊎ StopsToServe config requests journal seen stop text;
  IsDue = IsBegun config requests journal seen;
}

-- ---- the command

-- all is in order, and the desk tells of a request file within the limits
pub record ServesInOrder (config : List ℕ) (requests : RequestFile) (journal : List ℕ) (seen : Seen) : Type 0 where
  pub in_order : IsInOrder config journal seen
  pub file : List ℕ
  pub requests_held : seen.desk.tells requests.name ≡ Some (Some file)
  pub within : IsWithinLimits (length (lines file)) (length file)

-- if the words are the command to serve, with these names, the run ends in one of its ways
abbrev pub RunsServe : List (List ℕ) → ℕ → Seen → Type 0
RunsServe words status seen =
    (config : List ℕ) (requests : RequestFile) (journal : List ℕ) → IsServe words config requests journal
    → Runs (ways_to_serve config requests journal seen) (ServesInOrder config requests journal seen) status seen
