-- How a run ends that fills a DOL: EMV 4.3 Book 3, section 5.4.
use Rattle.std.specs.Prelude.{◌≡◌, ℕ, ◌⊎◌, List, Option, Result, Ok, Err}
use Rattle.issuer_base.specs.OutsideFaults.{Rose}
use Rattle.arrayvec.specs.ArrayVec.{ArrayVec}
use Rattle.answer_text.specs.AnswerText.{bytes_text}
use Rattle.answer_text.specs.StopText.{status_of_stop, stop_text}
use Rattle.answer_text.specs.declared.stop_line.Stop.{Stop}
use Rattle.answer_text.specs.declared.stop_line.Stop.TheVariants.{BadDol as StopsAtDol, BadData as StopsAtData}
use Rattle.terminal_kernel.specs.declared.dol.DolEntry.{DolEntry}
use Rattle.terminal_kernel.specs.declared.dol.BadDol.{BadDol}
use Rattle.terminal_kernel.specs.declared.given.BadData.{BadData}
use Rattle.terminal_kernel.specs.Dol.{dol_of}
use Rattle.terminal_kernel.specs.Given.{DataObject, data_of}
use Rattle.terminal_kernel.specs.Filling.{filled}
use Rattle.command_line.specs.Command.{IsFill}
use Rattle.desk_host.specs.SeenStores.{no_journals}
use Rattle.issuer_top.specs.Opened.{OpenedNoInput}
use Rattle.issuer_top.specs.Stopping.{GivesStop, GivesText}
use Rattle.issuer_top.specs.Seen.{Seen}
use Rattle.issuer_top.specs.Ways.{Ways, Ends}
use Rattle.issuer_top.specs.declared.ending.Ending.{Ending}

-- a DOL, filled from data objects, or the error of the one that was parsed first: the DOL
abbrev pub filled_or_stop : Result (ArrayVec DolEntry) BadDol → Result (List DataObject) BadData → Result (List ℕ) Stop
filled_or_stop (Err bad) given = Err (StopsAtDol bad.at)
filled_or_stop (Ok dol) (Err bad) = Err (StopsAtData bad.at)
filled_or_stop (Ok dol) (Ok given) = Ok (filled given dol.items)

-- the DOL of a text, filled from the data objects of another
abbrev pub filling : List ℕ → List ℕ → Result (List ℕ) Stop
filling dol given = filled_or_stop (dol_of dol) (data_of given)

-- the sink was given the line of the filled bytes, or the last line of a run that stops
abbrev pub FillsBy : Result (List ℕ) Stop → Option (List ℕ) → Option (List ℕ) → ℕ → ℕ → Ending → Type 0
FillsBy (Ok bytes) held_before held_after faults_before faults_after ending =
    GivesText held_before held_after faults_before faults_after (bytes_text bytes) ending
FillsBy (Err stop) held_before held_after faults_before faults_after ending =
    GivesStop held_before held_after faults_before faults_after stop ending

-- the status of a run that fills a DOL, unless the sink fails
abbrev pub fill_status : Result (List ℕ) Stop → ℕ
fill_status (Ok bytes) = 0
fill_status (Err stop) = status_of_stop stop

-- ---- the ways to end

-- status 0: a DOL was filled, and this is the line of its bytes; nothing was opened
pub record IsFilled (dol given : List ℕ) (seen : Seen) (text : List ℕ) : Type 0 where
  pub bytes : List ℕ
  pub opened : OpenedNoInput seen
  pub none_opened : seen.journals ≡ no_journals
  pub filled_is : filling dol given ≡ Ok bytes
  pub text_is : text ≡ bytes_text bytes

-- statuses 9 and 10: the DOL or the data are broken, and the first error is reported; nothing was opened
pub record CannotFill (dol given : List ℕ) (seen : Seen) (stop : Stop) (text : List ℕ) : Type 0 where
  pub opened : OpenedNoInput seen
  pub none_opened : seen.journals ≡ no_journals
  pub cause : filling dol given ≡ Err stop
  pub last : text ≡ stop_text stop

abbrev pub ways_to_fill : List ℕ → List ℕ → Seen → Ways
ways_to_fill dol given seen =
    record { IsDone = IsFilled dol given seen; Stops = CannotFill dol given seen; IsDue = IsFilled dol given seen }

-- ---- the command

-- the run ended in one of its ways: the status is 0, or 9 or 10 by the first error; or 4, and the sink failed
pub record Fills (dol given : List ℕ) (status : ℕ) (seen : Seen) : Type 0 where
  pub ends : Ends (ways_to_fill dol given seen) status seen
  pub status_is : (status ≡ fill_status (filling dol given))
      ⊎ ((status ≡ 4) × Rose seen.sink.faults_before seen.sink.faults_after)

-- if the words are the command to fill a DOL, whose bytes they spell, the run ends in one of its ways
abbrev pub RunsFill : List (List ℕ) → ℕ → Seen → Type 0
RunsFill words status seen = (dol given : List ℕ) → IsFill words dol given → Fills dol given status seen
