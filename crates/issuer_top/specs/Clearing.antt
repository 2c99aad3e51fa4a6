-- How a run ends that checks clearing lines against the records of the journals.
use Rattle.std.specs.Prelude.{◌≡◌, ℕ, ◌<◌, ◌⊎◌, true, List, length, ◌++◌, Some}
use Rattle.issuer_base.specs.Tells.{Tells}
use Rattle.issuer_base.specs.declared.entry.Entry.{Entry}
use Rattle.answer_text.specs.StopText.{stop_text}
use Rattle.answer_text.specs.declared.stop_line.Stop.{Stop}
use Rattle.answer_text.specs.declared.stop_line.Stop.TheVariants.{ReadFault, StoreFault, BadJournal, NoMemory, TooLong}
use Rattle.issuer_setup.specs.IssuerSetup.{Setup}
use Rattle.line_reader.specs.Lines.{lines}
use Rattle.line_reader.specs.Reading.{IsWithinLimits}
use Rattle.host_loading.specs.Books.{ShardBook, histories_of}
use Rattle.command_line.specs.Command.{IsClear}
use Rattle.line_blocks.specs.Answered.{WasRead, AreAllLines, AreWholeLines, AreLinesBefore, AreFirstLines}
use Rattle.clearing_check.specs.declared.filed.Filed.{Filed}
use Rattle.clearing_check.specs.ClearText.{clear_text, verdicts_text}
use Rattle.journal_reader.specs.Accounts.{AccountsFor}
use Rattle.journal_reader.specs.Filing.{filed_records}
use Rattle.journal_reader.specs.declared.filing.FilingFault.{FilingFault}
use Rattle.desk_host.specs.SeenStores.{SeenJournals}
use Rattle.issuer_top.specs.Opened.{OpenedConfigOnly, OpenedBothInputs, FailsToOpen}
use Rattle.issuer_top.specs.InOrder.{AreObservable, IsInOrder}
use Rattle.issuer_top.specs.Opening.{SaysIssuer}
use Rattle.issuer_top.specs.ReadAgain.{StayLoaded, AreRead, FailOnlyAt, StopsReading, failed_at, none_fails, stop_of_reading}
use Rattle.issuer_top.specs.Seen.{Seen, SeenInput}
use Rattle.issuer_top.specs.Stops.{StopsBefore}
use Rattle.issuer_top.specs.Ways.{Ways, Runs}

-- ---- the journals

-- the journals were loaded to check clearing lines, and are as loading left them
pub record LoadsToClear (config journal : List ℕ) (seen : Seen) : Type 0 where
  pub issuer : Setup
  pub said : SaysIssuer seen config issuer
  pub stay : StayLoaded issuer journal seen.desk.logs seen.journals

-- these are the filed records of the journals
pub record FilesBooks (issuer : Setup) (journals : SeenJournals) (books : List ShardBook) (records : List Filed)
    : Type 0 where
  pub histories : List (List Entry)
  pub read : AreRead journals books histories
  pub records_are : records ≡ filed_records issuer histories

-- ---- the clearing lines

-- lines of the clearing file were read and checked against the records of the journals, and this is what that prints:
-- the verdicts, or the whole text. No store failed
pub record ChecksLines (text_of : Setup → List Filed → List (List ℕ) → List ℕ) (config clearing journal : List ℕ)
    (seen : Seen) (text : List ℕ) : Type 0 where
  pub loaded : LoadsToClear config journal seen
  pub stood : FailOnlyAt seen.journals.stores none_fails
  pub opened : OpenedBothInputs seen
  pub records : List Filed
  pub filed : FilesBooks loaded.issuer seen.journals loaded.stay.first records
  pub input : SeenInput
  pub input_is : seen.requests ≡ Some input
  pub file : List ℕ
  pub read : List ℕ
  pub asked : List (List ℕ)
  pub held : Tells (seen.desk.tells clearing) (Some file)
  pub was_read : WasRead file read input.left
  pub text_is : text ≡ text_of loaded.issuer records asked

-- the check of these lines accounts for each approval of the books' histories, once: the records that were filed are
-- theirs
pub record AccountsForAll (issuer : Setup) (books : List ShardBook) (records : List Filed) (asked : List (List ℕ))
    : Type 0 where
  pub records_are : records ≡ filed_records issuer (histories_of books)
  pub accounts : AccountsFor issuer (histories_of books) asked

-- status 0: all lines of the clearing file were checked. Where the stores' bytes are observable, each approval of the
-- journals is accounted for, once
pub record IsCleared (config clearing journal : List ℕ) (seen : Seen) (text : List ℕ) : Type 0 where
  pub lines : ChecksLines clear_text config clearing journal seen text
  pub which : AreAllLines lines.file lines.read lines.asked
  pub accounted : AreObservable seen.journals.stores
      → AccountsForAll lines.loaded.issuer lines.loaded.stay.first lines.records lines.asked

-- the first lines of the clearing file were judged
pub record IsCheckBegun (config clearing journal : List ℕ) (seen : Seen) (text : List ℕ) : Type 0 where
  pub lines : ChecksLines verdicts_text config clearing journal seen text
  pub which : AreFirstLines lines.file lines.read lines.asked

-- status 3: the desk failed at the clearing file's name, once the records of the journals were filed; no store failed
pub record CannotOpenClearing (config clearing journal : List ℕ) (seen : Seen) (text : List ℕ) : Type 0 where
  pub loaded : LoadsToClear config journal seen
  pub stood : FailOnlyAt seen.journals.stores none_fails
  pub fails : FailsToOpen seen clearing true
  pub last : text ≡ stop_text ReadFault

-- status 3: the clearing file failed while it was read, and the whole lines of what was read were judged
pub record CannotReadClearing (config clearing journal : List ℕ) (seen : Seen) (text : List ℕ) : Type 0 where
  pub verdicts : List ℕ
  pub lines : ChecksLines verdicts_text config clearing journal seen verdicts
  pub which : AreWholeLines lines.read lines.asked
  pub failed : 0 < lines.input.faults
  pub last : text ≡ verdicts ++ stop_text ReadFault

-- statuses 5 and 6: the journals were loaded, and that of this shard couldn't be read again; the clearing file was not
-- opened. No other store failed
pub record CannotReadAgain (config journal : List ℕ) (seen : Seen) (stop : Stop) (text : List ℕ) : Type 0 where
  pub loaded : LoadsToClear config journal seen
  pub opened : OpenedConfigOnly seen
  pub fault : FilingFault
  pub shard : ℕ
  pub counted : FailOnlyAt seen.journals.stores (failed_at fault shard)
  pub cause : StopsReading seen.journals.stores shard fault
  pub stop_is : stop ≡ stop_of_reading fault shard
  pub last : text ≡ stop_text stop

-- status 7: no memory was left to check clearing lines with, once the journals were loaded and before the clearing file
-- was opened; no store failed
pub record CannotCheck (config journal : List ℕ) (seen : Seen) (text : List ℕ) : Type 0 where
  pub loaded : LoadsToClear config journal seen
  pub stood : FailOnlyAt seen.journals.stores none_fails
  pub opened : OpenedConfigOnly seen
  pub last : text ≡ stop_text NoMemory

-- status 8: a byte of the clearing file past a limit was read, in the line of this number, and the lines before were
-- judged
pub record IsClearingTooLong (number : ℕ) (config clearing journal : List ℕ) (seen : Seen) (text : List ℕ)
    : Type 0 where
  pub verdicts : List ℕ
  pub lines : ChecksLines verdicts_text config clearing journal seen verdicts
  pub which : AreLinesBefore number lines.read lines.asked
  pub last : text ≡ verdicts ++ stop_text (TooLong number)

-- how a run stops once its journals were loaded
abbrev pub StopsToClear : List ℕ → List ℕ → List ℕ → Seen → Stop → List ℕ → Type 0
StopsToClear config clearing journal seen ReadFault text =
    CannotOpenClearing config clearing journal seen text ⊎ CannotReadClearing config clearing journal seen text
StopsToClear config clearing journal seen (StoreFault shard) text =
    CannotReadAgain config journal seen (StoreFault shard) text
StopsToClear config clearing journal seen (BadJournal shard line) text =
    CannotReadAgain config journal seen (BadJournal shard line) text
StopsToClear config clearing journal seen NoMemory text = CannotCheck config journal seen text
StopsToClear config clearing journal seen (TooLong number) text =
    IsClearingTooLong number config clearing journal seen text
StopsToClear config clearing journal seen stop text = ⊥

-- what was due at status 4 are the verdicts so far, or the whole text
abbrev pub ways_to_clear : List ℕ → List ℕ → List ℕ → Seen → Ways
ways_to_clear config clearing journal seen = record {
  IsDone = IsCleared config clearing journal seen;
  Stops = λ stop text. StopsBefore config journal seen stop text ⊎ StopsToClear config clearing journal seen stop text;
  IsDue = λ text. IsCheckBegun config clearing journal seen text ⊎ IsCleared config clearing journal seen text;
}

-- ---- the command

-- all is in order, the stores' bytes are observable, and the desk tells of a clearing file within the limits
pub record ClearsInOrder (config clearing journal : List ℕ) (seen : Seen) : Type 0 where
  pub in_order : IsInOrder config journal seen
  pub stores_told : AreObservable seen.journals.stores
  pub file : List ℕ
  pub clearing_held : seen.desk.tells clearing ≡ Some (Some file)
  pub within : IsWithinLimits (length (lines file)) (length file)

-- if the words are the command to check clearing lines, with these names, the run ends in one of its ways
abbrev pub RunsClear : List (List ℕ) → ℕ → Seen → Type 0
RunsClear words status seen = (config clearing journal : List ℕ) → IsClear words config clearing journal
    → Runs (ways_to_clear config clearing journal seen) (ClearsInOrder config clearing journal seen) status seen
