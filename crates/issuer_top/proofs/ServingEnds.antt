-- The ways that serving ends, from what its parts did.
use Rattle.std.proofs.Common.{◌≡◌, ℕ, ◌≤◌, true, false, List, length, Option, Some, Err}
use Rattle.std.proofs.Common.{inl, inr}
use Rattle.std.proofs.Common.{refl, sym, subst, ◌∙◌}
use Rattle.std.specs.Prelude.{is_some}
use Rattle.std.specs.Io.KnownBytes.{Appends}
use Rattle.issuer_base.specs.OutsideFaults.{Rose, CountsFaults}
use Rattle.issuer_base.specs.Sink.{AppendsFront}
use Rattle.issuer_base.specs.declared.outside.DeskFault.{DeskFault}
use Rattle.issuer_base.specs.declared.outside.DeskFault.TheVariants.{Fault, NoMemory as NoRoom}
use Rattle.issuer_base.specs.declared.outside.DeskCall.TheVariants.{Read}
use Rattle.issuer_base.specs.Desk.{FailedCall, is_fault, last_after}
use Rattle.issuer_base.proofs.ManyCalls.{Rose-from_none}
use Rattle.line_reader.specs.declared.limits.TheConstants.{MAX_LINES}
use Rattle.answer_text.specs.declared.stop_line.Stop.TheVariants.{ReadFault}
use Rattle.answer_text.specs.declared.stop_line.Stop.TheVariants.{NoMemory, TooLong}
use Rattle.issuer_setup.specs.IssuerSetup.{Setup}
use Rattle.issuer_top.specs.declared.ending.Ending.{Ending}
use Rattle.line_blocks.specs.declared.served.Served.{Served}
use Rattle.line_blocks.specs.declared.served.Served.TheVariants.{All, ReadFault as ReadStopped, WriteFault as SinkFault}
use Rattle.line_blocks.specs.declared.served.Served.TheVariants.{TooLong as LongStopped}
use Rattle.issuer_top.specs.Seen.{Seen, SeenInput}
use Rattle.line_blocks.specs.Answered.{AreAllLines, AreWholeLines, AreLinesBefore, AreFirstLines}
use Rattle.line_serving.specs.Leaving.{LeavesAnswered, LeavesLoaded}
use Rattle.issuer_top.specs.Opening.{GivesInput, SaysIssuer, stop_of}
use Rattle.command_line.specs.Command.{RequestFile}
use Rattle.line_blocks.specs.Serving.{ServesLines, Serves, read_failed, write_failed}
use Rattle.issuer_top.specs.Stopping.{EndsServing}
use Rattle.issuer_top.specs.Opened.{OpenedConfigOnly, OpenedBothInputs}
use Rattle.issuer_top.specs.Serving.{AnswersLines, AnswersNoLine, ways_to_serve}
use Rattle.issuer_top.specs.Ways.{Ends, EndsBy}
use Rattle.issuer_top.proofs.EndingSteps.{ends_at_once, ends_by_stop, told-given, StopsAtOnce}

-- the ways of a run with as many callers as the words say
pub with-callers : (config : List ℕ) (file : RequestFile) (callers : ℕ) (journal : List ℕ) (seen : Seen) (status : ℕ)
    → callers ≡ file.callers
    → Ends (ways_to_serve config (record { name = file.name; callers = callers }) journal seen) status seen
    → Ends (ways_to_serve config file journal seen) status seen
with-callers config file callers journal seen status same ends =
    subst (λ (n : ℕ). Ends (ways_to_serve config (record { name = file.name; callers = n }) journal seen) status seen)
    same ends

module _ (config : List ℕ) (requests : RequestFile) (journal : List ℕ) (seen : Seen) (issuer : Setup)
    (said : SaysIssuer seen config issuer) where
  -- the journals were loaded, and no line was answered
  answers-none : LeavesLoaded requests.callers issuer journal seen.desk.logs seen.journals → AnswersNoLine config requests journal seen
  answers-none leaves = record {
    issuer = issuer;
    first = leaves.first;
    last = leaves.last;
    said = said;
    kept = leaves.kept;
    lawful = leaves.lawful;
    none = leaves.none;
  }

  -- no memory was left to serve with
  pub ends_unserved : (ending : Ending) → OpenedConfigOnly seen
      → LeavesLoaded requests.callers issuer journal seen.desk.logs seen.journals → StopsAtOnce seen NoMemory ending
      → EndsBy (ways_to_serve config requests journal seen) seen ending
  unfolding answers-none
  ends_unserved ending opened leaves stopping =
      ends_at_once (ways_to_serve config requests journal seen) seen NoMemory ending
      (inr (record { loaded = answers-none leaves; opened = opened; left = leaves.left; last = refl }))
      stopping

  -- the desk gave no request file
  pub ends_no_requests : (T : Type 0) (other : Option FailedCall) (between : ℕ) (fault : DeskFault) (ending : Ending)
      → is_some seen.config ≡ true → is_some seen.requests ≡ false
      → LeavesLoaded requests.callers issuer journal seen.desk.logs seen.journals
      → between ≡ seen.desk.faults_before → CountsFaults between seen.desk.faults_after (is_fault {T = T} (Err fault))
      → seen.desk.last_fault ≡ last_after Read requests.name (is_fault {T = T} (Err fault)) other
      → StopsAtOnce seen (stop_of fault) ending → EndsBy (ways_to_serve config requests journal seen) seen ending
  unfolding answers-none
  ends_no_requests T other between Fault ending with_config no_requests leaves stood desk_count last stopping =
      ends_at_once (ways_to_serve config requests journal seen) seen ReadFault ending
      (inr (inl (record {
        loaded = answers-none leaves;
        fails = record {
          config_is = with_config;
          requests_is = no_requests;
          rose = subst (λ (n : ℕ). Rose n seen.desk.faults_after) stood desk_count.counted;
          call_is = last;
        };
        last = refl;
      })))
      stopping
  ends_no_requests T other between NoRoom ending with_config no_requests leaves stood desk_count last stopping =
      ends_unserved ending (record {
        config_is = with_config;
        requests_is = no_requests;
        desk_stood = desk_count.counted ∙ stood;
      }) leaves stopping

  module _ (input : SeenInput) (left : Option (List ℕ)) (opened : OpenedBothInputs seen)
      (input_is : seen.requests ≡ Some input)
      (given : GivesInput (seen.desk.tells requests.name) left) (Answered : List (List ℕ) → List ℕ → Type 0)
      (leaves : (asked : List (List ℕ)) (text : List ℕ) → length asked ≤ MAX_LINES → Answered asked text
      → LeavesAnswered requests.callers issuer journal seen.desk.logs seen.journals asked text) where
    -- what was served are lines of the file that the desk holds
    lines-served : (Which : List ℕ → List ℕ → List (List ℕ) → Type 0) (Written : List ℕ → Type 0)
        → (served : ServesLines Which Answered Written left input.left) → length served.asked ≤ MAX_LINES
        → AnswersLines config requests journal seen served.text
    lines-served Which Written served within =
        let l = leaves served.asked served.text within served.answered in
        record {
          issuer = issuer;
          first = l.first;
          last = l.last;
          input = input;
          file = served.file;
          read = served.read;
          asked = served.asked;
          answers = l.answers;
          opened = opened;
          input_is = input_is;
          said = said;
          kept = l.kept;
          lawful = l.lawful;
          held = told-given (seen.desk.tells requests.name) left served.file given served.content;
          was_read = served.was_read;
          answered = l.answered;
          own_tails = l.own_tails;
          printed_is = l.text_is;
        }

    -- so many lines are within the limit
    all-within : (file read : List ℕ) (asked : List (List ℕ)) → AreAllLines file read asked → length asked ≤ MAX_LINES
    all-within file read asked which =
        subst (λ (ls : List (List ℕ)). length ls ≤ MAX_LINES) (sym which.asked_are) which.within.lines_within

    first-within : (file read : List ℕ) (asked : List (List ℕ)) → AreFirstLines file read asked
        → length asked ≤ MAX_LINES
    first-within file read asked which =
        subst (λ (ls : List (List ℕ)). length ls ≤ MAX_LINES) (sym which.asked_are) which.within.lines_within

    -- how the run ends, by how serving did
    pub ends_serving : (served : Served) (ending : Ending) (held : Option (List ℕ)) (faults fresh : ℕ)
        → Serves Answered left input.left seen.sink.held_before held served
        → CountsFaults seen.sink.faults_before faults (write_failed served)
        → fresh ≡ 0 → (read_failed served ≡ true → Rose fresh input.faults)
        → EndsServing held seen.sink.held_after faults seen.sink.faults_after served ending → EndsBy (ways_to_serve config requests journal seen) seen ending
    unfolding lines-served
    ends_serving All ending held faults fresh serves counts none failed ends =
        let written : Appends seen.sink.held_before seen.sink.held_after serves.text =
        subst (λ (h : Option (List ℕ)). Appends seen.sink.held_before h serves.text) (sym ends.same) serves.written in
        let within = all-within serves.file serves.read serves.asked serves.which in
        subst (EndsBy (ways_to_serve config requests journal seen) seen) (sym ends.ending_is) (
          serves.text,
          record {
            lines = lines-served AreAllLines (Appends seen.sink.held_before held) serves within;
            which = serves.which;
          },
          written,
        )
    ends_serving SinkFault ending held faults fresh serves counts none failed ends =
        let within = first-within serves.file serves.read serves.asked serves.which in
        subst (EndsBy (ways_to_serve config requests journal seen) seen) (sym ends.ending_is)
        (record {
          rose = subst (Rose seen.sink.faults_before) (sym ends.stood) counts.counted;
          text = serves.text;
          due = inr (record {
            lines = lines-served AreFirstLines (AppendsFront seen.sink.held_before held) serves within;
            which = serves.which;
          });
          front =
              subst (λ (h : Option (List ℕ)). AppendsFront seen.sink.held_before h serves.text) (sym ends.same)
              serves.written;
        })
    ends_serving ReadStopped ending held faults fresh serves counts none failed ends =
        let rose : Rose 0 input.faults = subst (λ (n : ℕ). Rose n input.faults) none (failed refl) in
        ends_by_stop (ways_to_serve config requests journal seen) seen held faults ReadFault ending serves.text
        (inr (inr (record {
          answers = serves.text;
          lines =
              lines-served (λ file read asked. AreWholeLines read asked) (Appends seen.sink.held_before held) serves
              serves.which.within.lines_fit;
          which = serves.which;
          failed = Rose-from_none input.faults rose;
          last = refl;
        })))
        serves.written counts.never_falls ends
    ends_serving (LongStopped number) ending held faults fresh serves counts none failed ends =
        ends_by_stop (ways_to_serve config requests journal seen) seen held faults (TooLong number) ending serves.text
        (inr (record {
          answers = serves.text;
          lines =
              lines-served (λ file read asked. AreLinesBefore number read asked) (Appends seen.sink.held_before held)
              serves
              serves.which.within.lines_within;
          which = serves.which;
          last = refl;
        }))
        serves.written counts.never_falls ends
