-- How a run ends that checks clearing lines.
use Rattle.std.proofs.Common.{◌≡◌, ℕ, ◌<◌, ◌&&◌, true, false, List, map, Option, Some, Err}
use Rattle.std.proofs.Common.{inl, inr, ⊎_elim, refl, sym, subst, ◌∙◌}
use Rattle.std.proofs.lemmas.Bool.{eq-eqb}
use Rattle.std.specs.Prelude.{is_some}
use Rattle.std.specs.Io.KnownBytes.{Appends}
use Rattle.issuer_base.specs.OutsideFaults.{Rose, CountsFaults}
use Rattle.issuer_base.specs.Sink.{AppendsFront}
use Rattle.issuer_base.specs.Desk.{FailedCall, is_fault, last_after}
use Rattle.issuer_base.specs.declared.outside.DeskFault.{DeskFault}
use Rattle.issuer_base.specs.declared.outside.DeskFault.TheVariants.{Fault, NoMemory as NoDeskRoom}
use Rattle.issuer_base.specs.declared.outside.DeskCall.TheVariants.{Read}
use Rattle.issuer_base.specs.declared.outside.store.Store.{Ghosts}
use Rattle.issuer_base.proofs.ManyCalls.{Rose-from_none}
use Rattle.answer_text.specs.declared.stop_line.Stop.TheVariants.{ReadFault, StoreFault, BadJournal, NoMemory, TooLong}
use Rattle.issuer_setup.specs.IssuerSetup.{Setup}
use Rattle.host_loading.specs.Loading.{AreOnlyRead}
use Rattle.clearing_check.specs.declared.filed.Filed.{Filed}
use Rattle.clearing_check.specs.ClearText.{clear_text, verdicts_text}
use Rattle.journal_reader.specs.Filing.{FilesAll, IsSpared, CountAt, fails_at, is_store_fault}
use Rattle.journal_reader.specs.declared.filing.FilingFault.{FilingFault}
use Rattle.journal_reader.specs.declared.filing.FilingFault.TheVariants.{StoreFault as StoreFails, BadLine}
use Rattle.journal_reader.specs.declared.filing.FilingFault.TheVariants.{NoMemory as NoRoom}
use Rattle.line_serving.specs.Loaded.{AreLoadedFrom}
use Rattle.desk_host.specs.SeenStores.{Logged, SeenJournals, journals_seen, store_seen}
use Rattle.line_blocks.specs.Answered.{AreAllLines, AreWholeLines, AreLinesBefore, AreFirstLines}
use Rattle.line_blocks.specs.Serving.{ServesLines, read_failed, write_failed}
use Rattle.line_blocks.specs.declared.served.Served.{Served}
use Rattle.line_blocks.specs.declared.served.Served.TheVariants.{All, ReadFault as ReadStopped, WriteFault as SinkFault}
use Rattle.line_blocks.specs.declared.served.Served.TheVariants.{TooLong as LongStopped}
use Rattle.line_serving.specs.Clearing.{Clears}
use Rattle.issuer_top.specs.declared.ending.Ending.{Ending}
use Rattle.issuer_top.specs.Seen.{Seen, SeenInput}
use Rattle.issuer_top.specs.Opening.{GivesInput, SaysIssuer, stop_of}
use Rattle.issuer_top.specs.Opened.{OpenedConfigOnly, OpenedBothInputs}
use Rattle.issuer_top.specs.Stopping.{EndsServing}
use Rattle.issuer_top.specs.ReadAgain.{StayLoaded, FailOnlyAt, StopsReading, failed_at, none_fails, stop_of_reading}
use Rattle.issuer_top.specs.Clearing.{LoadsToClear, FilesBooks, ChecksLines, ways_to_clear}
use Rattle.issuer_top.specs.Ways.{EndsBy}
use Rattle.issuer_top.proofs.Accounting.{accounts-all}
use Rattle.issuer_top.proofs.EndingSteps.{told-given, ends_by_stop, ends_at_once, StopsAtOnce}
use Rattle.issuer_top.proofs.ReadingSteps.{are-read, fail-read, fail-same, fails-at, stops-reading}

-- ---- journals that were loaded, and filed

module _ {S : Type 0} (G : Ghosts S) (issuer : Setup) (prefix : List ℕ) (logs : Logged) (olds stores : List S)
    (loaded : AreLoadedFrom issuer prefix logs (journals_seen G olds stores)) (read : List S)
    (only : AreOnlyRead G.size G.bytes G.disk G.room stores read) where
  pub files-books : (records : List Filed) → FilesAll G.bytes issuer stores records
      → FilesBooks issuer (journals_seen G olds read) loaded.books records
  files-books records filed = record {
    histories = filed.histories;
    read = are-read G issuer prefix logs olds stores loaded read only filed.histories filed.have;
    records_are = filed.filed_are;
  }

  -- they couldn't be filed
  pub stops-filing : (shard : ℕ) → shard < issuer.shards → (fault : FilingFault)
      → IsSpared G.bytes issuer stores shard fault
      → CountAt G.faults stores read (fails_at {X = Unit {0}} (Err (record { fault = fault; shard = shard })))
      → StopsReading (map (store_seen G) read) shard fault
  stops-filing shard within fault spared count =
      stops-reading G issuer prefix logs olds stores loaded read only shard within fault spared
      (λ before after before_at after_at.
      subst (λ b. CountsFaults (G.faults before) (G.faults after) (b && is_store_fault {X = Unit {0}} (Err fault)))
      (eq-eqb shard shard refl) (count shard before after before_at after_at))

  -- no store but that one failed
  pub fail-filing : (shard : ℕ) (fault : FilingFault)
      → CountAt G.faults stores read (fails_at {X = Unit {0}} (Err (record { fault = fault; shard = shard })))
      → FailOnlyAt (map (store_seen G) read) (failed_at fault shard)
  fail-filing shard fault count =
      fail-same (map (store_seen G) read)
      (fails_at {X = Unit {0}} (Err (record { fault = fault; shard = shard }))) (failed_at fault shard)
      (fails-at fault shard)
      (fail-read G issuer prefix logs olds stores loaded read only
      (fails_at {X = Unit {0}} (Err (record { fault = fault; shard = shard }))) count)

-- ---- the ways that a clearing check ends

-- the configuration says an issuer that stays the same
pub says-same : (seen : Seen) (config : List ℕ) (issuer other : Setup) → other ≡ issuer → SaysIssuer seen config issuer
    → SaysIssuer seen config other
says-same seen config issuer other same said = subst (λ (i : Setup). SaysIssuer seen config i) (sym same) said

-- so are the journals, of which the desk tells the same
pub loaded-same : (issuer : Setup) (prefix : List ℕ) (logs other : Logged) (journals : SeenJournals) → logs ≡ other
    → AreLoadedFrom issuer prefix logs journals → AreLoadedFrom issuer prefix other journals
loaded-same issuer prefix logs other journals same loaded =
    subst (λ (l : Logged). AreLoadedFrom issuer prefix l journals) same loaded

module _ (config clearing journal : List ℕ) (seen : Seen) (issuer : Setup) (said : SaysIssuer seen config issuer)
    (stay : StayLoaded issuer journal seen.desk.logs seen.journals) where
  loads : LoadsToClear config journal seen
  loads = record { issuer = issuer; said = said; stay = stay }

  -- no memory was left to check lines with
  pub ends_unchecked : FailOnlyAt seen.journals.stores none_fails → (ending : Ending) → OpenedConfigOnly seen
      → StopsAtOnce seen NoMemory ending → EndsBy (ways_to_clear config clearing journal seen) seen ending
  unfolding loads
  ends_unchecked counted ending opened stopping =
      ends_at_once (ways_to_clear config clearing journal seen) seen NoMemory ending
      (inr (record { loaded = loads; stood = counted; opened = opened; last = refl })) stopping

  -- the journals couldn't be filed
  pub ends_unfiled : (fault : FilingFault) (shard : ℕ) → FailOnlyAt seen.journals.stores (failed_at fault shard)
      → (ending : Ending) → OpenedConfigOnly seen
      → StopsReading seen.journals.stores shard fault → StopsAtOnce seen (stop_of_reading fault shard) ending
      → EndsBy (ways_to_clear config clearing journal seen) seen ending
  unfolding loads
  ends_unfiled StoreFails shard counted ending opened cause stopping =
      ends_at_once (ways_to_clear config clearing journal seen) seen (StoreFault shard) ending
      (inr (record {
        loaded = loads;
        opened = opened;
        fault = StoreFails;
        shard = shard;
        counted = counted;
        cause = cause;
        stop_is = refl;
        last = refl;
      })) stopping
  ends_unfiled (BadLine line) shard counted ending opened cause stopping =
      ends_at_once (ways_to_clear config clearing journal seen) seen (BadJournal shard line) ending
      (inr (record {
        loaded = loads;
        opened = opened;
        fault = BadLine line;
        shard = shard;
        counted = counted;
        cause = cause;
        stop_is = refl;
        last = refl;
      })) stopping
  ends_unfiled NoRoom shard counted ending opened cause stopping = ends_unchecked counted ending opened stopping

  -- the desk gave no clearing file
  pub ends_no_clearing : FailOnlyAt seen.journals.stores none_fails → (T : Type 0) (other : Option FailedCall) (between : ℕ) (fault : DeskFault) (ending : Ending)
      → is_some seen.config ≡ true → is_some seen.requests ≡ false
      → between ≡ seen.desk.faults_before → CountsFaults between seen.desk.faults_after (is_fault {T = T} (Err fault))
      → seen.desk.last_fault ≡ last_after Read clearing (is_fault {T = T} (Err fault)) other
      → StopsAtOnce seen (stop_of fault) ending → EndsBy (ways_to_clear config clearing journal seen) seen ending
  unfolding loads
  ends_no_clearing counted T other between Fault ending with_config no_requests stood desk_count last stopping =
      ends_at_once (ways_to_clear config clearing journal seen) seen ReadFault ending
      (inr (inl (record {
        loaded = loads;
        stood = counted;
        fails = record {
          config_is = with_config;
          requests_is = no_requests;
          rose = subst (λ (n : ℕ). Rose n seen.desk.faults_after) stood desk_count.counted;
          call_is = last;
        };
        last = refl;
      })))
      stopping
  ends_no_clearing counted T other between NoDeskRoom ending with_config no_requests stood desk_count last stopping =
      ends_unchecked counted ending (record {
        config_is = with_config;
        requests_is = no_requests;
        desk_stood = desk_count.counted ∙ stood;
      }) stopping

  module _ (counted : FailOnlyAt seen.journals.stores none_fails) (input : SeenInput) (left : Option (List ℕ))
      (opened : OpenedBothInputs seen)
      (input_is : seen.requests ≡ Some input) (given : GivesInput (seen.desk.tells clearing) left)
      (records : List Filed) (filed : FilesBooks issuer seen.journals stay.first records) where
    -- what was checked are lines of the file that the desk holds
    lines-checked : (text_of : Setup → List Filed → List (List ℕ) → List ℕ)
        (Which : List ℕ → List ℕ → List (List ℕ) → Type 0) (Written : List ℕ → Type 0)
        → (served : ServesLines Which (λ lines text. text ≡ text_of issuer records lines) Written left input.left)
        → ChecksLines text_of config clearing journal seen served.text
    unfolding loads
    lines-checked text_of Which Written served = record {
      loaded = loads;
      stood = counted;
      opened = opened;
      records = records;
      filed = filed;
      input = input;
      input_is = input_is;
      file = served.file;
      read = served.read;
      asked = served.asked;
      held = told-given (seen.desk.tells clearing) left served.file given served.content;
      was_read = served.was_read;
      text_is = served.answered;
    }

    -- how the run ends, by how the check did
    pub ends_clearing : (served : Served) (ending : Ending) (held : Option (List ℕ)) (faults fresh : ℕ)
        → Clears issuer records left input.left seen.sink.held_before held served
        → CountsFaults seen.sink.faults_before faults (write_failed served)
        → fresh ≡ 0 → (read_failed served ≡ true → Rose fresh input.faults)
        → EndsServing held seen.sink.held_after faults seen.sink.faults_after served ending → EndsBy (ways_to_clear config clearing journal seen) seen ending
    unfolding loads lines-checked
    ends_clearing All ending held faults fresh serves counts none failed ends =
        let written : Appends seen.sink.held_before seen.sink.held_after serves.text =
        subst (λ (h : Option (List ℕ)). Appends seen.sink.held_before h serves.text) (sym ends.same) serves.written in
        subst (EndsBy (ways_to_clear config clearing journal seen) seen) (sym ends.ending_is) (
          serves.text,
          record {
            lines = lines-checked clear_text AreAllLines (Appends seen.sink.held_before held) serves;
            which = serves.which;
            accounted = accounts-all issuer journal seen.desk.logs seen.journals stay records serves.asked filed;
          },
          written,
        )
    ends_clearing SinkFault ending held faults fresh serves counts none failed ends =
        subst (EndsBy (ways_to_clear config clearing journal seen) seen) (sym ends.ending_is)
        (⊎_elim
        (λ begun. record {
          rose = subst (Rose seen.sink.faults_before) (sym ends.stood) counts.counted;
          text = begun.text;
          due = inr (inl (record {
            lines = lines-checked verdicts_text AreFirstLines (AppendsFront seen.sink.held_before held) begun;
            which = begun.which;
          }));
          front =
              subst (λ (h : Option (List ℕ)). AppendsFront seen.sink.held_before h begun.text) (sym ends.same)
              begun.written;
        })
        (λ whole. record {
          rose = subst (Rose seen.sink.faults_before) (sym ends.stood) counts.counted;
          text = whole.text;
          due = inr (inr (record {
            lines = lines-checked clear_text AreAllLines (AppendsFront seen.sink.held_before held) whole;
            which = whole.which;
            accounted = accounts-all issuer journal seen.desk.logs seen.journals stay records whole.asked filed;
          }));
          front =
              subst (λ (h : Option (List ℕ)). AppendsFront seen.sink.held_before h whole.text) (sym ends.same)
              whole.written;
        })
        serves)
    ends_clearing ReadStopped ending held faults fresh serves counts none failed ends =
        let rose : Rose 0 input.faults = subst (λ (n : ℕ). Rose n input.faults) none (failed refl) in
        ends_by_stop (ways_to_clear config clearing journal seen) seen held faults ReadFault ending serves.text
        (inr (inr (record {
          verdicts = serves.text;
          lines =
              lines-checked verdicts_text (λ file read asked. AreWholeLines read asked)
              (Appends seen.sink.held_before held) serves;
          which = serves.which;
          failed = Rose-from_none input.faults rose;
          last = refl;
        })))
        serves.written counts.never_falls ends
    ends_clearing (LongStopped number) ending held faults fresh serves counts none failed ends =
        ends_by_stop (ways_to_clear config clearing journal seen) seen held faults (TooLong number) ending serves.text
        (inr (record {
          verdicts = serves.text;
          lines =
              lines-checked verdicts_text (λ file read asked. AreLinesBefore number read asked)
              (Appends seen.sink.held_before held) serves;
          which = serves.which;
          last = refl;
        }))
        serves.written counts.never_falls ends
