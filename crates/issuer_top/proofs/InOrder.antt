-- All goes well where all is in order.
use Rattle.std.proofs.Common.{◌≡◌, ℕ, ◌-◌, ◌<◌, ◌≤◌, ◌⊎◌, List, [], ◌∷◌, ◌++◌, length, Option, None, Some, Ok, Err, inl}
use Rattle.std.proofs.Common.{inr, ⊎_elim}
use Rattle.std.proofs.Common.{refl, sym, subst, ap, ◌∙◌, arith}
use Rattle.std.proofs.Common.{Bool, eq-eqb}
use Rattle.std.proofs.lemmas.List.{length-append, take-append-le}
use Rattle.std.proofs.lemmas.Option.{slice_get_within}
use Rattle.std.specs.List.{flat_map}
use Rattle.std.specs.Prelude.{IsSomeAnd, MatchBool}
use Rattle.issuer_base.specs.OutsideFaults.{Rose}
use Rattle.issuer_base.specs.Tells.{Tells}
use Rattle.issuer_base.specs.declared.entry.Entry.{Entry}
use Rattle.line_reader.specs.declared.limits.TheConstants.{MAX_BYTES}
use Rattle.line_reader.specs.Lines.{lines, ended, IsUnbroken}
use Rattle.line_reader.specs.Reading.{IsWithinLimits, PassesLimit}
use Rattle.line_reader.proofs.LineLaws.{BeginsWithLines-given}
use Rattle.line_reader.proofs.WholeLines.{PassesLimit-over}
use Rattle.issuer_setup.specs.IssuerSetup.{Setup}
use Rattle.config_read.specs.declared.fault.ConfigFault.{ConfigFault}
use Rattle.config_read.specs.Configuration.{configured}
use Rattle.answer_text.specs.StopText.{status_of_stop}
use Rattle.answer_text.specs.declared.stop_line.Stop.{Stop}
use Rattle.answer_text.specs.declared.stop_line.Stop.TheVariants.{Usage, Config, ReadFault, StoreFault, BadJournal}
use Rattle.answer_text.specs.declared.stop_line.Stop.TheVariants.{BadOldJournal, NoMemory, TooLong, BadDol, BadData}
use Rattle.answer_text.specs.declared.stop_line.Stop.TheVariants.{BadFeed, NoKey}
use Rattle.shard_book.specs.declared.replay.LoadFault.{LoadFault}
use Rattle.shard_book.specs.Loading.{IsOutside}
use Rattle.shard_book.proofs.Exactly.{stops-outside}
use Rattle.host_loading.specs.Books.{histories_of}
use Rattle.command_line.specs.Command.{RequestFile, PinOrder}
use Rattle.line_blocks.specs.Answered.{AreLinesBefore, WasRead}
use Rattle.journal_reader.specs.Filing.{fault_of}
use Rattle.journal_reader.specs.declared.filing.FilingFault.{FilingFault}
use Rattle.journal_reader.specs.declared.filing.FilingFault.TheVariants.{StoreFault as StoreFails, BadLine as FileLine}
use Rattle.journal_reader.specs.declared.filing.FilingFault.TheVariants.{NoMemory as NoRoom}
use Rattle.standby_node.specs.Streams.{StopsBadly}
use Rattle.line_serving.specs.declared.follower.Followed.{Followed}
use Rattle.line_serving.specs.declared.follower.Followed.TheVariants.{BadFeed as BadLine, StoreFault as FailsAt}
use Rattle.desk_host.specs.Journals.{old_name, journal_name}
use Rattle.desk_host.specs.Loading.{DeskFaults, IsBadAt, IsBadLine, IsBadOldLine}
use Rattle.desk_host.proofs.SeenSteps.{at-place}
use Rattle.issuer_top.specs.declared.ending.Ending.{Ending}
use Rattle.issuer_top.specs.declared.ending.Ending.TheVariants.{Done, Stopped, WriteFault}
use Rattle.issuer_top.specs.Clearing.{ClearsInOrder, StopsToClear, ways_to_clear}
use Rattle.issuer_top.specs.Exporting.{ExportsInOrder, StopsToExport, ways_to_export}
use Rattle.issuer_top.specs.InOrder.{AreObservable, IsInOrder}
use Rattle.issuer_top.specs.PinChanges.{ChangesInOrder, StopsToChange, changing, ways_to_change}
use Rattle.issuer_top.specs.Played.{PlaysInOrder, StopsToPlay, ways_to_play}
use Rattle.issuer_top.specs.ReadAgain.{StopsReading, stop_of_reading}
use Rattle.issuer_top.specs.Seen.{Told, Seen, SeenInput}
use Rattle.issuer_top.specs.Serving.{ServesInOrder, StopsToServe, ways_to_serve}
use Rattle.issuer_top.specs.Showing.{ways_to_show}
use Rattle.issuer_top.specs.Standing.{StandsBy, StandsInOrder, StopsToStandBy, WereJournals, ways_to_stand_by}
use Rattle.issuer_top.specs.Status.{status_of}
use Rattle.issuer_top.specs.Stops.{HasNoHost, StopsAtConfig, StopsBefore}
use Rattle.issuer_top.specs.Ways.{Ways, Ends, EndsBy}

-- ---- what is said once

-- a run that ends well, or stops without memory, and for no other cause
in-order : (ways : Ways) (seen : Seen) → (Rose seen.sink.faults_before seen.sink.faults_after → ⊥)
    → ((stop : Stop) (text : List ℕ) → ways.Stops stop text → status_of_stop stop ≡ 7)
    → (status : ℕ) (ending : Ending) → status ≡ status_of ending → EndsBy ways seen ending
    → (status ≡ 0) ⊎ (status ≡ 7)
in-order ways seen stood only status Done is ends = inl is
in-order ways seen stood only status (Stopped stop) is ends = inr (is ∙ only stop ends.0 ends.1)
in-order ways seen stood only status WriteFault is ends = absurd (stood ends.rose)

-- what stands under a name that the desk tells of is what it tells
same-content : (desk : Told) (name other content told : List ℕ) → other ≡ name → desk name ≡ Some (Some told)
    → Tells (desk other) (Some content)
    → content ≡ told
same-content desk name other content told same tells holds =
    let at_name : Tells (desk name) (Some content) = subst (λ (n : List ℕ). Tells (desk n) (Some content)) same holds in
    let e : Some told ≡ Some content = subst (λ (t : Option (Option (List ℕ))). Tells t (Some content)) tells at_name in
    cc

-- a text doesn't say an issuer and a fault, and no two issuers
not-both : (content told : List ℕ) (issuer : Setup) (fault : ConfigFault) → content ≡ told → configured told ≡ Ok issuer
    → configured content ≡ Err fault → ⊥
not-both content told issuer fault same says broken =
    let e : Err fault ≡ Ok issuer = sym broken ∙ ap configured same ∙ says in cc

one-issuer : (content told : List ℕ) (issuer other : Setup) → content ≡ told → configured told ≡ Ok issuer
    → configured content ≡ Ok other → other ≡ issuer
one-issuer content told issuer other same says others =
    let e : configured told ≡ Ok other = sym (ap configured same) ∙ others in cc

-- ---- a request file within the limits

-- only an empty list is a front of the empty list
front-nil : (xs ys : List ℕ) → xs ++ ys ≡ [] → xs ≡ []
front-nil [] ys e = refl
front-nil (x ∷ xs) ys e = cc

-- what goes past a limit goes past it with more behind it
passes-more : (lines_before bytes : ℕ) (ahead rest : List ℕ) → PassesLimit lines_before bytes ahead
    → PassesLimit lines_before bytes (ahead ++ rest)
passes-more lines_before bytes ahead rest passes =
    ⊎_elim
    (λ begun. inl (begun.0, λ none. begun.1 (front-nil ahead rest none)))
    (λ long.
    let within : MAX_BYTES - bytes ≤ length ahead = omega (arith, long.1) in
    inr (
      subst IsUnbroken (sym (take-append-le (MAX_BYTES - bytes) ahead rest within)) long.0,
      omega
          (arith, long.1, length-append ahead rest),
    ))
    passes

-- a file within the limits goes past none
not-past : (file told read : List ℕ) (asked : List (List ℕ)) (number : ℕ) (left : Option (List ℕ)) → file ≡ told
    → IsWithinLimits (length (lines told)) (length told) → WasRead file read left → AreLinesBefore number read asked → ⊥
not-past file told read asked number left same within was_read passed =
    let parted = BeginsWithLines-given read asked passed.ahead was_read.unread passed.parted in
    let over = passes-more (length asked) (length (flat_map ended asked)) passed.ahead was_read.unread passed.passes in
    ⊎_elim
    (λ lines_over. omega (
      arith,
      lines_over,
      within.lines_within,
      ap (λ t. length (lines t))
          (sym was_read.split ∙ same),
    ))
    (λ bytes_over. omega (arith, bytes_over, within.bytes_within, ap length (sym was_read.split ∙ same)))
    (PassesLimit-over (read ++ was_read.unread) asked (passed.ahead ++ was_read.unread) parted over)

-- ---- nothing failed

-- the desk's faults, as they were seen
abbrev desk_faults : Seen → DeskFaults
desk_faults seen =
    record { before = seen.desk.faults_before; after = seen.desk.faults_after; last = seen.desk.last_fault }

-- an input that counts a fault is one that was opened
counted : (input : Option SeenInput) (seen : SeenInput) → input ≡ Some seen → 0 < seen.faults
    → IsSomeAnd input (λ i. 0 < i.faults)
counted input seen is failed = subst (λ o. IsSomeAnd o (λ (i : SeenInput). 0 < i.faults)) (sym is) failed

-- the configuration gives an issuer, or no memory was left for it
module _ (config : List ℕ) (seen : Seen) (content : List ℕ) (issuer : Setup)
    (config_held : seen.desk.tells config ≡ Some (Some content)) (says : configured content ≡ Ok issuer)
    (desk_stood : Rose seen.desk.faults_before seen.desk.faults_after → ⊥)
    (config_stood : IsSomeAnd seen.config (λ input. 0 < input.faults) → ⊥) where
  only-config : (stop : Stop) (text : List ℕ) → StopsAtConfig config seen stop text → status_of_stop stop ≡ 7
  only-config (Config part index) text stops =
      let said = stops.broken in
      let same = same-content seen.desk.tells config config said.content content refl config_held said.held in
      absurd (not-both said.content content issuer stops.fault same says said.says)
  only-config ReadFault text stops =
      ⊎_elim (λ opens. absurd (desk_stood opens.fails.rose)) (λ reads. absurd (config_stood reads.failed)) stops
  only-config NoMemory text stops = refl
  only-config stop text stops = absurd stops

module _ (config journal : List ℕ) (seen : Seen) (order : IsInOrder config journal seen) where
  -- no journal is bad, and no old one
  not-bad_line : (fault : LoadFault) (line : ℕ) → IsBadLine line fault → IsOutside fault → ⊥
  not-bad_line fault line is outside =
      ⊎_elim (λ bad. subst IsOutside bad outside) (λ bad. subst IsOutside bad outside) is

  not-bad_old_line : (fault : LoadFault) (line : ℕ) → IsBadOldLine line fault → IsOutside fault → ⊥
  not-bad_old_line fault line is outside =
      ⊎_elim (λ bad. subst IsOutside bad outside) (λ bad. subst IsOutside bad outside) is

  -- the issuer of a run that came to its journals is that of the configuration
  its-issuer : (issuer : Setup) (content : List ℕ) → Tells (seen.desk.tells config) (Some content)
      → configured content ≡ Ok issuer → issuer ≡ order.issuer
  its-issuer issuer content held says =
      one-issuer content order.content order.issuer issuer
      (same-content seen.desk.tells config config content order.content refl order.config_held held) order.says says

  not-bad_journal : (stop : Stop) (shard : ℕ) (IsSuch : LoadFault → Type 0) (text : List ℕ)
      → (none : HasNoHost config journal seen stop text)
      → IsBadAt none.issuer journal seen.desk.logs (desk_faults seen) seen.journals shard IsSuch
      → ((fault : LoadFault) → IsSuch fault → IsOutside fault → ⊥) → ⊥
  not-bad_journal stop shard IsSuch text none cause apart =
      let issuer = its-issuer none.issuer none.said.content none.said.held none.said.says in
      let logs = seen.desk.logs in
      let named = subst (λ (i : Setup). IsBadAt i journal logs (desk_faults seen) seen.journals shard IsSuch) issuer
      cause in
      let held = order.journals_held shard named.within in
      apart named.fault named.fault_is
      (stops-outside order.issuer shard held.old held.history (logs (old_name journal shard))
      (logs (journal_name journal shard)) named.fault held.old_is held.journal_is named.stops)

  not-unstored : (shard : ℕ) (text : List ℕ) → HasNoHost config journal seen (StoreFault shard) text → ⊥
  not-unstored shard text none =
      ⊎_elim (λ log. order.desk_stood log.fails.rose)
      (λ more. ⊎_elim (λ log. order.desk_stood log.fails.rose)
      (λ load. ⊎_elim (order.olds_stood shard load.old load.old_is) (order.stores_stood shard load.store load.store_is)
      load.failed) more)
      none.cause

  only-loading : (stop : Stop) (text : List ℕ) → HasNoHost config journal seen stop text → status_of_stop stop ≡ 7
  only-loading (StoreFault shard) text none = absurd (not-unstored shard text none)
  only-loading (BadJournal shard line) text none =
      absurd (not-bad_journal (BadJournal shard line) shard (IsBadLine line) text none none.cause
      (λ fault. not-bad_line fault line))
  only-loading (BadOldJournal shard line) text none =
      absurd (not-bad_journal (BadOldJournal shard line) shard (IsBadOldLine line) text none none.cause
      (λ fault. not-bad_old_line fault line))
  only-loading NoMemory text none = refl
  only-loading stop text none = absurd none.cause

  -- the journals are loaded, or no memory was left for them
  only-before : (stop : Stop) (text : List ℕ) → StopsBefore config journal seen stop text → status_of_stop stop ≡ 7
  only-before stop text stops =
      ⊎_elim
      (only-config config seen order.content order.issuer order.config_held order.says order.desk_stood
      order.config_stood stop text)
      (only-loading stop text) stops

  -- and none fails when it is read again
  not-again : AreObservable seen.journals.stores → (fault : FilingFault) (shard : ℕ) (stop : Stop)
      → StopsReading seen.journals.stores shard fault → stop ≡ stop_of_reading fault shard → (stop ≡ NoMemory → ⊥) → ⊥
  not-again told StoreFails shard stop cause is other = order.stores_stood shard cause.0 cause.1 cause.2
  not-again told (FileLine line) shard stop cause is other = told shard cause.0 cause.1 cause.2
  not-again told NoRoom shard stop cause is other = other is

-- ---- the commands

module _ (config : List ℕ) (requests : RequestFile) (journal : List ℕ) (seen : Seen)
    (order : ServesInOrder config requests journal seen) where
  only-served : (stop : Stop) (text : List ℕ) → StopsToServe config requests journal seen stop text
      → status_of_stop stop ≡ 7
  only-served ReadFault text stops =
      ⊎_elim (λ opens. absurd (order.in_order.desk_stood opens.fails.rose))
      (λ reads. absurd (order.in_order.requests_stood
      (counted seen.requests reads.lines.input reads.lines.input_is reads.failed))) stops
  only-served NoMemory text stops = refl
  only-served (TooLong line) text stops =
      let l = stops.lines in
      let content = same-content seen.desk.tells requests.name requests.name l.file order.file refl order.requests_held
      l.held in
      absurd (not-past l.file order.file l.read l.asked line l.input.left content order.within l.was_read stops.which)
  only-served stop text stops = absurd stops

pub serves-in_order : (config : List ℕ) (requests : RequestFile) (journal : List ℕ) (seen : Seen) (status : ℕ)
    → Ends (ways_to_serve config requests journal seen) status seen → ServesInOrder config requests journal seen
    → (status ≡ 0) ⊎ (status ≡ 7)
serves-in_order config requests journal seen status ends order =
    in-order (ways_to_serve config requests journal seen) seen order.in_order.sink_stood
    (λ stop text. ⊎_elim (only-before config journal seen order.in_order stop text)
    (only-served config requests journal seen order stop text))
    status ends.ending ends.status_is ends.ends_by

pub shows-in_order : (config journal : List ℕ) (seen : Seen) (status : ℕ)
    → Ends (ways_to_show config journal seen) status seen → IsInOrder config journal seen
    → (status ≡ 0) ⊎ (status ≡ 7)
shows-in_order config journal seen status ends order =
    in-order (ways_to_show config journal seen) seen order.sink_stood (only-before config journal seen order)
    status ends.ending ends.status_is ends.ends_by

module _ (config clearing journal : List ℕ) (seen : Seen) (order : ClearsInOrder config clearing journal seen) where
  only-cleared : (stop : Stop) (text : List ℕ) → StopsToClear config clearing journal seen stop text
      → status_of_stop stop ≡ 7
  only-cleared ReadFault text stops =
      ⊎_elim (λ opens. absurd (order.in_order.desk_stood opens.fails.rose))
      (λ reads. absurd (order.in_order.requests_stood
      (counted seen.requests reads.lines.input reads.lines.input_is reads.failed))) stops
  only-cleared (StoreFault shard) text stops =
      absurd (not-again config journal seen order.in_order order.stores_told stops.fault stops.shard (StoreFault shard)
      stops.cause stops.stop_is (λ e. absurd (cc)))
  only-cleared (BadJournal shard line) text stops =
      absurd (not-again config journal seen order.in_order order.stores_told stops.fault stops.shard
      (BadJournal shard line) stops.cause stops.stop_is (λ e. absurd (cc)))
  only-cleared NoMemory text stops = refl
  only-cleared (TooLong line) text stops =
      let l = stops.lines in
      let content = same-content seen.desk.tells clearing clearing l.file order.file refl order.clearing_held l.held in
      absurd (not-past l.file order.file l.read l.asked line l.input.left content order.within l.was_read stops.which)
  only-cleared stop text stops = absurd stops

pub clears-in_order : (config clearing journal : List ℕ) (seen : Seen) (status : ℕ)
    → Ends (ways_to_clear config clearing journal seen) status seen → ClearsInOrder config clearing journal seen
    → (status ≡ 0) ⊎ (status ≡ 7)
clears-in_order config clearing journal seen status ends order =
    in-order (ways_to_clear config clearing journal seen) seen order.in_order.sink_stood
    (λ stop text. ⊎_elim (only-before config journal seen order.in_order stop text)
    (only-cleared config clearing journal seen order stop text))
    status ends.ending ends.status_is ends.ends_by

module _ (config journal : List ℕ) (seen : Seen) (order : ExportsInOrder config journal seen) where
  only-exported : (stop : Stop) (text : List ℕ) → StopsToExport config journal seen stop text
      → status_of_stop stop ≡ 7
  only-exported (StoreFault shard) text stops =
      absurd (not-again config journal seen order.in_order order.stores_told (fault_of stops.fault) stops.shard
      (StoreFault shard) stops.cause stops.stop_is (λ e. absurd (cc)))
  only-exported (BadJournal shard line) text stops =
      absurd (not-again config journal seen order.in_order order.stores_told (fault_of stops.fault) stops.shard
      (BadJournal shard line) stops.cause stops.stop_is (λ e. absurd (cc)))
  only-exported NoMemory text stops = refl
  only-exported stop text stops = absurd stops

pub exports-in_order : (config journal : List ℕ) (seen : Seen) (status : ℕ)
    → Ends (ways_to_export config journal seen) status seen → ExportsInOrder config journal seen
    → (status ≡ 0) ⊎ (status ≡ 7)
exports-in_order config journal seen status ends order =
    in-order (ways_to_export config journal seen) seen order.in_order.sink_stood
    (λ stop text. ⊎_elim (only-before config journal seen order.in_order stop text)
    (only-exported config journal seen order stop text))
    status ends.ending ends.status_is ends.ends_by

-- a stream with more behind it has the same first bad line
stops-more : (issuer : Setup) (opening histories : List (List Entry)) (read rest : List ℕ) (number : ℕ)
    → StopsBadly issuer opening read number histories → StopsBadly issuer opening (read ++ rest) number histories
stops-more issuer opening histories read rest number stops =
    let s = stops.stops in
    record {
      line = stops.line;
      stops = record {
        before = s.before;
        ahead = s.ahead ++ rest;
        begins = BeginsWithLines-given read (s.before ++ stops.line ∷ []) s.ahead rest s.begins;
        taken = s.taken;
        number_is = s.number_is;
      };
      bad = stops.bad;
    }

-- the journals were those of the first books
were-journals : {followed : Followed} (config feed journal : List ℕ) (seen : Seen)
    (s : StandsBy followed config feed journal seen) → WereJournals s.issuer journal seen.desk.logs s.first
were-journals config feed journal seen s = record {
  count_is = s.kept.first_are;
  each = λ shard was was_at.
      let within = slice_get_within s.first shard was was_at in
      let firsts = s.kept.first_are in
      let count = s.kept.histories_are in
      let olds = s.kept.olds_are in
      let stores = s.kept.stores_are in
      let history = at-place s.histories shard (omega (arith, within, firsts, count)) in
      let old = at-place seen.journals.olds shard (omega (arith, within, firsts, olds)) in
      let store = at-place seen.journals.stores shard (omega (arith, within, firsts, stores)) in
      let keeps = s.kept.each shard was history.0 old.0 store.0 was_at history.1 old.1 store.1 in
      (keeps.old, keeps.was);
}

module _ (config feed journal : List ℕ) (seen : Seen) (order : StandsInOrder config feed journal seen) where
  -- a feed that was taken is the one of the words
  fed-file : {followed : Followed} (s : StandsBy followed config feed journal seen) → s.file ≡ order.file
  fed-file s = same-content seen.desk.tells feed feed s.file order.file refl order.feed_held s.held

  -- and has no bad line
  fed-well : (number : ℕ) → StandsBy (BadLine number) config feed journal seen → ⊥
  fed-well number s =
      let issuer = its-issuer config journal seen order.in_order s.issuer s.said.content s.said.held s.said.says in
      let were = subst (λ (i : Setup). WereJournals i journal seen.desk.logs s.first) issuer
      (were-journals config feed journal seen s) in
      let stops = subst (λ (i : Setup). StopsBadly i (histories_of s.first) s.read number s.histories) issuer
      s.takes.bad in
      let whole = stops-more order.in_order.issuer (histories_of s.first) s.histories s.read s.was_read.unread number
      stops in
      order.none_bad s.first number s.histories were
      (subst (λ (f : List ℕ). StopsBadly order.in_order.issuer (histories_of s.first) f number s.histories)
      (sym s.was_read.split ∙ fed-file s) whole)

  -- no store failed at a record of the feed
  not-failed : (shard : ℕ) → StandsBy (FailsAt shard) config feed journal seen → ⊥
  not-failed shard s =
      let count = s.kept.stores_are in
      let olds = s.kept.olds_are in
      let firsts = s.kept.first_are in
      let histories = s.kept.histories_are in
      let within = slice_get_within s.histories shard s.takes.history s.takes.next.is_for.history_is in
      let store = at-place seen.journals.stores shard (omega (arith, within, count, histories)) in
      let old = at-place seen.journals.olds shard (omega (arith, within, olds, histories)) in
      let first = at-place s.first shard (omega (arith, within, firsts, histories)) in
      let keeps = s.kept.each shard first.0 s.takes.history old.0 store.0 first.1 s.takes.next.is_for.history_is old.1
      store.1 in
      order.in_order.stores_stood shard store.0 store.1
      (subst (λ (b : Bool). MatchBool b (0 < store.0.faults) ((keeps.tail ≡ []) × (store.0.faults ≡ 0)))
      (eq-eqb shard shard refl) keeps.doubted)

  only-followed : (stop : Stop) (text : List ℕ) → StopsToStandBy config feed journal seen stop text
      → status_of_stop stop ≡ 7
  only-followed ReadFault text stops =
      ⊎_elim (λ opens. absurd (order.in_order.desk_stood opens.fails.rose))
      (λ reads. absurd (order.in_order.requests_stood
      (counted seen.requests reads.stands.input reads.stands.input_is reads.failed))) stops
  only-followed (StoreFault shard) text stops = absurd (not-failed shard stops.stands)
  only-followed NoMemory text stops = refl
  only-followed (TooLong line) text stops =
      let s = stops.stands in
      absurd (not-past s.file order.file s.read s.takes.before line s.input.left (fed-file s) order.within s.was_read
      s.takes.are_before)
  only-followed (BadFeed line) text stops = absurd (fed-well line stops.stands)
  only-followed stop text stops = absurd stops

pub stands-in_order : (config feed journal : List ℕ) (seen : Seen) (status : ℕ)
    → Ends (ways_to_stand_by config feed journal seen) status seen → StandsInOrder config feed journal seen
    → (status ≡ 0) ⊎ (status ≡ 7)
stands-in_order config feed journal seen status ends order =
    in-order (ways_to_stand_by config feed journal seen) seen order.in_order.sink_stood
    (λ stop text. ⊎_elim (only-before config journal seen order.in_order stop text)
    (only-followed config feed journal seen order stop text))
    status ends.ending ends.status_is ends.ends_by

-- ---- the commands over no journals

only-played : (seen : Seen) (stop : Stop) (text : List ℕ) → StopsToPlay seen stop text → status_of_stop stop ≡ 7
only-played seen NoMemory text stops = refl
only-played seen stop text stops = absurd stops

pub plays-in_order : (cards steps seed : ℕ) (seen : Seen) (status : ℕ)
    → Ends (ways_to_play cards steps seed seen) status seen → PlaysInOrder seen → (status ≡ 0) ⊎ (status ≡ 7)
plays-in_order cards steps seed seen status ends order =
    in-order (ways_to_play cards steps seed seen) seen order (only-played seen)
    status ends.ending ends.status_is ends.ends_by

module _ (pin : PinOrder) (seen : Seen) (order : ChangesInOrder pin seen) where
  -- the card and the key are there
  only-changed : (stop : Stop) (text : List ℕ) → StopsToChange pin seen stop text → status_of_stop stop ≡ 7
  only-changed NoKey text stops =
      let said = stops.ordered.said in
      let content = same-content seen.desk.tells pin.config pin.config said.content order.content refl order.config_held
      said.held in
      let issuer = one-issuer said.content order.content order.issuer stops.issuer content order.says said.says in
      let e : Err NoKey ≡ Ok order.line =
      sym stops.cause ∙ ap (λ (i : Setup). changing i pin) issuer ∙ order.has_key in
      absurd (cc)
  only-changed stop text stops = absurd stops

pub changes-in_order : (pin : PinOrder) (seen : Seen) (status : ℕ)
    → Ends (ways_to_change pin seen) status seen → ChangesInOrder pin seen → (status ≡ 0) ⊎ (status ≡ 7)
changes-in_order pin seen status ends order =
    in-order (ways_to_change pin seen) seen order.sink_stood
    (λ stop text. ⊎_elim
    (only-config pin.config seen order.content order.issuer order.config_held order.says order.desk_stood
    order.config_stood stop text)
    (only-changed pin seen order stop text))
    status ends.ending ends.status_is ends.ends_by
