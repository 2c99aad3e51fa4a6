-- How a run ends that exports journals.
use Rattle.std.proofs.Common.{◌≡◌, ℕ, ◌&&◌, ◌⊎◌, ◌==◌, false, List, [], ◌∷◌, ◌++◌, length, drop, map, Option, None, Some}
use Rattle.std.proofs.Common.{Ok, Err, IfSome, All, inl, inr, ⊎_elim, refl, sym, ap, ap₂, subst, ◌∙◌, arith, append_assoc}
use Rattle.std.specs.Prelude.{Result, IfErr}
use Rattle.std.proofs.lemmas.Bool.{eq-eqb}
use Rattle.std.proofs.lemmas.List.{length-append}
use Rattle.std.proofs.lemmas.List.Elements.{All-head, All-tail}
use Rattle.std.specs.Io.KnownBytes.{Appends}
use Rattle.issuer_base.specs.OutsideFaults.{Rose, CountsFaults}
use Rattle.issuer_base.specs.Sink.{AppendsFront}
use Rattle.issuer_base.specs.declared.entry.Entry.{Entry}
use Rattle.issuer_base.specs.declared.outside.store.Store.{Ghosts}
use Rattle.answer_text.specs.declared.stop_line.Stop.TheVariants.{StoreFault, BadJournal, NoMemory}
use Rattle.issuer_setup.specs.IssuerSetup.{Setup}
use Rattle.journal_rec.specs.Record.{IsRecord}
use Rattle.journal_rec.specs.RecordText.{text_of, texts_of}
use Rattle.journal_rec.proofs.TextLaws.{text_of-apart}
use Rattle.shard_book.proofs.Exactly.{longer}
use Rattle.host_loading.specs.Books.{ShardBook}
use Rattle.host_loading.specs.Loading.{AreOnlyRead}
use Rattle.journal_reader.specs.declared.reader.RecordFault.{RecordFault}
use Rattle.journal_reader.specs.declared.reader.RecordFault.TheVariants.{StoreFault as ReadingFails, BadLine as ReadsBad}
use Rattle.journal_reader.specs.Reading.{StopsAfter, has_failed}
use Rattle.journal_reader.specs.Filing.{CountAt, HasFirstRecords, fault_of, is_store_fault}
use Rattle.journal_reader.specs.declared.export.ExportFault.{ExportFault}
use Rattle.journal_reader.specs.declared.export.ExportFault.TheVariants.{WriteFault as SinkFault, Unread}
use Rattle.journal_reader.specs.Exporting.{Exports, ExportsAll, ExportsFirst, IsSparedIn, fails_at}
use Rattle.journal_reader.specs.Exporting.{write_failed}
use Rattle.line_serving.specs.Loaded.{AreLoadedFrom}
use Rattle.desk_host.specs.SeenStores.{Logged, SeenJournals, journals_seen, store_seen}
use Rattle.desk_host.proofs.SeenSteps.{at-place}
use Rattle.issuer_top.specs.declared.ending.Ending.{Ending}
use Rattle.issuer_top.specs.Seen.{Seen}
use Rattle.issuer_top.specs.Opened.{OpenedConfigOnly}
use Rattle.issuer_top.specs.Opening.{SaysIssuer}
use Rattle.issuer_top.specs.ReadAgain.{StayLoaded, FailOnlyAt, StopsReading, failed_at, none_fails}
use Rattle.issuer_top.specs.Exporting.{LoadsToExport, IsFeed, IsFeedUpTo, IsLineAfter, AreFirst, ways_to_export}
use Rattle.issuer_top.specs.Stopping.{EndsExporting}
use Rattle.issuer_top.specs.Ways.{EndsBy}
use Rattle.issuer_top.proofs.EndingSteps.{ends_by_stop, ends_at_once, StopsAtOnce}
use Rattle.issuer_top.proofs.ReadingSteps.{IsAt, are-read, fail-read, fail-same, holds-text, reads-as, reads-whole, recorded-at}
use Rattle.issuer_top.proofs.ReadingSteps.{stops-reading, stores-count}

-- ---- what was read

-- records whose text is a prefix of another's are the first ones of its records
first-texts : (first whole : List Entry) (ahead : List ℕ) → All IsRecord first → All IsRecord whole
    → texts_of first ++ ahead ≡ texts_of whole → AreFirst first whole
first-texts [] whole ahead records others same = (whole, refl)
first-texts (entry ∷ first) [] ahead records others same =
    let some = longer entry (All-head IsRecord entry first records) in
    let all = ap length same in
    let one = length-append (texts_of (entry ∷ first)) ahead in
    let two = length-append (text_of entry) (texts_of first) in
    absurd (omega (arith, some, all, one, two))
first-texts (entry ∷ first) (other ∷ whole) ahead records others same =
    let moved : text_of entry ++ (texts_of first ++ ahead) ≡ text_of other ++ texts_of whole =
    sym (append_assoc (text_of entry) (texts_of first) ahead) ∙ same in
    let both = text_of-apart entry other (texts_of first ++ ahead) (texts_of whole)
    (All-head IsRecord entry first records) (All-head IsRecord other whole others) moved in
    let more = first-texts first whole ahead (All-tail IsRecord entry first records)
    (All-tail IsRecord other whole others) both.1 in
    (more.0, ap₂ (λ (e : Entry) (es : List Entry). e ∷ es) (sym both.0) more.1)

-- the feed of these books was written; or a prefix of it, or of that of the first records; or that of the records before
-- one that couldn't be read
abbrev pub FeedsBy : SeenJournals → List ShardBook → Option (List ℕ) → Option (List ℕ) → Result (Unit {0}) ExportFault → Type 0
FeedsBy journals books before now (Ok done) =
    (feed : List ℕ) × IsFeed journals books feed × Appends before now feed × FailOnlyAt journals.stores none_fails
FeedsBy journals books before now (Err SinkFault) =
    ((feed : List ℕ) × IsFeed journals books feed × AppendsFront before now feed
    × FailOnlyAt journals.stores none_fails)
    ⊎ ((shard : ℕ) × (feed : List ℕ) × IsFeedUpTo journals books shard feed × AppendsFront before now feed
    × (FailOnlyAt journals.stores none_fails ⊎ FailOnlyAt journals.stores (λ number. shard == number)))
FeedsBy journals books before now (Err (Unread fault shard)) =
    (feed : List ℕ) × (its : IsFeedUpTo journals books shard feed) × Appends before now feed
    × StopsReading journals.stores shard (fault_of fault) × IsLineAfter its.first fault
    × FailOnlyAt journals.stores (failed_at (fault_of fault) shard)

module _ {S : Type 0} (G : Ghosts S) (issuer : Setup) (prefix : List ℕ) (logs : Logged) (olds stores : List S)
    (loaded : AreLoadedFrom issuer prefix logs (journals_seen G olds stores)) (read : List S)
    (only : AreOnlyRead G.size G.bytes G.disk G.room stores read) where
  -- the first records of a store are those of its book
  first-history : (shard : ℕ) (store : S) (book : ShardBook) (first : List Entry) (bytes : Option (List ℕ))
      → IsAt G issuer prefix logs olds stores loaded shard store book → G.bytes store ≡ bytes
      → HasFirstRecords bytes first → IfSome bytes (λ told. AreFirst first book.history)
  first-history shard store book first None at told has = tt
  first-history shard store book first (Some bytes) at told has =
      ⊎_elim
      (λ none. (book.history, ap (λ (l : List Entry). l ++ book.history) (sym none)))
      (λ some.
      first-texts first book.history some.0 has.records at.keeps.was.journal_is.records
      (ap (drop 3)
      (sym some.1 ∙ holds-text G issuer prefix logs olds stores loaded shard store book at bytes told)))
      has.front

  exported-all : (Written : List ℕ → Type 0) (all : ExportsAll G.bytes stores Written)
      → (feed : List ℕ) × IsFeed (journals_seen G olds read) loaded.books feed × Written feed
  exported-all Written all = (
    _,
    record {
      histories = all.histories;
      read = are-read G issuer prefix logs olds stores loaded read only all.histories all.have;
      feed_is = refl;
    },
    all.written,
  )

  exported-first : (shard : ℕ) (Written : List ℕ → Type 0) (some : ExportsFirst G.bytes stores shard Written)
      → (feed : List ℕ) × (its : IsFeedUpTo (journals_seen G olds read) loaded.books shard feed) × Written feed
      × (its.first ≡ some.history)
  exported-first shard Written some =
      let within = some.have.within in
      let books = loaded.kept.first_are in
      let many = stores-count G issuer prefix logs olds stores loaded in (
        _,
        record {
          histories = some.histories;
          first = some.history;
          within = omega (arith, within, books, many);
          count_is = some.have.count_is;
          before = λ number history history_at.
              reads-whole G issuer prefix logs olds stores loaded read only number history
              (λ store store_at. some.have.each number store history store_at history_at);
          at = reads-as G issuer prefix logs olds stores loaded read only AreFirst shard some.history
              (λ store book store_at at.
              first-history shard store book some.history (G.bytes store) at refl (some.have.next store store_at));
          feed_is = refl;
        },
        some.written,
        refl,
      )

  -- a bad line comes after the records that the reader gave
  line-after : (bytes : Option (List ℕ)) (history : List Entry) (fault : RecordFault) → StopsAfter bytes history fault
      → IsLineAfter history fault
  line-after bytes history ReadingFails stops = tt
  line-after bytes history (ReadsBad line) stops =
      ⊎_elim (λ next. inl next.0) (λ first. inr (first.0, first.1.0)) stops

  -- the journal of this shard couldn't be read on
  stops-export : (fault : RecordFault) (shard : ℕ) → IsSparedIn G.bytes issuer stores (Unread fault shard)
      → CountAt G.faults stores read (fails_at (Err (Unread fault shard)))
      → StopsReading (map (store_seen G) read) shard (fault_of fault)
  stops-export fault shard spared count =
      stops-reading G issuer prefix logs olds stores loaded read only shard spared.0 (fault_of fault) spared.1
      (λ before after before_at after_at.
      subst (CountsFaults (G.faults before) (G.faults after)) (failed fault)
      (subst (λ b. CountsFaults (G.faults before) (G.faults after) (b && has_failed {X = Unit {0}} (Err fault)))
      (eq-eqb shard shard refl) (count shard before after before_at after_at)))
    where
      failed : (fault : RecordFault)
          → has_failed {X = Unit {0}} (Err fault) ≡ is_store_fault {X = Unit {0}} (Err (fault_of fault))
      failed ReadingFails = refl
      failed (ReadsBad line) = refl

  -- no store failed
  fail-none : CountAt G.faults stores read (λ number. false) → FailOnlyAt (map (store_seen G) read) none_fails
  fail-none count = fail-read G issuer prefix logs olds stores loaded read only none_fails count

  -- no other store failed
  fail-export : (fault : RecordFault) (shard : ℕ) → CountAt G.faults stores read (fails_at (Err (Unread fault shard)))
      → FailOnlyAt (map (store_seen G) read) (failed_at (fault_of fault) shard)
  fail-export fault shard count =
      fail-same (map (store_seen G) read) (fails_at (Err (Unread fault shard))) (failed_at (fault_of fault) shard)
      (recorded-at fault shard)
      (fail-read G issuer prefix logs olds stores loaded read only (fails_at (Err (Unread fault shard))) count)

  -- so the feed of these books was written, or a prefix of it
  pub feeds-by : (before now : Option (List ℕ)) (exported : Result (Unit {0}) ExportFault)
      → Exports G.bytes stores (CountAt G.faults stores read) before now exported → IfErr exported (IsSparedIn G.bytes issuer stores)
      → (write_failed exported ≡ false → CountAt G.faults stores read (fails_at exported))
      → FeedsBy (journals_seen G olds read) loaded.books before now exported
  feeds-by before now (Ok done) exports spared counts =
      let all = exported-all (Appends before now) exports in
      (all.0, all.1, all.2, fail-none (counts refl))
  feeds-by before now (Err SinkFault) exports spared counts =
      ⊎_elim
      (λ whole.
      let all = exported-all (AppendsFront before now) whole.0 in
      inl (all.0, all.1, all.2, fail-none whole.1))
      (λ some.
      let first = exported-first some.0 (AppendsFront before now) some.1 in
      inr (
        some.0,
        first.0,
        first.1,
        first.2,
        ⊎_elim (λ none. inl (fail-none none))
            (λ one.
            inr (fail-read G issuer prefix logs olds stores loaded read only (λ number. some.0 == number) one)) some.2,
      )) exports
  feeds-by before now (Err (Unread fault shard)) exports spared counts =
      let first = exported-first shard (Appends before now) exports.first in
      let within = exports.first.have.within in
      let store = at-place stores shard within in (
        first.0,
        first.1,
        first.2,
        stops-export fault shard spared (counts refl),
        subst (λ (l : List Entry). IsLineAfter l fault) (sym first.3)
            (line-after (G.bytes store.0) exports.first.history fault (exports.stops store.0 store.1)),
        fail-export fault shard (counts refl),
      )

-- ---- the ways that an export ends

module _ (config journal : List ℕ) (seen : Seen) (issuer : Setup) (said : SaysIssuer seen config issuer)
    (stay : StayLoaded issuer journal seen.desk.logs seen.journals) (opened : OpenedConfigOnly seen) where
  loads : LoadsToExport config journal seen
  loads = record { issuer = issuer; said = said; stay = stay; opened = opened }

  -- no memory was left to export with
  pub ends_unexported : FailOnlyAt seen.journals.stores none_fails → (ending : Ending)
      → StopsAtOnce seen NoMemory ending → EndsBy (ways_to_export config journal seen) seen ending
  unfolding loads
  ends_unexported counted ending stopping =
      ends_at_once (ways_to_export config journal seen) seen NoMemory ending
      (inr (record { loaded = loads; stood = counted; last = refl })) stopping

  -- how the run ends, by how the export did
  pub ends_exporting : (exported : Result (Unit {0}) ExportFault) (ending : Ending) (held : Option (List ℕ)) (faults : ℕ)
      → FeedsBy seen.journals stay.first seen.sink.held_before held exported
      → CountsFaults seen.sink.faults_before faults (write_failed exported)
      → EndsExporting held seen.sink.held_after faults seen.sink.faults_after exported ending → EndsBy (ways_to_export config journal seen) seen ending
  unfolding loads
  ends_exporting (Ok done) ending held faults feeds counts ends =
      subst (EndsBy (ways_to_export config journal seen) seen) (sym ends.ending_is) (
        feeds.0,
        record { loaded = loads; stood = feeds.3; feed = feeds.1 },
        subst (λ (h : Option (List ℕ)). Appends seen.sink.held_before h feeds.0) (sym ends.same) feeds.2,
      )
  ends_exporting (Err SinkFault) ending held faults feeds counts ends =
      subst (EndsBy (ways_to_export config journal seen) seen) (sym ends.ending_is)
      (⊎_elim
      (λ whole. record {
        rose = subst (Rose seen.sink.faults_before) (sym ends.stood) counts.counted;
        text = whole.0;
        due = inr (inr (record { loaded = loads; stood = whole.3; feed = whole.1 }));
        front =
            subst (λ (h : Option (List ℕ)). AppendsFront seen.sink.held_before h whole.0) (sym ends.same) whole.2;
      })
      (λ begun. record {
        rose = subst (Rose seen.sink.faults_before) (sym ends.stood) counts.counted;
        text = begun.1;
        due = inr (inl (record { loaded = loads; shard = begun.0; counted = begun.4; feed = begun.2 }));
        front =
            subst (λ (h : Option (List ℕ)). AppendsFront seen.sink.held_before h begun.1) (sym ends.same) begun.3;
      })
      feeds)
  ends_exporting (Err (Unread ReadingFails shard)) ending held faults feeds counts ends =
      ends_by_stop (ways_to_export config journal seen) seen held faults (StoreFault shard) ending feeds.0
      (inr (record {
        loaded = loads;
        shard = shard;
        fault = ReadingFails;
        counted = feeds.5;
        written = feeds.0;
        feed = feeds.1;
        line_is = feeds.4;
        cause = feeds.3;
        stop_is = refl;
        last = refl;
      }))
      feeds.2 counts.never_falls ends
  ends_exporting (Err (Unread (ReadsBad line) shard)) ending held faults feeds counts ends =
      ends_by_stop (ways_to_export config journal seen) seen held faults (BadJournal shard line) ending feeds.0
      (inr (record {
        loaded = loads;
        shard = shard;
        fault = ReadsBad line;
        counted = feeds.5;
        written = feeds.0;
        feed = feeds.1;
        line_is = feeds.4;
        cause = feeds.3;
        stop_is = refl;
        last = refl;
      }))
      feeds.2 counts.never_falls ends
