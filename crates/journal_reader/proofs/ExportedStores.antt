-- The journals of the first shards are put, and one more.
use Rattle.std.proofs.Common.{◌≡◌, ◌≢◌, ◌⊎◌, ◌==◌, ℕ, ◌+◌, ◌<◌, ◌≤◌, Bool, false, ◌&&◌, List, [], ◌∷◌, ◌++◌, length, set, length-set}
use Rattle.std.proofs.Common.{None, Some, Option, Err, Ok, refl, sym, ap, subst, ◌∙◌, arith, inl, inr, eq-eqb, true}
use Rattle.std.specs.List.{slice_get}
use Rattle.std.specs.Prelude.{Result}
use Rattle.std.proofs.lemmas.Bool.{cases_eq, ne_eqb, false≢true}
use Rattle.std.proofs.lemmas.List.{length_push}
use Rattle.std.proofs.lemmas.Option.{same_Some, slice_get_within}
use Rattle.issuer_base.specs.OutsideFaults.{CountsFaults}
use Rattle.issuer_base.specs.Sink.{AppendsFront}
use Rattle.issuer_base.specs.declared.entry.Entry.{Entry}
use Rattle.issuer_base.specs.declared.outside.store.Store.{Ghosts}
use Rattle.issuer_base.proofs.ManyCalls.{AppendsFront-after, CountsFaults-no_call}
use Rattle.std.specs.Io.KnownBytes.{Appends}
use Rattle.std.proofs.KnownBytes.{Appends-trans}
use Rattle.issuer_setup.specs.IssuerSetup.{Setup}
use Rattle.shard_book.specs.Loads.{IsOnlyRead}
use Rattle.host_loading.specs.Loading.{AreOnlyRead}
use Rattle.host_loading.proofs.Loads.{none-read}
use Rattle.host_loading.proofs.Places.{read-other}
use Rattle.journal_reader.specs.Reading.{StopsAfter, has_failed}
use Rattle.journal_reader.specs.declared.reader.RecordFault.{RecordFault}
use Rattle.journal_reader.specs.declared.reader.RecordFault.TheVariants.{StoreFault as ReadingFails, BadLine as ReadsBad}
use Rattle.journal_reader.specs.Filing.{CountAt, HasFirstRecords, HasRecords, HoldsHistory}
use Rattle.journal_reader.proofs.FiledStores.{each-set, get-front, get-last}
use Rattle.journal_reader.specs.declared.export.ExportFault.{ExportFault}
use Rattle.journal_reader.specs.declared.export.ExportFault.TheVariants.{WriteFault as SinkFault, Unread}
use Rattle.journal_reader.specs.Exporting.{Exports, ExportsBefore, ExportsFirst, ExportsJournal, IsPut, IsSparedIn}
use Rattle.journal_reader.specs.Exporting.{IsSparedJournal, Puts, fails_at, feed_in, feed_text, read_failed, write_failed}
use Rattle.journal_reader.proofs.Exported.{feed-all-more, put-front, put-more, put-none}

module _ {S : Type 0} (G : Ghosts S) where
  -- the journals of so many shards are put, and the other stores weren't read
  pub record ArePut (olds read : List S) (shard : ℕ) (before now : Option (List ℕ)) (left : List ℕ) : Type 0 where
    pub histories : List (List Entry)
    pub count_is : length histories ≡ shard
    pub each : (number : ℕ) (store : S) (history : List Entry)
        → slice_get olds number ≡ Some store → slice_get histories number ≡ Some history
        → HasRecords (G.bytes store) history
    pub put : IsPut before now [] left (feed_text histories)
    pub only : AreOnlyRead G.size G.bytes G.disk G.room olds read
    pub behind : (number : ℕ) → shard ≤ number → slice_get read number ≡ slice_get olds number
    pub counts : CountAt G.faults olds read (λ number. false)

  pub put-no_journal : (olds : List S) (held : Option (List ℕ)) (due : List ℕ) → due ≡ []
      → ArePut olds olds 0 held held due
  put-no_journal olds held due none = record {
    histories = [];
    count_is = refl;
    each = λ number store history store_is history_is. absurd (let e : None ≡ Some history = history_is in cc);
    put = subst (λ l. IsPut held held [] l []) (sym none) (put-none held []);
    only = none-read G olds;
    behind = λ number past. refl;
    counts = λ number was is was_is is_is.
        subst (λ (s : S). CountsFaults (G.faults was) (G.faults s) false) (same_Some was is (sym was_is ∙ is_is))
        (CountsFaults-no_call (G.faults was));
  }

  module _ (olds read : List S) (shard : ℕ) (before mid : Option (List ℕ)) (due : List ℕ)
      (so_far : ArePut olds read shard before mid due) (old then : S)
      (old_is : slice_get read shard ≡ Some old) (only : IsOnlyRead G.size G.bytes G.disk G.room old then) where
    first_is : slice_get olds shard ≡ Some old
    first_is = sym (so_far.behind shard (omega arith)) ∙ old_is

    -- the stores after the next one was read
    pub only-set : AreOnlyRead G.size G.bytes G.disk G.room olds (set read shard then)
    only-set = record {
      count_is = length-set read shard then ∙ so_far.only.count_is;
      each = each-set olds read shard old then so_far.only.count_is first_is
          (λ number was is. IsOnlyRead G.size G.bytes G.disk G.room was is) only
          (λ number was is apart was_is is_is. so_far.only.each number was is was_is is_is);
    }

    counts-set : (failed : ℕ → Bool) → CountsFaults (G.faults old) (G.faults then) (failed shard)
        → ((number : ℕ) → number ≢ shard → failed number ≡ false)
        → CountAt G.faults olds (set read shard then) failed
    counts-set failed here others =
        each-set olds read shard old then so_far.only.count_is first_is
        (λ number was is. CountsFaults (G.faults was) (G.faults is) (failed number)) here
        (λ number was is apart was_is is_is.
        subst (CountsFaults (G.faults was) (G.faults is)) (sym (others number apart))
        (so_far.counts number was is was_is is_is))

    -- the feed of the first journals, and of this one
    feed-is : (history : List Entry)
        → feed_text so_far.histories ++ feed_in shard history ≡ feed_text (so_far.histories ++ history ∷ [])
    feed-is history =
        ap (λ n. feed_text so_far.histories ++ feed_in n history) (sym so_far.count_is)
        ∙ sym (feed-all-more so_far.histories history)

    -- the next journal is put
    pub put-next : (count : ℕ) (now : Option (List ℕ)) (left : List ℕ)
        → ExportsJournal shard (G.bytes old) count due left mid now (Ok tt)
        → CountsFaults (G.faults old) (G.faults then) false
        → ArePut olds (set read shard then) (shard + 1) before now left
    put-next count now left puts counts = record {
      histories = so_far.histories ++ puts.0 ∷ [];
      count_is = length_push so_far.histories puts.0 ∙ ap (λ n. n + 1) so_far.count_is;
      each = λ number store history store_is history_is.
          elim (cases_eq number shard) [
            | inl same ↦
                let its : old ≡ store = same_Some old store (sym first_is ∙ subst (λ n. slice_get olds n ≡ Some store) same store_is) in
                let at : slice_get (so_far.histories ++ puts.0 ∷ []) number ≡ Some puts.0 =
                ap (slice_get (so_far.histories ++ puts.0 ∷ [])) (same ∙ sym so_far.count_is)
                ∙ get-last so_far.histories puts.0 in
                let its_history : puts.0 ≡ history = same_Some puts.0 history (sym at ∙ history_is) in
                subst (λ (s : S). HasRecords (G.bytes s) history) its
                (subst (λ (h : List Entry). HasRecords (G.bytes old) h) its_history puts.1)
            | inr apart ↦
                let within = slice_get_within (so_far.histories ++ puts.0 ∷ []) number history history_is in
                let long = length_push so_far.histories puts.0 in
                let count = so_far.count_is in
                so_far.each number store history store_is
                (sym (get-front so_far.histories (puts.0 ∷ []) number (omega (arith, within, long, count, apart)))
                ∙ history_is)
          ];
      put = subst (IsPut before now [] left) (feed-is puts.0)
          (put-more before mid now [] due (feed_text so_far.histories) so_far.put (feed_in shard puts.0) left puts.3);
      only = only-set;
      behind = λ number past.
          read-other read shard then number (λ same. absurd (omega arith))
          ∙ so_far.behind number (omega arith);
      counts = counts-set (λ number. false) counts (λ number apart. refl);
    }

    -- the first records of the next journal are put
    first-put : (history : List Entry) → HasFirstRecords (G.bytes old) history → (Written : List ℕ → Type 0)
        → Written (feed_text so_far.histories ++ feed_in shard history) → ExportsFirst G.bytes olds shard Written
    first-put history first Written written = record {
      histories = so_far.histories;
      history = history;
      have = record {
        within = slice_get_within olds shard old first_is;
        count_is = so_far.count_is;
        each = so_far.each;
        next = λ store store_is.
            subst (λ (s : S). HasFirstRecords (G.bytes s) history) (same_Some old store (sym first_is ∙ store_is)) first;
      };
      written = subst Written (feed-is history) written;
    }

    -- the next journal can't be read on, or the sink failed
    pub puts-short : (fault : ExportFault) (count : ℕ) (now : Option (List ℕ)) (left : List ℕ)
        → ExportsJournal shard (G.bytes old) count due left mid now (Err fault)
        → Puts G.bytes olds left before now (Err fault)
    unfolding first-put
    puts-short SinkFault count now left puts = (
      shard,
      first-put puts.0 puts.1 (AppendsFront before now)
          (put-front before mid now [] due (feed_text so_far.histories) so_far.put (feed_in shard puts.0) puts.2),
    )
    puts-short (Unread fault at) count now left puts =
        subst (λ n. ExportsBefore G.bytes olds n fault (IsPut before now [] left)) (sym puts.0)
        (record {
          first =
              first-put puts.1.0 puts.1.1 (IsPut before now [] left)
              (put-more before mid now [] due (feed_text so_far.histories) so_far.put (feed_in shard puts.1.0) left
              puts.1.4);
          stops = λ store store_is.
              subst (λ (s : S). StopsAfter (G.bytes s) puts.1.0 fault) (same_Some old store (sym first_is ∙ store_is))
              puts.1.3;
        })

    pub counts-short : (fault : ExportFault) (count : ℕ) (now : Option (List ℕ)) (left : List ℕ)
        → ExportsJournal shard (G.bytes old) count due left mid now (Err fault)
        → CountsFaults (G.faults old) (G.faults then) (read_failed (Err fault))
        → CountAt G.faults olds (set read shard then) (fails_at (Err fault))
    counts-short SinkFault count now left puts counts = counts-set (λ number. false) counts (λ number apart. refl)
    counts-short (Unread fault at) count now left puts counts =
        let failed = has_failed {X = Unit {0}} (Err fault) in
        counts-set (fails_at (Err (Unread fault at)))
        (subst (CountsFaults (G.faults old) (G.faults then))
        (ap (λ b. b && failed) (sym (eq-eqb at shard puts.0))) counts)
        (λ number apart. ap (λ b. b && failed) (ne_eqb at number (λ same. apart (sym same ∙ puts.0))))

    pub spared-short : (issuer : Setup) (fault : ExportFault) (count : ℕ) (now : Option (List ℕ)) (left : List ℕ)
        → shard < issuer.shards
        → ExportsJournal shard (G.bytes old) count due left mid now (Err fault)
        → IsSparedJournal (G.bytes old) shard fault
        → IsSparedIn G.bytes issuer olds fault
    spared-short issuer SinkFault count now left within puts spared = tt
    spared-short issuer (Unread fault at) count now left within puts spared = (
      subst (λ n. n < issuer.shards) (sym puts.0) within,
      λ store history store_is holds.
          let here : slice_get olds shard ≡ Some store = subst (λ n. slice_get olds n ≡ Some store) puts.0 store_is in
          let its : store ≡ old = same_Some store old (sym here ∙ first_is) in
          spared issuer history
          (subst (λ (s : S). HoldsHistory issuer shard (G.bytes s) history) its
          (subst (λ n. HoldsHistory issuer n (G.bytes store) history) puts.0 holds)),
    )

-- ---- what is due at the end

-- the same stores failed
count-same : {S : Type 0} (faults : S → ℕ) (stores read : List S) (failed others : ℕ → Bool)
    → ((number : ℕ) → failed number ≡ others number) → CountAt faults stores read failed
    → CountAt faults stores read others
count-same faults stores read failed others same count number was is was_is is_is =
    subst (CountsFaults (faults was) (faults is)) (same number) (count number was is was_is is_is)

and_true : (b : Bool) → (b && true) ≡ b
and_true true = refl
and_true false = refl

and_false : (b : Bool) → (b && false) ≡ false
and_false true = refl
and_false false = refl

-- at most this shard's store failed
one-failed : {S : Type 0} (faults : S → ℕ) (stores read : List S) (fault : RecordFault) (shard : ℕ)
    → CountAt faults stores read (fails_at (Err (Unread fault shard)))
    → CountAt faults stores read (λ number. false) ⊎ CountAt faults stores read (λ number. shard == number)
one-failed faults stores read ReadingFails shard count =
    inr (count-same faults stores read (λ number. (shard == number) && true) (λ number. shard == number)
    (λ number. and_true (shard == number)) count)
one-failed faults stores read (ReadsBad line) shard count =
    inl (count-same faults stores read (λ number. (shard == number) && false) (λ number. false)
    (λ number. and_false (shard == number)) count)

module _ {S : Type 0} (bytes : S → Option (List ℕ)) (faults : S → ℕ) (stores read : List S)
    (before mid now : Option (List ℕ)) (left : List ℕ) where
  all-written : (text : List ℕ) → IsPut before mid [] left text → Appends mid now left → Appends before now text
  all-written text put written =
      subst (Appends before now) put.joined (Appends-trans before mid now put.early left put.written written)

  front-written : (text : List ℕ) → IsPut before mid [] left text → AppendsFront mid now left
      → AppendsFront before now text
  front-written text put front =
      subst (AppendsFront before now) put.joined (AppendsFront-after before mid now put.early left put.written front)

  first-with : (shard : ℕ) (Written Then : List ℕ → Type 0) → ((text : List ℕ) → Written text → Then text)
      → ExportsFirst bytes stores shard Written → ExportsFirst bytes stores shard Then
  first-with shard Written Then more first = record {
    histories = first.histories;
    history = first.history;
    have = first.have;
    written = more _ first.written;
  }

  -- it is written
  pub exports-all : (result : Result (Unit {0}) ExportFault) → write_failed result ≡ false
      → Puts bytes stores left before mid result → Appends mid now left
      → Exports bytes stores (CountAt faults stores read) before now result
  unfolding all-written first-with
  exports-all (Ok done) none puts written = record {
    histories = puts.histories;
    have = puts.have;
    written = all-written _ puts.written written;
  }
  exports-all (Err (Unread fault shard)) none puts written =
      record {
        first =
            first-with shard (IsPut before mid [] left) (Appends before now) (λ text put. all-written text put written)
            puts.first;
        stops = puts.stops;
      }
  exports-all (Err SinkFault) none puts written = absurd (false≢true (sym none))

  -- the sink failed at it
  pub exports-front : (result : Result (Unit {0}) ExportFault) → write_failed result ≡ false
      → Puts bytes stores left before mid result → AppendsFront mid now left
      → CountAt faults stores read (fails_at result)
      → Exports bytes stores (CountAt faults stores read) before now (Err SinkFault)
  exports-front (Ok done) none puts front count = inl (
    record {
      histories = puts.histories;
      have = puts.have;
      written = front-written _ puts.written front;
    },
    count,
  )
  exports-front (Err (Unread fault shard)) none puts front count = inr (
    shard,
    first-with shard (IsPut before mid [] left) (AppendsFront before now) (λ text put. front-written text put front)
        puts.first,
    one-failed faults stores read fault shard count,
  )
  exports-front (Err SinkFault) none puts front count = absurd (false≢true (sym none))

-- the sink failed before the end
pub exports-short : {S : Type 0} (bytes : S → Option (List ℕ)) (faults : S → ℕ) (stores read : List S) (left : List ℕ)
    (before now : Option (List ℕ)) (result : Result (Unit {0}) ExportFault) → write_failed result ≡ true
    → Puts bytes stores left before now result → CountAt faults stores read (fails_at result)
    → Exports bytes stores (CountAt faults stores read) before now result
exports-short bytes faults stores read left before now (Ok done) failed puts count = absurd (false≢true failed)
exports-short bytes faults stores read left before now (Err (Unread fault shard)) failed puts count =
    absurd (false≢true failed)
exports-short bytes faults stores read left before now (Err SinkFault) failed puts count =
    inr (puts.0, puts.1, inl count)
