-- What a host of several callers leaves: its logs, as books.
use Rattle.std.proofs.Common.{◌≡◌, ℕ, ◌+◌, ◌-◌, ◌^◌, ◌<◌, ◌≤◌, zero, suc, List, [], ◌∷◌, ◌++◌, length, map}
use Rattle.std.proofs.Common.{None, Some}
use Rattle.std.proofs.Common.{refl, sym, ap, subst, ◌∙◌, arith, append-nil, length-append}
use Rattle.std.specs.Prelude.{slice_get, slice_index_or, IfSome, All}
use Rattle.std.proofs.Math.Path.{fun_ext}
use Rattle.std.proofs.lemmas.List.{length-map}
use Rattle.std.proofs.lemmas.Option.{slice_get_within}
use Rattle.std.specs.List.{flat_map}
use Rattle.issuer_base.specs.OutsideFaults.{Rose}
use Rattle.issuer_base.specs.Stores.{BothTold, LeavesOnly}
use Rattle.issuer_base.specs.declared.answer.Answer.{Answer}
use Rattle.issuer_base.specs.declared.limits.TheConstants.{MAX_FAULTS_REPORTED}
use Rattle.issuer_base.specs.declared.entry.Entry.{Entry}
use Rattle.issuer_base.specs.declared.outside.store.Store.{Ghosts}
use Rattle.issuer_setup.specs.IssuerSetup.{Setup}
use Rattle.journal_rec.specs.Record.{IsRecord}
use Rattle.line_reader.specs.declared.limits.TheConstants.{MAX_LINES}
use Rattle.line_reader.specs.Reading.{kept}
use Rattle.answer_text.specs.AnswerText.{printed}
use Rattle.shared_seats.specs.Totals.{total, how_many}
use Rattle.turn_book.specs.declared.logs.Log.{Log}
use Rattle.turn_book.specs.Logs.{items_at}
use Rattle.turn_book.specs.TurnRule.{between}
use Rattle.shard_book.specs.Histories.{GoesOn}
use Rattle.shard_book.specs.Loads.{IsOnlyRead}
use Rattle.shard_book.specs.Shards.{IsJournalOf, IsLoadImage}
use Rattle.host_loading.specs.Loading.{AreOnlyRead}
use Rattle.shared_shards.specs.declared.logs.LogItem.{LogItem}
use Rattle.shared_shards.specs.declared.logs.LogItem.TheVariants.{Record}
use Rattle.shared_shards.specs.declared.logs.LogHead.{LogHead}
use Rattle.shared_shards.specs.ShardLogs.{records_of, faults_of, RiseTo}
use Rattle.host_loading.specs.Books.{ShardBook, histories_of}
use Rattle.shared_laws.specs.Closing.{book_of, IsClosed, AreClosed}
use Rattle.one_caller.specs.OneHistory.{AreRecorded, GoOnLegally, HasFailed, LegallyGoesOn}
use Rattle.shared_laws.specs.OpeningLogs.{IsOpenedFrom, AreOpenedFrom}
use Rattle.shared_laws.specs.Explained.{AreExplained, history_at, histories_in}
use Rattle.shared_laws.specs.FaultCounts.{all_answers}
use Rattle.shared_laws.specs.Laws.{AreLawfulShares}
use Rattle.shared_laws.specs.OwnPlaces.{AreOwnPlaces, is_record_at, answers_at, faults_reported, all_faults_reported, faults_at}
use Rattle.shared_laws.specs.Settled.{AreSettled, TellNoFault}
use Rattle.shared_laws.specs.Shares.{Share, AreDealt, history_in, faults_reported_in}
use Rattle.shared_laws.specs.Dealing.{every}
use Rattle.shared_laws.specs.Answers.{AreAnsweredTogether, ByCallers}
use Rattle.desk_host.specs.Configuration.{HasSoundParts}
use Rattle.desk_host.specs.Journals.{old_name, journal_name, IsOpened, HasAllOpened}
use Rattle.desk_host.specs.Lawful.{IsLawful}
use Rattle.desk_host.specs.Kept.{IsRunImage, WasJournal, KeepsJournal, KeepJournals}
use Rattle.desk_host.specs.SeenStores.{Logged, SeenStore, store_seen, journals_seen}
use Rattle.desk_host.proofs.CrashSteps.{crash-run, crash-since, leaves-now, stays-opened}
use Rattle.shared_laws.proofs.DealtAnswers.{answers-dealt}
use Rattle.shared_laws.proofs.Lists.{mapped-at}
use Rattle.desk_host.proofs.SeenSteps.{at-place, mapped, journal-held}
use Rattle.desk_host.proofs.WorldLaws.{is-lawful}
use Rattle.line_serving.specs.Leaving.{LeavesAnswered, LeavesLoaded}

-- ---- logs and their books

-- the records of a history that is a log are the history, and it tells no fault
records-only : (history : List Entry) → records_of (map Record history) ≡ history
records-only [] = refl
records-only (entry ∷ history) = ap (λ rest. entry ∷ rest) (records-only history)

faults-none : (history : List Entry) → faults_of (map Record history) ≡ []
faults-none [] = refl
faults-none (entry ∷ history) = faults-none history

-- counts that rise don't fall
rise-below : (first : ℕ) (counts : List ℕ) (now : ℕ) → RiseTo first counts now → first ≤ now
rise-below first [] now rises = rises
rise-below first (count ∷ counts) now rises =
    let rest = rise-below count counts now rises.2 in let here = rises.0 in omega (arith, rest, here)

rose-to : (first count now : ℕ) → first ≤ count → Rose first count → count ≤ now → Rose first now
rose-to first count now least rose most = grind (arith, least, rose, most)

-- where the count didn't rise, none was told
none-rise : (first : ℕ) (counts : List ℕ) (now : ℕ) → RiseTo first counts now → (Rose first now → ⊥) → counts ≡ []
none-rise first [] now rises stood = refl
none-rise first (count ∷ counts) now rises stood =
    absurd (stood (rose-to first count now rises.0 rises.1 (rise-below count counts now rises.2)))

-- the items of a shard's log
items-of : (logs : List (Log LogItem LogHead)) (shard : ℕ) (log : Log LogItem LogHead) → slice_get logs shard ≡ Some log
    → items_at logs shard ≡ log.items
items-of [] shard log is = absurd (let e : None ≡ Some log = is in cc)
items-of (first ∷ logs) zero log is =
    ap (λ (l : Log LogItem LogHead). l.items)
    (let e : Some first ≡ Some log = is in (let same : first ≡ log = cc in same))
items-of (first ∷ logs) (suc shard) log is = items-of logs shard log is

-- the book of a log as it was opened
abbrev opening_book : Log LogItem LogHead → ShardBook
opening_book log = book_of log log.head.faults

-- a shard's history in its log is the one in the list of all, and so is its count of faults
history-listed : (logs : List (Log LogItem LogHead)) (shard : ℕ)
    → history_at logs shard ≡ slice_index_or (histories_in logs) shard []
history-listed [] shard = refl
history-listed (log ∷ logs) zero = refl
history-listed (log ∷ logs) (suc shard) = history-listed logs shard

abbrev counts_in : List (Log LogItem LogHead) → List ℕ
counts_in logs = map (λ log. length (faults_of log.items)) logs

count-listed : (logs : List (Log LogItem LogHead)) (shard : ℕ)
    → faults_at logs shard ≡ slice_index_or (counts_in logs) shard 0
count-listed [] shard = refl
count-listed (log ∷ logs) zero = refl
count-listed (log ∷ logs) (suc shard) = count-listed logs shard

-- the histories of logs as they were opened are those of their books
opening-histories : (logs : List (Log LogItem LogHead)) → histories_in logs ≡ histories_of (map opening_book logs)
opening-histories [] = refl
opening-histories (log ∷ logs) = ap (λ (hs : List (List Entry)). records_of log.items ∷ hs) (opening-histories logs)

module _ {S : Type 0} (faults : S → ℕ) where
  -- the books of logs at close, with the counts of their stores
  abbrev closing_books : List (Log LogItem LogHead) → List S → List ShardBook
  closing_books [] stores = []
  closing_books (log ∷ logs) [] = book_of log 0 ∷ closing_books logs []
  closing_books (log ∷ logs) (store ∷ stores) = book_of log (faults store) ∷ closing_books logs stores

  length-closing : (logs : List (Log LogItem LogHead)) (stores : List S)
      → length (closing_books logs stores) ≡ length logs
  length-closing [] stores = refl
  length-closing (log ∷ logs) [] = ap suc (length-closing logs [])
  length-closing (log ∷ logs) (store ∷ stores) = ap suc (length-closing logs stores)

  closing-at : (logs : List (Log LogItem LogHead)) (stores : List S) (k : ℕ) (book : ShardBook) (store : S)
      → slice_get (closing_books logs stores) k ≡ Some book → slice_get stores k ≡ Some store
      → (log : Log LogItem LogHead) × (slice_get logs k ≡ Some log) × (book ≡ book_of log (faults store))
  closing-at [] stores k book store is at = absurd (let e : None ≡ Some book = is in cc)
  closing-at (log ∷ logs) [] k book store is at = absurd (let e : None ≡ Some store = at in cc)
  closing-at (log ∷ logs) (here ∷ stores) zero book store is at = (
    log,
    refl,
    (let e : Some (book_of log (faults here)) ≡ Some book = is in
        let same : book_of log (faults here) ≡ book = cc in
        let f : Some here ≡ Some store = at in
        let one : here ≡ store = cc in
        sym same ∙ ap (λ (s : S). book_of log (faults s)) one),
  )
  closing-at (log ∷ logs) (here ∷ stores) (suc k) book store is at = closing-at logs stores k book store is at

  -- their histories and counts are those of the logs
  closing-histories : (logs : List (Log LogItem LogHead)) (stores : List S)
      → histories_in logs ≡ histories_of (closing_books logs stores)
  closing-histories [] stores = refl
  closing-histories (log ∷ logs) [] =
      ap (λ (hs : List (List Entry)). records_of log.items ∷ hs) (closing-histories logs [])
  closing-histories (log ∷ logs) (store ∷ stores) =
      ap (λ (hs : List (List Entry)). records_of log.items ∷ hs) (closing-histories logs stores)

  closing-counts : (logs : List (Log LogItem LogHead)) (stores : List S)
      → counts_in logs ≡ map (λ (book : ShardBook). book.reported) (closing_books logs stores)
  closing-counts [] stores = refl
  closing-counts (log ∷ logs) [] =
      ap (λ (ns : List ℕ). length (faults_of log.items) ∷ ns) (closing-counts logs [])
  closing-counts (log ∷ logs) (store ∷ stores) =
      ap (λ (ns : List ℕ). length (faults_of log.items) ∷ ns) (closing-counts logs stores)

-- what holds of several callers
several : (count : ℕ) (Alone Together : Type 0) → 1 < count → Together → ByCallers count Alone Together
several zero Alone Together more holds = holds
several (suc zero) Alone Together more holds = absurd (omega (arith, more))
several (suc (suc count)) Alone Together more holds = holds

-- nothing is dealt where there is nothing
every-none : {A : Type 0} (count skip : ℕ) → every {A = A} count skip [] ≡ []
every-none count zero = refl
every-none count (suc skip) = refl

-- a sum of nothing
total-zero : {A : Type 0} (f : A → ℕ) (xs : List A) → ((number : ℕ) (x : A) → slice_get xs number ≡ Some x → f x ≡ 0)
    → total f xs ≡ 0
total-zero f [] none = refl
total-zero f (x ∷ xs) none =
    let here = none zero x refl in let rest = total-zero f xs (λ number. none (suc number)) in omega (arith, here, rest)

-- where no place is between two counts, the second isn't above the first
between-none : (first last : ℕ) → between first last first ≡ 0 → last ≤ first
between-none first last none = grind (arith, none)

-- a history that extends another and is no longer is the same
as-long : (first last : List Entry) → GoesOn first last → length last ≤ length first → last ≡ first
as-long first last (more, same) no_longer =
    same ∙ ap (λ (rest : List Entry). first ++ rest) (none-more more
    (let long = ap length same ∙ length-append first more in omega (arith, long, no_longer)))
    ∙ append-nil first
  where
    none-more : (more : List Entry) → length more ≡ 0 → more ≡ []
    none-more [] none = refl
    none-more (entry ∷ more) none = absurd (omega (arith, none))

-- lists that have the same at each place
same-lists : {A : Type 0} (xs ys : List A) → length xs ≡ length ys
    → ((number : ℕ) (x y : A) → slice_get xs number ≡ Some x → slice_get ys number ≡ Some y → x ≡ y) → xs ≡ ys
same-lists [] [] long same = refl
same-lists [] (y ∷ ys) long same = absurd (omega (arith, long))
same-lists (x ∷ xs) [] long same = absurd (omega (arith, long))
same-lists (x ∷ xs) (y ∷ ys) long same =
    ap (λ (first : _). first ∷ xs) (same zero x y refl refl)
    ∙ ap (λ rest. y ∷ rest) (same-lists xs ys (omega (arith, long)) (λ number. same (suc number)))

-- ---- what it leaves

module _ {S : Type 0} {G : Ghosts S} (count : ℕ) (issuer : Setup) (prefix : List ℕ) (told : Logged)
    (olds read stores back : List S)
    (opening logs : List (Log LogItem LogHead)) (opened : HasAllOpened G issuer prefix told olds stores)
    (only_read : AreOnlyRead G.size G.bytes G.disk G.room olds read)
    (opens : AreOpenedFrom G.bytes G.disk G.faults issuer olds read stores opening) (same_count : length logs ≡ length opening)
    (closed : AreClosed G.bytes G.disk G.faults issuer opening logs back)
    (told_bytes : (store : S) → IfSome (G.disk store) (λ disk. G.bytes store ≡ Some disk.now.bytes)) where
  abbrev first_books : List ShardBook
  first_books = map opening_book opening

  abbrev last_books : List ShardBook
  last_books = closing_books G.faults logs back

  count-first : length first_books ≡ issuer.shards
  count-first = length-map opening opening_book ∙ opens.count_is ∙ opened.stores_count

  count-last : length last_books ≡ issuer.shards
  count-last = length-closing G.faults logs back ∙ same_count ∙ opens.count_is ∙ opened.stores_count

  -- a shard, from its store as it was opened to the one that is given back
  record IsKeptAt (shard : ℕ) (was is : ShardBook) : Type 0 where
    within : shard < issuer.shards
    old : S
    old_after : S
    before : S
    after : S
    first : Log LogItem LogHead
    last : Log LogItem LogHead
    old_after_at : slice_get read shard ≡ Some old_after
    after_at : slice_get back shard ≡ Some after
    first_at : slice_get opening shard ≡ Some first
    last_at : slice_get logs shard ≡ Some last
    was_is : was ≡ opening_book first
    is_is : is ≡ book_of last (G.faults after)
    old_log : IsOpened G (told (old_name prefix shard)) old
    log : IsOpened G (told (journal_name prefix shard)) before
    old_read : IsOnlyRead G.size G.bytes G.disk G.room old old_after
    opens_from : IsOpenedFrom G.bytes G.disk G.faults issuer shard old old_after before first
    closes : IsClosed G.bytes G.disk G.faults issuer shard first last after

  kept-at : (shard : ℕ) (was is : ShardBook) → slice_get first_books shard ≡ Some was → slice_get last_books shard ≡ Some is
      → IsKeptAt shard was is
  kept-at shard was is was_at is_at =
      let within : shard < issuer.shards =
      (let inside = slice_get_within first_books shard was was_at in let long = count-first in
      omega (arith, inside, long)) in
      let stores_are = opened.stores_count in
      let olds_are = opened.olds_count in
      let read_are = opens.read_are in
      let old = at-place olds shard (omega (arith, within, olds_are)) in
      let old_after = at-place read shard (omega (arith, within, stores_are, read_are)) in
      let before = at-place stores shard (omega (arith, within, stores_are)) in
      let after = at-place back shard (let long = closed.count_is in omega (arith, within, long)) in
      let first = mapped-at opening_book opening shard was was_at in
      let last = closing-at G.faults logs back shard is after.0 is_at after.1 in
      record {
        within = within;
        old = old.0;
        old_after = old_after.0;
        before = before.0;
        after = after.0;
        first = first.0;
        last = last.0;
        old_after_at = old_after.1;
        after_at = after.1;
        first_at = first.1;
        last_at = last.1;
        was_is = first.2;
        is_is = last.2;
        old_log = opened.olds_are shard old.0 old.1;
        log = opened.stores_are shard before.0 before.1;
        old_read = only_read.each shard old.0 old_after.0 old.1 old_after.1;
        opens_from = opens.each shard old.0 old_after.0 before.0 first.0 old.1 old_after.1 before.1 first.1;
        closes = closed.each shard first.0 last.0 after.0 first.1 last.1 after.1;
      }

  module _ (shard : ℕ) (was is : ShardBook) (at : IsKeptAt shard was is) where
    history-opened : records_of at.first.items ≡ at.opens_from.history
    history-opened =
        ap (λ (l : Log LogItem LogHead). records_of l.items) at.opens_from.log_is ∙ records-only at.opens_from.history

    was-journal : WasJournal issuer shard (told (old_name prefix shard)) (told (journal_name prefix shard))
        at.opens_from.old_history (opening_book at.first)
    was-journal =
        let o = at.opens_from in
        let old_held = told (old_name prefix shard) in
        let held = told (journal_name prefix shard) in
        record {
          journal_is =
              subst (IsJournalOf issuer shard old_held held o.old_history) (sym history-opened)
              (journal-held issuer shard old_held held (G.bytes at.old) (G.bytes at.before) o.old_history o.history
              at.old_log.bytes_are at.log.bytes_are o.journal_is);
          no_fault = o.counts.counted ∙ at.log.new;
          none_reported =
              ap (λ (l : Log LogItem LogHead). length (faults_of l.items)) o.log_is ∙ ap length (faults-none o.history);
        }

    -- the history went on legally, and the count never fell
    legally-on : LegallyGoesOn issuer shard was.history is.history × (was.faults ≤ is.faults)
    legally-on =
        subst (λ (w : ShardBook). LegallyGoesOn issuer shard w.history is.history × (w.faults ≤ is.faults)) (sym at.was_is)
        (subst (λ (i : ShardBook). LegallyGoesOn issuer shard (records_of at.first.items) i.history
        × (at.first.head.faults ≤ i.faults)) (sym at.is_is) (
          at.closes.goes_on,
          rise-below at.first.head.faults (faults_of at.last.items) (G.faults at.after)
              at.closes.rise,
        ))

    keeps-journal : (old_seen seen : SeenStore) → store_seen G at.old_after ≡ old_seen → store_seen G at.after ≡ seen
        → KeepsJournal issuer shard (told (old_name prefix shard)) (told (journal_name prefix shard)) was is old_seen
        seen
    keeps-journal old_seen seen old_same same =
        let old_held = told (old_name prefix shard) in
        let held = told (journal_name prefix shard) in
        let o = at.opens_from in
        let first : ShardBook = opening_book at.first in
        let last : ShardBook = book_of at.last (G.faults at.after) in
        subst (λ (w : ShardBook). KeepsJournal issuer shard old_held held w is old_seen seen) (sym at.was_is)
        (subst (λ (i : ShardBook). KeepsJournal issuer shard old_held held first i old_seen seen) (sym at.is_is)
        (subst (λ (s : SeenStore). KeepsJournal issuer shard old_held held first last s seen) old_same
        (subst (KeepsJournal issuer shard old_held held first last (store_seen G at.old_after)) same
        (record {
          old = o.old_history;
          was = was-journal;
          old_stays =
              stays-opened told_bytes old_held at.old at.old_after at.old_log at.old_read.bytes_are
              at.old_read.disk_is;
          old_no_fault = o.old_counts.counted ∙ at.old_log.new;
          holds = at.closes.holds;
          faults_are = refl;
          crash_now = leaves-now issuer shard last (G.bytes at.after) (G.disk at.after) at.closes.holds;
          crash_since =
              crash-since (IsRunImage issuer shard o.old_history first.history last.history) held (G.bytes at.before)
              (G.disk at.before) (G.disk at.after)
              (crash-run issuer shard o.old_history first.history last.history (G.disk at.before)
              at.first.head.opened (G.disk at.after)
              (subst (λ (h : List Entry). BothTold (λ before after.
              LeavesOnly (IsLoadImage o.old_history h before.now) before after) (G.disk at.before)
              at.first.head.opened) (sym history-opened) o.leaves)
              at.closes.since)
              at.log.untouched (told_bytes at.before) at.log.bytes_are;
        }))))

  keep-together : KeepJournals issuer prefix told (journals_seen G read back) first_books last_books
  keep-together = record {
    olds_are = mapped (store_seen G) read ∙ opens.read_are ∙ opened.stores_count;
    stores_are = mapped (store_seen G) back ∙ closed.count_is;
    first_are = count-first;
    last_are = count-last;
    each = λ shard was is old_seen seen was_at is_at old_at seen_at.
        let at = kept-at shard was is was_at is_at in
        let old_here = mapped-at (store_seen G) read shard old_seen old_at in
        let here = mapped-at (store_seen G) back shard seen seen_at in
        let old_same : at.old_after ≡ old_here.0 =
        (let both : Some at.old_after ≡ Some old_here.0 = sym at.old_after_at ∙ old_here.1 in cc) in
        let same : at.after ≡ here.0 = (let both : Some at.after ≡ Some here.0 = sym at.after_at ∙ here.1 in cc) in
        keeps-journal shard was is at old_seen seen (ap (store_seen G) old_same ∙ sym old_here.2)
        (ap (store_seen G) same ∙ sym here.2);
  }

  goes-on : GoOnLegally issuer first_books last_books
  goes-on shard was is was_at is_at = legally-on shard was is (kept-at shard was is was_at is_at)

  -- the books of logs that there are for each shard
  some-first : (shard : ℕ) → shard < issuer.shards → (book : ShardBook) × (slice_get first_books shard ≡ Some book)
  some-first shard within = at-place first_books shard (let long = count-first in omega (arith, within, long))

  some-last : (shard : ℕ) → shard < issuer.shards → (book : ShardBook) × (slice_get last_books shard ≡ Some book)
  some-last shard within = at-place last_books shard (let long = count-last in omega (arith, within, long))

  last-recorded : AreRecorded last_books
  last-recorded shard book is =
      let within : shard < issuer.shards = (let inside = slice_get_within last_books shard book is in
      let long = count-last in omega (arith, inside, long)) in
      let first = some-first shard within in
      let at = kept-at shard first.0 book first.1 is in
      subst (λ (b : ShardBook). All IsRecord b.history) (sym at.is_is) at.closes.records

  -- the histories and counts of the logs are those of the books
  first-history : history_at opening ≡ history_in first_books
  first-history = fun_ext (λ shard. history-listed opening shard
      ∙ ap (λ (hs : List (List Entry)). slice_index_or hs shard []) (opening-histories opening))

  last-histories : histories_in logs ≡ histories_of last_books
  last-histories = closing-histories G.faults logs back

  last-history : history_at logs ≡ history_in last_books
  last-history = fun_ext (λ shard. history-listed logs shard
      ∙ ap (λ (hs : List (List Entry)). slice_index_or hs shard []) last-histories)

  last-counts : faults_at logs ≡ faults_reported_in last_books
  last-counts = fun_ext (λ shard. count-listed logs shard
      ∙ ap (λ (ns : List ℕ). slice_index_or ns shard 0) (closing-counts G.faults logs back))

  -- what holds by the logs holds by the books
  module _ (shares : List Share) where
    explained-books : AreExplained issuer (history_at opening) (history_at logs) (histories_in logs) shares
        → AreExplained issuer (history_in first_books) (history_in last_books) (histories_of last_books) shares
    explained-books explained =
        subst (λ (f : ℕ → List Entry).
        AreExplained issuer f (history_in last_books) (histories_of last_books) shares) first-history
        (subst (λ (l : ℕ → List Entry). AreExplained issuer (history_at opening) l (histories_of last_books) shares)
        last-history
        (subst (λ (hs : List (List Entry)). AreExplained issuer (history_at opening) (history_at logs) hs shares)
        last-histories explained))

    own-books : AreOwnPlaces issuer (history_at opening) (history_at logs) (faults_at logs) shares
        → AreOwnPlaces issuer (history_in first_books) (history_in last_books) (faults_reported_in last_books) shares
    own-books own =
        subst (λ (f : ℕ → List Entry). AreOwnPlaces issuer f (history_in last_books) (faults_reported_in last_books) shares)
        first-history
        (subst (λ (l : ℕ → List Entry). AreOwnPlaces issuer (history_at opening) l (faults_reported_in last_books) shares)
        last-history
        (subst (λ (counts : ℕ → ℕ). AreOwnPlaces issuer (history_at opening) (history_at logs) counts shares)
        last-counts own))

    settled-books : AreSettled issuer (history_at opening) shares
        → AreSettled issuer (history_in first_books) shares
    settled-books settled = subst (λ (f : ℕ → List Entry). AreSettled issuer f shares) first-history settled

  lawful-together : HasSoundParts issuer → IsLawful issuer first_books last_books
  lawful-together sound =
      is-lawful issuer first_books last_books sound count-first (count-last ∙ sym count-first) goes-on last-recorded

  module _ (more : 1 < count) (sound : HasSoundParts issuer) (asked : List (List ℕ)) (answers : List Answer)
      (shares : List Share) (dealt : AreDealt count asked answers shares)
      (law : AreLawfulShares issuer opening logs shares) (within : length asked ≤ MAX_LINES) where
    -- there are fewer answers than a log may have faults
    few-answers : all_answers shares < MAX_FAULTS_REPORTED
    few-answers =
        let all = answers-dealt count asked answers shares (omega (arith, more)) dealt in omega (arith, all, within)

    -- where no store's count rose, no log tells a fault
    none-told : (HasFailed first_books last_books → ⊥) → TellNoFault issuer logs
    none-told stood shard within =
        let was = some-first shard within in
        let is = some-last shard within in
        let at = kept-at shard was.0 is.0 was.1 is.1 in
        ap faults_of (items-of logs shard at.last at.last_at)
        ∙ none-rise at.first.head.faults (faults_of at.last.items) (G.faults at.after) at.closes.rise
        (λ rose. stood (record {
          shard = shard;
          was = was.0;
          is = is.0;
          was_is = was.1;
          is_is = is.1;
          rose = subst (λ (w : ShardBook). Rose w.faults is.0.faults) (sym at.was_is)
              (subst (λ (i : ShardBook). Rose at.first.head.faults i.faults) (sym at.is_is) rose);
        }))

    answered-together : AreAnsweredTogether count issuer first_books last_books asked answers
    answered-together = record {
      shares = shares;
      dealt = dealt;
      explained = explained-books shares law.explained;
      each_record_is_one_answers = own-books shares law.each_record_is_one_answers;
      faults_are_counted = λ shard was is was_at is_at below.
          let at = kept-at shard was is was_at is_at in
          let rises = subst (λ (items : List LogItem).
          RiseTo at.first.head.faults (faults_of items) (G.faults at.after))
          (sym (items-of logs shard at.last at.last_at)) at.closes.rise in
          subst (λ (w : ShardBook). w.faults + all_faults_reported issuer shard shares ≤ is.faults)
          (sym at.was_is)
          (subst (λ (i : ShardBook). at.first.head.faults + all_faults_reported issuer shard shares ≤ i.faults)
          (sym at.is_is)
          (law.faults_are_counted shard at.first.head.faults (G.faults at.after) at.within rises
          (subst (λ (i : ShardBook). i.faults < 2 ^ 64 - 1) at.is_is below) few-answers));
      settled = λ stood. settled-books shares (law.settled (none-told stood));
    }

    pub leaves-together : (text : List ℕ) → text ≡ flat_map printed answers
        → LeavesAnswered count issuer prefix told (journals_seen G read back) asked text
    leaves-together text text_is = record {
      first = first_books;
      last = last_books;
      kept = keep-together;
      lawful = lawful-together sound;
      answers = answers;
      answered =
          several count _ (AreAnsweredTogether count issuer first_books last_books asked answers) more
          answered-together;
      own_tails = λ one. absurd (omega (arith, more, one));
      text_is = text_is;
    }

  -- ---- where no line was answered

  module _ (more : 1 < count) (sound : HasSoundParts issuer) (shares : List Share)
      (dealt : AreDealt count [] [] shares) (law : AreLawfulShares issuer opening logs shares) where
    -- no answer names a record, and none reports a fault
    names-none : (shard place : ℕ) → answers_at shard place shares ≡ 0
    names-none shard place =
        total-zero (λ (share : Share). how_many (is_record_at shard place) share.answers) shares
        (λ number share is.
        ap (how_many (is_record_at shard place)) (dealt.answers_are number share is ∙ every-none count number))

    tells-none : (shard : ℕ) → all_faults_reported issuer shard shares ≡ 0
    tells-none shard =
        total-zero (λ (share : Share). faults_reported issuer shard share.lines share.answers) shares
        (λ number share is.
        ap (λ (lines : List (List ℕ)). faults_reported issuer shard lines share.answers)
        (dealt.lines_are number share is ∙ every-none count number))

    -- so no shard has a new record
    no-records : (shard : ℕ) (was is : ShardBook) (at : IsKeptAt shard was is)
        → records_of at.last.items ≡ records_of at.first.items
    no-records shard was is at =
        let first : List Entry = history_at opening shard in
        let last : List Entry = history_at logs shard in
        let least = between-none (length first) (length last)
        (sym (law.each_record_is_one_answers.places shard (length first) at.within) ∙ names-none shard (length first)) in
        let first_is : first ≡ records_of at.first.items =
        ap records_of (items-of opening shard at.first at.first_at) in
        let last_is : last ≡ records_of at.last.items = ap records_of (items-of logs shard at.last at.last_at) in
        let no_longer : length (records_of at.last.items) ≤ length (records_of at.first.items) =
        subst (λ (h : List Entry). length h ≤ length (records_of at.first.items)) last_is
        (subst (λ (h : List Entry). length last ≤ length h) first_is least) in
        as-long (records_of at.first.items) (records_of at.last.items) at.closes.goes_on.goes_on no_longer

    same-histories : histories_of last_books ≡ histories_of first_books
    same-histories =
        same-lists (histories_of last_books) (histories_of first_books)
        (length-map last_books (λ (b : ShardBook). b.history) ∙ count-last ∙ sym count-first
        ∙ sym (length-map first_books (λ (b : ShardBook). b.history)))
        (λ shard is was is_at was_at.
        let last = mapped-at (λ (b : ShardBook). b.history) last_books shard is is_at in
        let first = mapped-at (λ (b : ShardBook). b.history) first_books shard was was_at in
        let at = kept-at shard first.0 last.0 first.1 last.1 in
        last.2 ∙ ap (λ (b : ShardBook). b.history) at.is_is ∙ no-records shard first.0 last.0 at
        ∙ sym (first.2 ∙ ap (λ (b : ShardBook). b.history) at.was_is))

    no-fault : (shard : ℕ) (book : ShardBook) → slice_get last_books shard ≡ Some book → book.reported ≡ 0
    no-fault shard book is =
        let within : shard < issuer.shards = (let inside = slice_get_within last_books shard book is in
        let long = count-last in omega (arith, inside, long)) in
        let was = some-first shard within in
        let at = kept-at shard was.0 book was.1 is in
        let most : length (faults_of (items_at logs shard)) ≤ all_faults_reported issuer shard shares =
        law.each_record_is_one_answers.told shard within in
        let none = tells-none shard in
        let items_are : length (faults_of (items_at logs shard)) ≡ length (faults_of at.last.items) =
        ap (λ (items : List LogItem). length (faults_of items)) (items-of logs shard at.last at.last_at) in
        let told_is : book.reported ≡ length (faults_of at.last.items) = ap (λ (b : ShardBook). b.reported) at.is_is in
        omega (arith, most, none, items_are, told_is)

    pub leaves-loaded_together : LeavesLoaded count issuer prefix told (journals_seen G read back)
    leaves-loaded_together = record {
      first = first_books;
      last = last_books;
      kept = keep-together;
      lawful = lawful-together sound;
      none =
          record {
            same_histories = same-histories;
            none_reported = no-fault;
            alone = λ one. absurd (omega (arith, one, more));
          };
      left = λ one. absurd (omega (arith, one, more));
    }
