-- What an answer of a shard adds to its log, and the log that the shard stands for then.
use Rattle.std.proofs.Common.{◌≡◌, ℕ, zero, suc, ◌+◌, ◌<◌, ◌≤◌, ◌&&◌, ltb, Bool, true, false}
use Rattle.std.proofs.Common.{if◌then◌else◌, List, [], ◌∷◌, ◌++◌, length, take, All, Option, None, Some, Ok}
use Rattle.std.proofs.Common.{refl, sym, ap, subst, ◌∙◌, inl, inr, arith}
use Rattle.std.specs.List.{slice_get}
use Rattle.std.proofs.lemmas.Bool.{cases_lt, ltb-true, ltb-false}
use Rattle.std.proofs.lemmas.List.{length_push, take-append-le, take_all}
use Rattle.std.proofs.lemmas.Option.{same_Some, none-some, slice_get_within, get_or_from_slice_get}
use Rattle.issuer_base.specs.OutsideFaults.{CountsFaults}
use Rattle.issuer_base.specs.Stores.{Disk, BothTold, LeavesOnly}
use Rattle.issuer_base.specs.declared.request.Request.{Request}
use Rattle.issuer_base.specs.declared.answer.Answer.{Answer}
use Rattle.issuer_base.specs.declared.answer.Answer.TheVariants.{Fresh, Kept, Queued, Set, Refused}
use Rattle.issuer_base.specs.declared.answer.Refusal.TheVariants.{Below, Taken, QueueFull, Pending, StoreFault}
use Rattle.issuer_base.specs.declared.entry.Entry.{Entry}
use Rattle.issuer_base.specs.declared.entry.Entry.TheVariants.{Decided}
use Rattle.issuer_base.specs.declared.limits.TheConstants.{MAX_FAULTS_REPORTED}
use Rattle.issuer_base.specs.declared.outside.store.Store.{Ghosts}
use Rattle.card_history.specs.declared.decision.Asked.TheVariants.{Decide}
use Rattle.card_history.specs.LegalRecords.{IsLegal, IsLegalHistory}
use Rattle.card_history.specs.Records.{card_of}
use Rattle.card_history.proofs.LongerHistories.{slice_get-push}
use Rattle.issuer_setup.specs.IssuerSetup.{Setup}
use Rattle.journal_rec.specs.Record.{IsRecord}
use Rattle.line_checks.specs.AtHand.{card_of_order, order_asked, record_of, IsOrderAtHand}
use Rattle.line_checks.specs.Reading.{checked}
use Rattle.line_checks.specs.declared.checked.CheckedOrder.{CheckedOrder}
use Rattle.line_checks.specs.declared.checked.CheckedOrder.TheVariants.{Command as IsCommand, Status as IsStatus}
use Rattle.shard_book.specs.Replying.{reply_to}
use Rattle.shard_book.specs.declared.shard.Shard.{Shard}
use Rattle.shard_book.specs.Answering.{is_store_fault, reported_after, AnswersClaimed, AnswersOrder}
use Rattle.shard_book.specs.Calls.{KeepsCall, LeavesImages}
use Rattle.shard_book.specs.Grounds.{IsCardOfShard, IsImageOf, grounds_of, grounds_now}
use Rattle.shard_book.specs.Shards.{disk_in, faults_in, reported_in, StandsFor}
use Rattle.shard_book.proofs.LegalDecisions.{legal-own}
use Rattle.shard_book.proofs.Lines.{legal-more}
use Rattle.shard_book.proofs.OwnDecisions.{legal-then}
use Rattle.shared_shards.specs.declared.logs.LogItem.{LogItem}
use Rattle.shared_shards.specs.declared.logs.LogItem.TheVariants.{Record, Fault}
use Rattle.shard_book.specs.Histories.{GoesOn, IsImageBetween}
use Rattle.shared_shards.specs.Opening.{head_with}
use Rattle.shared_shards.specs.ShardLogs.{records_of, faults_of, RiseTo, last_count, StandsForLog}
use Rattle.shared_shards.specs.Turned.{log_after, AddsFault, AddsRecord, IsAdded, decided_by, recorded_by, added_by}
use Rattle.shard_book.proofs.Histories.{goes-none}
use Rattle.shared_shards.proofs.Since.{since-more}
use Rattle.shared_shards.proofs.LogSteps.{records-record, records-fault, faults-record, faults-fault, rise-later, rise-more, last-more}

-- ---- what an answer adds

-- the records are as they were, or there is just this one more, which may come next
abbrev pub RecordsBy : Setup → ℕ → List Entry → Option Entry → List Entry → Type 0
RecordsBy issuer shard before None after = after ≡ before
RecordsBy issuer shard before (Some entry) after = (after ≡ before ++ entry ∷ []) × IsLegal (grounds_now issuer) shard before entry

-- the answer comes with just this record, or with none
pub record IsAnsweredBy (issuer : Setup) (shard : ℕ) (before after : List Entry) (answer : Answer) (entry : Option Entry) : Type 0 where
  pub records : RecordsBy issuer shard before entry after
  pub apart : (given : Entry) → entry ≡ Some given → is_store_fault answer ≡ false
  pub adds : (items : List LogItem) (told count : ℕ) → records_of items ≡ before → told ≡ length (faults_of items)
      → IsAdded issuer shard items answer (added_by entry (is_store_fault answer && ltb told MAX_FAULTS_REPORTED) count)

-- a fault is added while the log tells fewer than the limit
fault-adds : (items : List LogItem) (told count : ℕ) → told ≡ length (faults_of items)
    → AddsFault items (added_by None (true && ltb told MAX_FAULTS_REPORTED) count)
fault-adds items told count told_is =
    let goes : (test : Bool) → ltb told MAX_FAULTS_REPORTED ≡ test → AddsFault items (added_by None (true && test) count) = λ test is.
    elim test as (λ test. ltb told MAX_FAULTS_REPORTED ≡ test → AddsFault items (added_by None (true && test) count)) [
      | true ↦ λ less. subst (λ told. told < MAX_FAULTS_REPORTED) told_is (ltb-true told MAX_FAULTS_REPORTED less)
      | false ↦ λ more. subst (λ told. MAX_FAULTS_REPORTED ≤ told) told_is (ltb-false told MAX_FAULTS_REPORTED more)
    ] is in
    goes (ltb told MAX_FAULTS_REPORTED) refl

module _ (issuer : Setup) (shard : ℕ) (before after : List Entry) where
  nothing-added : (answer : Answer) → is_store_fault answer ≡ false → after ≡ before
      → ((items : List LogItem) (told count : ℕ) → told ≡ length (faults_of items)
      → IsAdded issuer shard items answer (added_by None (is_store_fault answer && ltb told MAX_FAULTS_REPORTED) count))
      → IsAnsweredBy issuer shard before after answer None
  nothing-added answer good same adds = record {
    records = same;
    apart = λ given is. absurd (none-some given is);
    adds = λ items told count records told_is. adds items told count told_is;
  }

  -- a record is added, which is a valid successor
  recorded-added : (entry : Entry) (answer : Answer) → is_store_fault answer ≡ false → after ≡ before ++ entry ∷ []
      → IsLegal (grounds_now issuer) shard before entry
      → ((items : List LogItem) (added : Option LogItem) → AddsRecord issuer shard items added → IsAdded issuer shard items answer added)
      → IsAnsweredBy issuer shard before after answer (Some entry)
  recorded-added entry answer good after_is legal adds = record {
    records = (after_is, legal);
    apart = λ given is. good;
    adds = λ items told count records told_is.
        adds items (Some (Record entry)) (
          entry,
          refl,
          subst (λ (before : List Entry). IsLegal (grounds_now issuer) shard before entry) (sym records) legal,
        );
  }

  failed-added : after ≡ before → IsAnsweredBy issuer shard before after (Refused StoreFault) None
  failed-added same = record {
    records = same;
    apart = λ given is. absurd (none-some given is);
    adds = λ items told count records told_is. fault-adds items told count told_is;
  }

  pub claimed-answered : (won : Bool) (request : Request) (answer : Answer) → IsCardOfShard issuer shard (card_of request)
      → checked issuer request ≡ Ok (Decide request) → AnswersClaimed shard (reply_to issuer) won before request answer after
      → IsAnsweredBy issuer shard before after answer (decided_by request answer)
  claimed-answered won request (Fresh at place reply) home passes (win, (unused, at_is, place_is, reply_is, after_is)) =
      recorded-added (Decided request reply) (Fresh at place reply) refl after_is
      (legal-own issuer shard before request reply home passes unused reply_is) (λ items added is. is)
  claimed-answered won request (Kept at place reply) home passes (used, at_is, after_is) =
      nothing-added (Kept at place reply) refl after_is (λ items told count told_is. refl)
  claimed-answered won request (Refused (Below top)) home passes (too_old, after_is) =
      nothing-added (Refused (Below top)) refl after_is (λ items told count told_is. refl)
  claimed-answered won request (Refused (Taken at place)) home passes (taken, at_is, after_is) =
      nothing-added (Refused (Taken at place)) refl after_is (λ items told count told_is. refl)
  claimed-answered won request (Refused Pending) home passes (lost, unused, after_is) =
      nothing-added (Refused Pending) refl after_is (λ items told count told_is. refl)
  claimed-answered won request (Refused StoreFault) home passes (win, unused, after_is) = failed-added after_is
  claimed-answered won request _ home passes turn = absurd turn

  pub order-answered : (order : CheckedOrder) (answer : Answer) → IsCardOfShard issuer shard (card_of_order order) → IsOrderAtHand issuer order
      → AnswersOrder shard before (order_asked order) answer after
      → IsAnsweredBy issuer shard before after answer (recorded_by (record_of order) answer)
  order-answered (IsCommand found) (Queued at place) home at_hand (room, at_is, place_is, after_is) =
      recorded-added (record_of (IsCommand found)) (Queued at place) refl after_is (record { of_a_card = home; form = at_hand.form_is; room = room })
      (λ items added is. is)
  order-answered (IsCommand found) (Refused QueueFull) home at_hand (full, after_is) =
      nothing-added (Refused QueueFull) refl after_is (λ items told count told_is. refl)
  order-answered (IsCommand found) (Refused StoreFault) home at_hand (room, after_is) = failed-added after_is
  order-answered (IsCommand found) _ home at_hand turn = absurd turn
  order-answered (IsStatus found) (Set at place) home at_hand (at_is, place_is, after_is) =
      recorded-added (record_of (IsStatus found)) (Set at place) refl after_is (record { of_a_card = home; within = at_hand.within })
      (λ items added is. is)
  order-answered (IsStatus found) (Refused StoreFault) home at_hand after_is = failed-added after_is
  order-answered (IsStatus found) _ home at_hand turn = absurd turn

-- ---- histories that grow by the issuer's own decisions

-- what stands in front of others stands there alone
read-alone : {X : Type 0} (xs more : List X) (place : ℕ) (x : X) → place < length xs → slice_get (xs ++ more) place ≡ Some x → slice_get xs place ≡ Some x
read-alone [] more place x within is = absurd (omega arith)
read-alone (y ∷ xs) more zero x within is = is
read-alone (y ∷ xs) more (suc place) x within is = read-alone xs more place x (omega arith) is

-- the entry at a place of records is a record
recorded-at : (history : List Entry) → All IsRecord history → (place : ℕ) (entry : Entry) → slice_get history place ≡ Some entry → IsRecord entry
recorded-at history all place entry is =
    subst IsRecord (get_or_from_slice_get history place entry entry is) (all place entry (slice_get_within history place entry is))

-- each record from this place on is the issuer's own decision
abbrev pub AreOwnFrom : Setup → ℕ → ℕ → List Entry → Type 0
AreOwnFrom issuer shard first history =
    (place : ℕ) (entry : Entry) → first ≤ place → slice_get history place ≡ Some entry → IsLegal (grounds_now issuer) shard (take place history) entry

own-more : (issuer : Setup) (shard first : ℕ) (history : List Entry) (entry : Entry) → AreOwnFrom issuer shard first history
    → IsLegal (grounds_now issuer) shard history entry → AreOwnFrom issuer shard first (history ++ entry ∷ [])
own-more issuer shard first history entry own next place other past is =
    elim (cases_lt place (length history)) [
      | inl within ↦
          subst (λ (records : List Entry). IsLegal (grounds_now issuer) shard records other)
          (sym (take-append-le place history (entry ∷ []) (omega arith)))
          (own place other past (read-alone history (entry ∷ []) place other within is))
      | inr behind ↦
          let within = slice_get_within (history ++ entry ∷ []) place other is in
          let long = length_push history entry in
          let at : place ≡ length history = omega arith in
          let whole : take place (history ++ entry ∷ []) ≡ history =
          ap (λ n. take n (history ++ entry ∷ [])) at ∙ take-append-le (length history) history (entry ∷ []) (omega arith)
          ∙ take_all (length history) history (omega arith) in
          let its : entry ≡ other =
          same_Some entry other (sym (slice_get-push history entry) ∙ subst (λ n. slice_get (history ++ entry ∷ []) n ≡ Some other) at is) in
          subst (λ (other : Entry). IsLegal (grounds_now issuer) shard (take place (history ++ entry ∷ [])) other) its
          (subst (λ (records : List Entry). IsLegal (grounds_now issuer) shard records entry) (sym whole) next)
    ]

-- ---- the log after a call

-- below the limit of counts that are told, the count now is the last of these
abbrev IsLast : ℕ → ℕ → List ℕ → Type 0
IsLast first now counts = length counts < MAX_FAULTS_REPORTED → now ≡ last_count first counts

-- a call of the shard answered so
pub record IsCalled {S : Type 0} {G : Ghosts S} (issuer : Setup) (old new : Shard S G) (answer : Answer) : Type 0 where
  pub keeps : KeepsCall issuer old (is_store_fault answer) new
  pub leaves : LeavesImages issuer old new

module _ {S : Type 0} {G : Ghosts S} (issuer : Setup) (shard first faults : ℕ) (disk : Option Disk)
    (old new : Shard S G) (answer : Answer) (items : List LogItem)
    (stands : StandsForLog old (head_with issuer shard faults first disk) items) (called : IsCalled issuer old new answer) (after : List Entry)
    (now : StandsFor issuer new after) where
  -- each image that a crash may leave since the log was opened, where the log's records go on to these
  since-then : (records : List Entry) → GoesOn (records_of items) records
      → BothTold (LeavesOnly (IsImageBetween issuer shard (take first records) records)) disk (disk_in new)
  since-then records on =
      since-more issuer shard first (records_of items) records on stands.opened disk (disk_in old) (disk_in new) stands.since
      (subst (λ (number : ℕ). BothTold (LeavesOnly (IsImageOf (grounds_now issuer) number (records_of items))) (disk_in old) (disk_in new))
      stands.number_is (called.leaves (records_of items) stands.stands))

  -- a record was added
  record-step : (entry : Entry) → is_store_fault answer ≡ false → after ≡ records_of items ++ entry ∷ []
      → IsLegal (grounds_now issuer) shard (records_of items) entry → StandsForLog new (head_with issuer shard faults first disk) (items ++ Record entry ∷ [])
  record-step entry good after_is next =
      let history : List Entry = records_of items in
      let stands_new : StandsFor issuer new (history ++ entry ∷ []) = subst (StandsFor issuer new) after_is now in
      let recorded : IsRecord entry =
      recorded-at (history ++ entry ∷ []) stands_new.journal_holds.records (length history) entry (slice_get-push history entry) in
      let same = records-record items entry in
      let fewer = stands.opened in
      let long = length_push history entry in
      let counts : CountsFaults (faults_in old) (faults_in new) false =
      subst (λ failed. CountsFaults (faults_in old) (faults_in new) failed) good called.keeps.counts in
      let told : reported_in new ≡ reported_in old = called.keeps.told_is ∙ ap (reported_after (reported_in old)) good in
      let faults_same = faults-record items entry in
      record {
        number_is = called.keeps.number_is ∙ stands.number_is;
        under = called.keeps.under;
        stands = subst (StandsFor issuer new) (sym same) stands_new;
        legal = subst (IsLegalHistory (grounds_of issuer) shard) (sym same)
            (legal-more (grounds_of issuer) shard history entry stands.legal (legal-then issuer shard history entry recorded next));
        opened = subst (λ (history : List Entry). first ≤ length history) (sym same) (omega arith);
        by_table = subst (AreOwnFrom issuer shard first) (sym same) (own-more issuer shard first history entry stands.by_table next);
        told_is = told ∙ stands.told_is ∙ sym (ap (λ (counts : List ℕ). length counts) faults_same);
        few = subst (λ (counts : List ℕ). length counts ≤ MAX_FAULTS_REPORTED) (sym faults_same) stands.few;
        undoubted = called.keeps.undoubted stands.undoubted;
        counts = subst (λ (counts : List ℕ). RiseTo faults counts (faults_in new)) (sym faults_same)
            (rise-later faults (faults_of items) (faults_in old) (faults_in new) stands.counts counts.never_falls);
        last_is = subst (IsLast faults (faults_in new)) (sym faults_same) (λ fewer. counts.counted ∙ stands.last_is fewer);
        since = since-then (records_of (items ++ Record entry ∷ [])) (entry ∷ [], same);
      }

  -- no record was added
  other-step : (more : List LogItem) → records_of more ≡ records_of items → after ≡ records_of items → reported_in new ≡ length (faults_of more)
      → length (faults_of more) ≤ MAX_FAULTS_REPORTED → RiseTo faults (faults_of more) (faults_in new) → IsLast faults (faults_in new) (faults_of more)
      → StandsForLog new (head_with issuer shard faults first disk) more
  other-step more same after_is told few counts last_is = record {
    number_is = called.keeps.number_is ∙ stands.number_is;
    under = called.keeps.under;
    stands = subst (StandsFor issuer new) (after_is ∙ sym same) now;
    legal = subst (IsLegalHistory (grounds_of issuer) shard) (sym same) stands.legal;
    opened = subst (λ (history : List Entry). first ≤ length history) (sym same) stands.opened;
    by_table = subst (AreOwnFrom issuer shard first) (sym same) stands.by_table;
    told_is = told;
    few = few;
    undoubted = called.keeps.undoubted stands.undoubted;
    counts = counts;
    last_is = last_is;
    since = since-then (records_of more) (subst (GoesOn (records_of items)) (sym same) (goes-none (records_of items)));
  }

  none-step : (failed less : Bool) → is_store_fault answer ≡ failed → ltb (reported_in old) MAX_FAULTS_REPORTED ≡ less → after ≡ records_of items
      → StandsForLog new (head_with issuer shard faults first disk) (log_after items (added_by None (failed && less) (faults_in new)))
  none-step false less failed_is less_is after_is =
      let counts : CountsFaults (faults_in old) (faults_in new) false =
      subst (λ failed. CountsFaults (faults_in old) (faults_in new) failed) failed_is called.keeps.counts in
      other-step items refl after_is (called.keeps.told_is ∙ ap (reported_after (reported_in old)) failed_is ∙ stands.told_is) stands.few
      (rise-later faults (faults_of items) (faults_in old) (faults_in new) stands.counts counts.never_falls)
      (λ fewer. counts.counted ∙ stands.last_is fewer)
  none-step true false failed_is less_is after_is =
      let counts = called.keeps.counts.never_falls in
      let told : reported_in new ≡ reported_in old = called.keeps.told_is ∙ ap (reported_after (reported_in old)) failed_is
      ∙ ap (λ (less : Bool). if less then reported_in old + 1 else reported_in old) less_is in
      other-step items refl after_is (told ∙ stands.told_is) stands.few
      (rise-later faults (faults_of items) (faults_in old) (faults_in new) stands.counts counts)
      (λ fewer. let most = ltb-false (reported_in old) MAX_FAULTS_REPORTED less_is in let told_was = stands.told_is in absurd (omega arith))
  none-step true true failed_is less_is after_is =
      let counts : CountsFaults (faults_in old) (faults_in new) true =
      subst (λ failed. CountsFaults (faults_in old) (faults_in new) failed) failed_is called.keeps.counts in
      let told : reported_in new ≡ reported_in old + 1 = called.keeps.told_is ∙ ap (reported_after (reported_in old)) failed_is
      ∙ ap (λ (less : Bool). if less then reported_in old + 1 else reported_in old) less_is in
      let more = faults-fault items (faults_in new) in
      let long = length_push (faults_of items) (faults_in new) in
      let below = ltb-true (reported_in old) MAX_FAULTS_REPORTED less_is in
      let told_was = stands.told_is in
      other-step (items ++ Fault (faults_in new) ∷ []) (records-fault items (faults_in new)) after_is
      (subst (λ (counts : List ℕ). reported_in new ≡ length counts) (sym more) (omega (arith, told, told_was, long)))
      (subst (λ (counts : List ℕ). length counts ≤ MAX_FAULTS_REPORTED) (sym more) (omega (arith, below, told_was, long)))
      (subst (λ (counts : List ℕ). RiseTo faults counts (faults_in new)) (sym more)
      (rise-more faults (faults_of items) (faults_in old) (faults_in new) stands.counts counts.never_falls counts.counted))
      (subst (IsLast faults (faults_in new)) (sym more) (λ fewer. sym (last-more faults (faults_of items) (faults_in new))))

  -- so the shard stands for the log with what the answer adds
  pub log-step : (entry : Option Entry) → IsAnsweredBy issuer shard (records_of items) after answer entry
      → StandsForLog new (head_with issuer shard faults first disk)
      (log_after items (added_by entry (is_store_fault answer && ltb (reported_in old) MAX_FAULTS_REPORTED) (faults_in new)))
  log-step None answered = none-step (is_store_fault answer) (ltb (reported_in old) MAX_FAULTS_REPORTED) refl refl answered.records
  log-step (Some entry) answered = record-step entry (answered.apart entry refl) answered.records.0 answered.records.1

  -- and its records are those after the answer
  pub records-after : (entry : Option Entry) (fault : Bool) (count : ℕ) → IsAnsweredBy issuer shard (records_of items) after answer entry
      → records_of (log_after items (added_by entry fault count)) ≡ after
  records-after None true count answered = records-fault items count ∙ sym answered.records
  records-after None false count answered = sym answered.records
  records-after (Some entry) fault count answered = records-record items entry ∙ sym answered.records.0
