-- Shards that were loaded, as callers share them: their logs, and the ATCs that are recorded.
use Rattle.std.proofs.Common.{◌≡◌, ℕ, zero, suc, ◌+◌, ◌%◌, ◌<◌, ◌≤◌, List, [], ◌∷◌, length, map, Option, false, ◌&&◌, eqb, Some, get_or}
use Rattle.std.proofs.Common.{refl, sym, ap, ◌∙◌, subst, arith}
use Rattle.std.proofs.Math.Nat.{mod-lt}
use Rattle.std.proofs.lemmas.List.{length-map}
use Rattle.std.proofs.lemmas.Bool.{and_from, eq-eqb}
use Rattle.std.proofs.lemmas.Option.{same_Some, slice_get_within}
use Rattle.std.specs.List.{slice_get}
use Rattle.counter_bits.specs.CounterSets.{times}
use Rattle.counter_bits.proofs.Listing.{times-append}
use Rattle.issuer_base.specs.OutsideFaults.{CountsFaults}
use Rattle.issuer_base.specs.Stores.{BothTold, Disk, LeavesOnly}
use Rattle.issuer_base.specs.declared.entry.Entry.{Entry}
use Rattle.issuer_base.specs.declared.outside.store.Store.{Ghosts}
use Rattle.issuer_setup.specs.CardList.{AreCards}
use Rattle.issuer_setup.specs.IssuerSetup.{Setup}
use Rattle.shared_seats.specs.Totals.{one_if}
use Rattle.claim_words.specs.ClaimViews.{times as times_claimed}
use Rattle.turn_book.specs.declared.logs.Log.{Log}
use Rattle.turn_book.specs.Logs.{items_at}
use Rattle.shard_book.specs.declared.shard.Shard.{Shard}
use Rattle.shard_book.specs.Shards.{disk_in, faults_in, store_in, IsLoadImage}
use Rattle.shared_shards.specs.declared.logs.LogItem.{LogItem}
use Rattle.shared_shards.specs.declared.logs.LogItem.TheVariants.{Record}
use Rattle.shared_shards.specs.declared.logs.LogHead.{LogHead}
use Rattle.shared_shards.specs.ShardLogs.{records_of}
use Rattle.shared_shards.specs.Opening.{head_with, log_with, AreJustLoaded, IsOpeningLog, AreOpeningLogs}
use Rattle.shard_book.specs.declared.replay.LoadFault.TheVariants.{NoMemory}
use Rattle.host_loading.specs.Loading.{AreLoaded, IsGivenBack}
use Rattle.host_loading.proofs.Loads.{given-back, shard-of}
use Rattle.shared_laws.specs.OpeningLogs.{IsOpenedFrom, AreOpenedFrom, AreCounted, AllComeBack, is_decided}
use Rattle.host_calls.specs.RecordedCounters.{AreStanding, AreRecordedOf}
use Rattle.host_calls.proofs.OpeningCounters.{as-decided}
use Rattle.host_loading.proofs.Places.{read-within, read-map}

-- the two counts of a pair in a list are one
times-alike : (card counter : ℕ) (list : List (ℕ × ℕ)) → times_claimed card counter list ≡ times card counter list
unfolding times
times-alike card counter [] = refl
times-alike card counter (pair ∷ list) =
    let one : times card counter (pair ∷ []) ≡ 0 + one_if (eqb pair.0 card && eqb pair.1 counter) = refl in
    omega (arith, one, times-append card counter (pair ∷ []) list, times-alike card counter list)

-- a pair that stands in a list is counted there
times-some : (list : List (ℕ × ℕ)) (place : ℕ) (d : ℕ × ℕ) → place < length list
    → 0 < times_claimed (get_or list place d).0 (get_or list place d).1 list
times-some [] place d below = absurd (omega arith)
times-some (pair ∷ list) zero d below =
    omega (arith, ap one_if (and_from (eqb pair.0 pair.0) (eqb pair.1 pair.1) (eq-eqb pair.0 pair.0 refl) (eq-eqb pair.1 pair.1 refl)))
times-some (pair ∷ list) (suc place) d below =
    let rest = times-some list place d (omega arith) in
    omega arith

pub items-there : (logs : List (Log LogItem LogHead)) (shard : ℕ) (log : Log LogItem LogHead)
    → slice_get logs shard ≡ Some log → items_at logs shard ≡ log.items
items-there [] shard log is = absurd (cc)
items-there (first ∷ logs) zero log is = ap (λ (log : Log LogItem LogHead). log.items) (same_Some first log is)
items-there (first ∷ logs) (suc shard) log is = items-there logs shard log is

-- the log of one shard, which was loaded from the stores at its index
log-opened : {S : Type 0} {G : Ghosts S} (issuer : Setup) (olds stores : List S) (number : ℕ) (old old_then store : S) (shard : Shard S G)
    (log : Log LogItem LogHead)
    → slice_get olds number ≡ Some old → slice_get stores number ≡ Some store → CountsFaults (G.faults old) (G.faults old_then) false
    → IsOpeningLog issuer olds stores number shard log → IsOpenedFrom G.bytes G.disk G.faults issuer number old old_then store log
log-opened {S} {G} issuer olds stores number old old_then store shard log old_is store_is old_counts its =
    let just = its.just in
    let loaded = just.from.loaded in
    let history : List Entry = loaded.history in
    let faults : log.head.faults ≡ faults_in shard = ap (λ (log : Log LogItem LogHead). log.head.faults) its.log_is in
    let opened : log.head.opened ≡ disk_in shard = ap (λ (log : Log LogItem LogHead). log.head.opened) its.log_is in
    subst (λ (old : S). CountsFaults (G.faults old) (G.faults old_then) false → IsOpenedFrom G.bytes G.disk G.faults issuer number old old_then store log)
    (same_Some just.old old (sym just.old_is ∙ old_is))
    (λ old_counts.
    subst (λ (store : S). IsOpenedFrom G.bytes G.disk G.faults issuer number just.old old_then store log)
    (same_Some just.store store (sym just.store_is ∙ store_is)) (record {
      old_history = loaded.old;
      history = history;
      journal_is = loaded.journal_is;
      log_is = its.log_is ∙ ap (λ (faults : ℕ). log_with (head_with issuer number faults (length history) (disk_in shard)) history) (sym faults)
          ∙ ap (λ (disk : Option Disk). log_with (head_with issuer number log.head.faults (length history) disk) history) (sym opened);
      leaves = subst (λ (disk : Option Disk). BothTold (λ before after. LeavesOnly (IsLoadImage loaded.old history before.now) before after)
          (G.disk just.store) disk) (sym opened) just.from.leaves;
      old_counts = old_counts;
      counts = subst (λ (now : ℕ). CountsFaults (G.faults just.store) now false) (sym faults) just.from.counts;
    }))
    old_counts

records-map : (history : List Entry) → records_of (map Record history) ≡ history
records-map [] = refl
records-map (entry ∷ history) = λ i. entry ∷ records-map history i

module _ {S : Type 0} {G : Ghosts S} (issuer : Setup) (olds read stores : List S)
    (shards : List (Shard S G)) (count : length stores ≡ issuer.shards) (some : 0 < issuer.shards)
    (loaded : AreLoaded issuer olds read stores shards) where
  pub loaded-standing : AreStanding issuer shards
  loaded-standing = record {
    count_is = loaded.count_is ∙ count;
    numbers_are = λ number shard is. (shard-of issuer olds read stores shards loaded number shard is).from.loaded.number_is;
    stand = λ number shard is.
        let its = (shard-of issuer olds read stores shards loaded number shard is).from.loaded in
        (its.history, its.stands);
  }

  pub loaded-just : AreJustLoaded issuer olds stores shards
  loaded-just = record {
    count_is = loaded.count_is ∙ count;
    each = λ number shard shard_is.
        let its = shard-of issuer olds read stores shards loaded number shard shard_is in
        record { old = its.old; old_then = its.old_then; store = its.store; old_is = its.old_is; store_is = its.store_is; from = its.from };
  }

  module _ (list : List (ℕ × ℕ)) (recorded : AreRecordedOf issuer shards (length shards) list) where
    pub list-once : (card counter : ℕ) → times_claimed card counter list ≤ 1
    list-once card counter = omega (arith, times-alike card counter list, recorded.once card counter)

    -- each pair is one of the issuer's cards
    pub list-known : (place : ℕ) (d : ℕ × ℕ) → place < length list → (get_or list place d).0 < length issuer.cards
    list-known place d below =
        let pair : ℕ × ℕ = get_or list place d in
        let there : 0 < times pair.0 pair.1 list = omega (arith, times-alike pair.0 pair.1 list, times-some list place d below) in
        let home = recorded.home pair.0 pair.1 there in
        let shard = read-within shards (pair.0 % issuer.shards) home in
        let stands = loaded-standing.stand (pair.0 % issuer.shards) shard.0 shard.1 in
        let its = (recorded.exact pair.0 pair.1 shard.0 stands.0 home shard.1 stands.1).0 there in
        slice_get_within issuer.cards pair.0 its.card its.card_is

  module _ (logs : List (Log LogItem LogHead)) (opening : AreOpeningLogs issuer olds stores shards logs) where
    pub logs-opened : AreOpenedFrom G.bytes G.disk G.faults issuer olds read stores logs
    logs-opened = record {
      olds_are = loaded.olds_are;
      read_are = loaded.read_are;
      count_is = opening.count_is ∙ loaded.count_is;
      each = λ number old old_then store log old_is then_is store_is log_is.
          let below = slice_get_within stores number store store_is in
          let shard = read-within shards number (omega (arith, loaded.count_is)) in
          log-opened issuer olds stores number old old_then store shard.0 log old_is store_is
          (loaded.each number old old_then store shard.0 old_is then_is store_is shard.1).old_counts (opening.each number shard.0 log shard.1 log_is);
    }

    module _ (valid : AreCards issuer.cards) (list : List (ℕ × ℕ)) (recorded : AreRecordedOf issuer shards (length shards) list) where
      -- the list tells whether the opening log of a card's shard has a decision on the ATC
      pub list-decided : (card counter : ℕ) → times_claimed card counter list ≡ one_if (is_decided issuer (items_at logs (card % issuer.shards)) card counter)
      list-decided card counter =
          let home : ℕ = card % issuer.shards in
          let below : home < issuer.shards = mod-lt card some in
          let shard = read-within shards home (omega (arith, below, count, loaded.count_is)) in
          let log = read-within logs home (omega (arith, below, count, loaded.count_is, opening.count_is)) in
          let its = opening.each home shard.0 log.0 shard.1 log.1 in
          let items : items_at logs home ≡ map Record its.just.from.loaded.history =
          items-there logs home log.0 log.1 ∙ ap (λ (log : Log LogItem LogHead). log.items) its.log_is in
          let exact = recorded.exact card counter shard.0 its.just.from.loaded.history (omega (arith, below, count, loaded.count_is)) shard.1
          its.just.from.loaded.stands in
          times-alike card counter list
          ∙ as-decided issuer card counter its.just.from.loaded.history (times card counter list) valid (recorded.once card counter) exact
          ∙ ap (λ (items : List LogItem). one_if (is_decided issuer items card counter)) (sym items)

-- the stores of shards that were loaded come back
pub all-come-back : {S : Type 0} {G : Ghosts S} (issuer : Setup) (olds read stores : List S) (shards : List (Shard S G))
    → AreLoaded issuer olds read stores shards
    → AllComeBack G.bytes G.disk G.faults issuer olds read stores 0 NoMemory (map (λ (shard : Shard S G). store_in shard) shards)
all-come-back {S} {G} issuer olds read stores shards loaded =
    let kept : Shard S G → S = λ shard. store_in shard in
    record {
      olds_are = loaded.olds_are;
      read_are = loaded.read_are;
      count_is = length-map shards kept ∙ loaded.count_is;
      first = refl;
      fault_is = refl;
      each = λ number old old_then store after old_is then_is is after_is.
          let below = slice_get_within stores number store is in
          let shard = read-within shards number (omega (arith, loaded.count_is)) in
          let its : store_in shard.0 ≡ after = same_Some (store_in shard.0) after (sym (read-map kept shards number shard.0 shard.1) ∙ after_is) in
          subst (λ (after : S). IsGivenBack G.bytes G.disk G.faults issuer number old old_then store after) its
          (given-back issuer number old old_then store shard.0 (loaded.each number old old_then store shard.0 old_is then_is is shard.1));
    }

-- each log was opened from stores
pub log-from : {S : Type 0} (bytes : S → Option (List ℕ)) (disk : S → Option Disk) (faults : S → ℕ) (issuer : Setup)
    (olds read stores : List S) (logs : List (Log LogItem LogHead)) → AreOpenedFrom bytes disk faults issuer olds read stores logs
    → (number : ℕ) (log : Log LogItem LogHead) → slice_get logs number ≡ Some log
    → (old old_then store : S) × IsOpenedFrom bytes disk faults issuer number old old_then store log
log-from bytes disk faults issuer olds read stores logs opened number log is =
    let below = slice_get_within logs number log is in
    let count = opened.count_is in
    let old = read-within olds number (omega (arith, below, count, opened.olds_are)) in
    let old_then = read-within read number (omega (arith, below, count, opened.read_are)) in
    let store = read-within stores number (omega (arith, below, count)) in
    (old.0, old_then.0, store.0, opened.each number old.0 old_then.0 store.0 log old.1 old_then.1 store.1 is)

-- the heads of logs that were opened so tell how many records they have
pub opened-counted : {S : Type 0} (bytes : S → Option (List ℕ)) (disk : S → Option Disk) (faults : S → ℕ) (issuer : Setup)
    (olds read stores : List S) (logs : List (Log LogItem LogHead))
    → AreOpenedFrom bytes disk faults issuer olds read stores logs → AreCounted logs
opened-counted bytes disk faults issuer olds read stores logs opened number log is =
    let its = (log-from bytes disk faults issuer olds read stores logs opened number log is).3 in
    ap (λ (log : Log LogItem LogHead). log.head.records) its.log_is
    ∙ sym (ap (λ (log : Log LogItem LogHead). length (records_of log.items)) its.log_is
    ∙ ap (λ (entries : List Entry). length entries) (records-map its.history))
