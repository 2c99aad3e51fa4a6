-- The shards of a host in lists: as they come in they stand for their opening logs, and as they go out each stands for its own.
use Rattle.std.proofs.Common.{◌≡◌, ℕ, zero, suc, ◌<◌, ◌≤◌, List, [], ◌∷◌, ◌++◌, length}
use Rattle.std.proofs.Common.{map, take, reverse, Some, append_assoc, refl, sym, ap, subst, ◌∙◌, arith}
use Rattle.std.specs.List.{slice_get}
use Rattle.std.proofs.lemmas.List.{length-map, length_push, reverse-append}
use Rattle.std.proofs.lemmas.Option.{same_Some, none-some, slice_get_within}
use Rattle.issuer_base.specs.Stores.{BothTold, LeavesOnly}
use Rattle.issuer_base.specs.declared.entry.Entry.{Entry}
use Rattle.issuer_base.specs.declared.limits.TheConstants.{MAX_FAULTS_REPORTED}
use Rattle.issuer_base.specs.declared.outside.store.Store.{Ghosts}
use Rattle.card_history.specs.LegalRecords.{IsLegalHistory}
use Rattle.issuer_setup.specs.IssuerSetup.{Setup}
use Rattle.shard_book.specs.declared.shard.Shard.{Shard}
use Rattle.shard_book.specs.Grounds.{grounds_now, grounds_of}
use Rattle.shard_book.specs.Shards.{number_in, disk_in, faults_in, HoldsHistory, StandsFor}
use Rattle.shard_book.proofs.ShardSteps.{crash-no_call}
use Rattle.turn_book.specs.declared.logs.Log.{Log}
use Rattle.turn_book.specs.Logs.{heads_of, StandFor}
use Rattle.shared_shards.specs.declared.locked_shard.LockedShard.{LockedShard}
use Rattle.shared_shards.specs.declared.logs.LogHead.{LogHead}
use Rattle.shared_shards.specs.declared.logs.LogItem.{LogItem}
use Rattle.shared_shards.specs.declared.logs.LogItem.TheVariants.{Record}
use Rattle.shared_shards.specs.declared.turns.ShardTurns.{ShardTurns}
use Rattle.shard_book.specs.Histories.{IsImageBetween}
use Rattle.shared_shards.specs.Opening.{head_with, IsJustLoaded, AreJustLoaded, IsOpeningLog, AreOpeningLogs}
use Rattle.shared_shards.specs.ShardLogs.{RiseTo, last_count, StandsForLog}
use Rattle.shared_shards.specs.ShardSeats.{opening_in, AreTurnsOf, StandForLogs}
use Rattle.shared_shards.proofs.LogSteps.{records-alone, faults-alone}
use Rattle.shared_shards.proofs.Since.{since-opened}

-- one more of a list
pub take-next : {X : Type 0} (xs : List X) (place : ℕ) (x : X) → slice_get xs place ≡ Some x → take (suc place) xs ≡ take place xs ++ x ∷ []
take-next [] place x is = absurd (none-some x is)
take-next (first ∷ xs) zero x is = ap (λ x. x ∷ []) (same_Some first x is)
take-next (first ∷ xs) (suc place) x is = λ i. first ∷ take-next xs place x is i

pub map-push : {X Y : Type 0} (f : X → Y) (xs : List X) (x : X) → map f (xs ++ x ∷ []) ≡ map f xs ++ f x ∷ []
map-push f [] x = refl
map-push f (first ∷ xs) x = λ i. f first ∷ map-push f xs x i

-- what stands behind the first ones is at their number
pub read-next : {X : Type 0} (before : List X) (x : X) (behind : List X) → slice_get (before ++ x ∷ behind) (length before) ≡ Some x
read-next [] x behind = refl
read-next (first ∷ before) x behind = read-next before x behind

pub read-heads : {I B : Type 0} (logs : List (Log I B)) (number : ℕ) (head : B) → slice_get (heads_of logs) number ≡ Some head
    → (log : Log I B) × (slice_get logs number ≡ Some log) × (log.head ≡ head)
read-heads [] number head is = absurd (none-some head is)
read-heads (log ∷ logs) zero head is = (log, refl, same_Some log.head head is)
read-heads (log ∷ logs) (suc number) head is = read-heads logs number head is

read-within : {X : Type 0} (xs : List X) (place : ℕ) → place < length xs → (x : X) × (slice_get xs place ≡ Some x)
read-within [] place within = absurd (omega arith)
read-within (x ∷ xs) zero within = (x, refl)
read-within (x ∷ xs) (suc place) within = read-within xs place (omega arith)

length-alone : (history : List Entry) → length (map Record history) ≡ length history
length-alone [] = refl
length-alone (entry ∷ history) = omega (arith, length-alone history)

module _ {S : Type 0} {G : Ghosts S} where
  -- a log has as many items as its shard has records
  pub opening-length : (issuer : Setup) (olds stores : List S) (number : ℕ) (shard : Shard S G) (log : Log LogItem LogHead) (places : ℕ)
      → IsOpeningLog issuer olds stores number shard log
      → ((issuer : Setup) (history : List Entry) → StandsFor issuer shard history → places ≡ length history) → places ≡ length log.items
  opening-length issuer olds stores number shard log places opening counted =
      counted issuer opening.just.from.loaded.history opening.just.from.loaded.stands
      ∙ sym (ap (λ (log : Log LogItem LogHead). length log.items) opening.log_is ∙ length-alone opening.just.from.loaded.history)

  -- a shard that was just loaded stands for its opening log
  opening-stands_for : (issuer : Setup) (olds stores : List S) (number : ℕ) (shard : Shard S G) → IsJustLoaded issuer olds stores number shard
      → (history : List Entry) → IsLegalHistory (grounds_of issuer) number history → StandsFor issuer shard history
      → number_in shard ≡ number → StandsForLog shard (head_with issuer number (faults_in shard) (length history) (disk_in shard)) (map Record history)
  opening-stands_for issuer olds stores number shard just history legal stands number_is =
      let same = records-alone history in
      let none = faults-alone history in
      let untold = just.from.untold in
      record {
        number_is = number_is;
        under = just.from.under;
        stands = subst (StandsFor issuer shard) (sym same) stands;
        legal = subst (IsLegalHistory (grounds_of issuer) number) (sym same) legal;
        opened = subst (λ (records : List Entry). length history ≤ length records) (sym same) (omega arith);
        by_table = λ place entry past is.
            let within = slice_get_within history place entry (subst (λ (records : List Entry). slice_get records place ≡ Some entry) same is) in
            absurd (omega arith);
        told_is = untold ∙ sym (ap (λ (counts : List ℕ). length counts) none);
        few = subst (λ (counts : List ℕ). length counts ≤ MAX_FAULTS_REPORTED) (sym none) (omega arith);
        undoubted = just.from.undoubted;
        counts = subst (λ (counts : List ℕ). RiseTo (faults_in shard) counts (faults_in shard)) (sym none)
            (let least : faults_in shard ≤ faults_in shard = omega arith in least);
        last_is = subst (λ (counts : List ℕ). length counts < MAX_FAULTS_REPORTED → faults_in shard ≡ last_count (faults_in shard) counts) (sym none)
            (λ fewer. refl);
        since = subst (λ (records : List Entry). BothTold (LeavesOnly (IsImageBetween issuer number (take (length history) records) records))
            (disk_in shard) (disk_in shard)) (sym same)
            (since-opened issuer number (length history) history (disk_in shard) (disk_in shard)
            (crash-no_call (grounds_now issuer) number shard.journal history
            (subst (λ (number : ℕ). HoldsHistory (grounds_now issuer) number shard.journal history) number_is stands.journal_holds)));
      }

  pub opening-stands : (issuer : Setup) (olds stores : List S) (number : ℕ) (shard : Shard S G) (log : Log LogItem LogHead)
      → IsJustLoaded issuer olds stores number shard
      → IsOpeningLog issuer olds stores number shard log → StandsForLog shard log.head log.items
  opening-stands issuer olds stores number shard log just opening =
      subst (λ (log : Log LogItem LogHead). StandsForLog shard log.head log.items) (sym opening.log_is)
      (opening-stands_for issuer olds stores number shard just opening.just.from.loaded.history opening.just.from.loaded.journal_is.since.legal opening.just.from.loaded.stands opening.just.from.loaded.number_is)

  -- values that stand for logs one by one stand for them all
  pub stand-for : (held : List (LockedShard S G)) (logs : List (Log LogItem LogHead)) → length held ≡ length logs
      → ((number : ℕ) (shard : Shard S G) (log : Log LogItem LogHead) → slice_get (map (λ (held : LockedShard S G). held.shard) held) number ≡ Some shard
      → slice_get logs number ≡ Some log → StandsForLog shard log.head log.items)
      → StandFor (λ (held : LockedShard S G) head items. StandsForLog held.shard head items) held logs
  stand-for [] [] long each = tt
  stand-for [] (log ∷ logs) long each = absurd (omega arith)
  stand-for (first ∷ held) [] long each = absurd (omega arith)
  stand-for (first ∷ held) (log ∷ logs) long each =
      (each 0 first.shard log refl refl, stand-for held logs (omega arith) (λ number. each (suc number)))

  -- so do those of shards that were just loaded
  pub held-stand : (issuer : Setup) (olds stores : List S) (shards : List (Shard S G)) (logs : List (Log LogItem LogHead)) (held : List (LockedShard S G))
      → AreJustLoaded issuer olds stores shards → AreOpeningLogs issuer olds stores shards logs → map (λ (held : LockedShard S G). held.shard) held ≡ shards
      → StandFor (λ (held : LockedShard S G) head items. StandsForLog held.shard head items) held logs
  held-stand issuer olds stores shards logs held just opening are =
      let long = length-map held (λ (held : LockedShard S G). held.shard) in
      let same = ap (λ (shards : List (Shard S G)). length shards) are in
      let count = opening.count_is in
      stand-for held logs (omega (arith, long, same, count)) (λ number shard log there is.
      let its : slice_get shards number ≡ Some shard = ap (λ (shards : List (Shard S G)). slice_get shards number) (sym are) ∙ there in
      opening-stands issuer olds stores number shard log (just.each number shard its) (opening.each number shard log its is))

  -- and values that stand for logs stand for each
  pub stand-each : (held : List (LockedShard S G)) (logs : List (Log LogItem LogHead))
      → StandFor (λ (held : LockedShard S G) head items. StandsForLog held.shard head items) held logs
      → StandForLogs (map (λ (held : LockedShard S G). held.shard) held) logs
  stand-each [] [] all = record { count_is = refl; each = λ number shard log there. absurd (none-some shard there) }
  stand-each [] (log ∷ logs) all = absurd all
  stand-each (first ∷ held) [] all = absurd all
  stand-each (first ∷ held) (log ∷ logs) all =
      let rest = stand-each held logs all.1 in
      let count = rest.count_is in
      record {
        count_is = omega (arith, count);
        each = λ number.
            elim number as (λ number. (shard : Shard S G) (other : Log LogItem LogHead)
            → slice_get (first.shard ∷ map (λ (held : LockedShard S G). held.shard) held) number ≡ Some shard → slice_get (log ∷ logs) number ≡ Some other
            → StandsForLog shard other.head other.items) [
              | zero ↦ λ shard other there is.
                  subst (λ (other : Log LogItem LogHead). StandsForLog shard other.head other.items) (same_Some log other is)
                  (subst (λ (shard : Shard S G). StandsForLog shard log.head log.items) (same_Some first.shard shard there) all.0)
              | suc number ↦ rest.each number
            ];
      }

  -- turns that open with the shards' logs are this issuer's
  pub are-turns_of : (issuer : Setup) (olds stores : List S) (shards : List (Shard S G)) (turns : ShardTurns S G) → AreJustLoaded issuer olds stores shards
      → AreOpeningLogs issuer olds stores shards (opening_in turns) → AreTurnsOf issuer turns
  are-turns_of issuer olds stores shards turns just opening = record {
    count_is = opening.count_is ∙ just.count_is;
    heads_are = λ number head is.
        let log = read-heads (opening_in turns) number head is in
        let within = slice_get_within (opening_in turns) number log.0 log.1 in
        let count = opening.count_is in
        let shard = read-within shards number (omega arith) in
        let its = opening.each number shard.0 log.0 shard.1 log.1 in
        let head_is : head ≡ head_with issuer number (faults_in shard.0) (length its.just.from.loaded.history) (disk_in shard.0) =
        sym log.2 ∙ ap (λ (log : Log LogItem LogHead). log.head) its.log_is in
        subst (λ (head : LogHead). head ≡ head_with issuer number head.faults head.records head.opened) (sym head_is) refl;
  }

  -- one shard more is held
  pub held-next : (shards : List (Shard S G)) (held : List (LockedShard S G)) (next : LockedShard S G) (left : List (Shard S G))
      → map (λ (held : LockedShard S G). held.shard) held ++ next.shard ∷ left ≡ shards
      → map (λ (held : LockedShard S G). held.shard) (held ++ next ∷ []) ++ left ≡ shards
  held-next shards held next left all =
      ap (λ (front : List (Shard S G)). front ++ left) (map-push (λ (held : LockedShard S G). held.shard) held next)
      ∙ append_assoc (map (λ (held : LockedShard S G). held.shard) held) (next.shard ∷ []) left ∙ all

  pub counts-next : (issuer : Setup) (olds stores : List S) (shards : List (Shard S G)) (logs : List (Log LogItem LogHead))
      → AreOpeningLogs issuer olds stores shards logs
      → (held : List (LockedShard S G)) (next : LockedShard S G) (left : List (Shard S G)) (counts : List ℕ) (places : ℕ)
      → map (λ (held : LockedShard S G). held.shard) held ++ next.shard ∷ left ≡ shards
      → counts ≡ map (λ (log : Log LogItem LogHead). length log.items) (take (length held) logs)
      → ((issuer : Setup) (history : List Entry) → StandsFor issuer next.shard history → places ≡ length history)
      → counts ++ places ∷ [] ≡ map (λ (log : Log LogItem LogHead). length log.items) (take (length (held ++ next ∷ [])) logs)
  counts-next issuer olds stores shards logs opening held next left counts places all counts_are counted =
      let size : Log LogItem LogHead → ℕ = λ (log : Log LogItem LogHead). length log.items in
      let front : List (Shard S G) = map (λ (held : LockedShard S G). held.shard) held in
      let long : length front ≡ length held = length-map held (λ (held : LockedShard S G). held.shard) in
      let there : slice_get shards (length held) ≡ Some next.shard =
      subst (λ (shards : List (Shard S G)). slice_get shards (length held) ≡ Some next.shard) all
      (subst (λ place. slice_get (front ++ next.shard ∷ left) place ≡ Some next.shard) long (read-next front next.shard left)) in
      let within = slice_get_within shards (length held) next.shard there in
      let many = opening.count_is in
      let log = read-within logs (length held) (omega arith) in
      let opens = opening.each (length held) next.shard log.0 there log.1 in
      let count : places ≡ size log.0 = opening-length issuer olds stores (length held) next.shard log.0 places opens counted in
      let more : length (held ++ next ∷ []) ≡ suc (length held) = omega (arith, length_push held next) in
      ap (λ (counts : List ℕ). counts ++ places ∷ []) counts_are
      ∙ ap (λ count. map size (take (length held) logs) ++ count ∷ []) count
      ∙ sym (map-push size (take (length held) logs) log.0)
      ∙ ap (map size) (sym (take-next logs (length held) log.0 log.1) ∙ sym (ap (λ n. take n logs) more))

-- the last of a list that is taken from its end is the next of the list in reverse
pub next-ahead : {X : Type 0} (ahead left : List X) (x : X) → ahead ≡ left ++ x ∷ [] → reverse ahead ≡ x ∷ reverse left
next-ahead ahead left x parts = ap reverse parts ∙ reverse-append left (x ∷ [])
