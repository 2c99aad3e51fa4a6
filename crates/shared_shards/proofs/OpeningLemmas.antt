-- Shards that were loaded have logs that they open with.
use Rattle.std.proofs.Common.{◌≡◌, ℕ, ◌+◌, zero, suc, List, [], ◌∷◌, length, Some, refl, subst, arith}
use Rattle.std.specs.List.{slice_get}
use Rattle.std.proofs.lemmas.Option.{same_Some, none-some}
use Rattle.issuer_base.specs.declared.outside.store.Store.{Ghosts}
use Rattle.issuer_setup.specs.IssuerSetup.{Setup}
use Rattle.shard_book.specs.declared.shard.Shard.{Shard}
use Rattle.shard_book.specs.Shards.{disk_in, faults_in}
use Rattle.turn_book.specs.declared.logs.Log.{Log}
use Rattle.shared_shards.specs.declared.logs.LogHead.{LogHead}
use Rattle.shared_shards.specs.declared.logs.LogItem.{LogItem}
use Rattle.shared_shards.specs.Opening.{head_with, log_with, IsJustLoaded, AreJustLoaded, IsOpeningLog, AreOpeningLogs}

module _ {S : Type 0} {G : Ghosts S} (issuer : Setup) (olds stores : List S) where
  pub log-of : (number : ℕ) (shard : Shard S G) → IsJustLoaded issuer olds stores number shard → Log LogItem LogHead
  log-of number shard just =
      log_with (head_with issuer number (faults_in shard) (length just.from.loaded.history) (disk_in shard)) just.from.loaded.history

  pub log-of_opens : (number : ℕ) (shard : Shard S G) (just : IsJustLoaded issuer olds stores number shard)
      → IsOpeningLog issuer olds stores number shard (log-of number shard just)
  unfolding log-of
  log-of_opens number shard just = record { just = just; log_is = refl }

  -- the logs of shards from this number on
  pub logs-from : (first : ℕ) (shards : List (Shard S G))
      → ((place : ℕ) (shard : Shard S G) → slice_get shards place ≡ Some shard → IsJustLoaded issuer olds stores (place + first) shard)
      → (logs : List (Log LogItem LogHead)) × (length logs ≡ length shards)
      × ((place : ℕ) (shard : Shard S G) (log : Log LogItem LogHead) → slice_get shards place ≡ Some shard → slice_get logs place ≡ Some log
      → IsOpeningLog issuer olds stores (place + first) shard log)
  logs-from first [] each = ([], refl, λ place shard log there. absurd (none-some shard there))
  logs-from first (shard ∷ shards) each =
      let rest = logs-from (suc first) shards (λ place other there.
      subst (λ number. IsJustLoaded issuer olds stores number other) (omega arith) (each (suc place) other there)) in
      let just = subst (λ number. IsJustLoaded issuer olds stores number shard) (omega arith) (each 0 shard refl) in (
        log-of first shard just ∷ rest.0,
        omega (arith, rest.1),
        λ place.
            elim place as (λ place. (other : Shard S G) (log : Log LogItem LogHead) → slice_get (shard ∷ shards) place ≡ Some other
            → slice_get (log-of first shard just ∷ rest.0) place ≡ Some log → IsOpeningLog issuer olds stores (place + first) other log) [
              | zero ↦ λ other log there is.
                  subst (λ number. IsOpeningLog issuer olds stores number other log) (omega arith)
                  (subst (λ (log : Log LogItem LogHead). IsOpeningLog issuer olds stores first other log) (same_Some (log-of first shard just) log is)
                  (subst (λ (other : Shard S G). IsOpeningLog issuer olds stores first other (log-of first shard just)) (same_Some shard other there)
                  (log-of_opens first shard just)))
              | suc place ↦ λ other log there is.
                  subst (λ number. IsOpeningLog issuer olds stores number other log) (omega arith) (rest.2 place other log there is)
            ],
      )

  pub logs-open : (shards : List (Shard S G)) → AreJustLoaded issuer olds stores shards
      → (logs : List (Log LogItem LogHead)) × AreOpeningLogs issuer olds stores shards logs
  logs-open shards just =
      let logs =
      logs-from 0 shards (λ place shard there. subst (λ number. IsJustLoaded issuer olds stores number shard) (omega arith) (just.each place shard there)) in (
        logs.0,
        record {
          count_is = logs.1;
          each = λ number shard log there is.
              subst (λ number. IsOpeningLog issuer olds stores number shard log) (omega arith) (logs.2 number shard log there is);
        },
      )
