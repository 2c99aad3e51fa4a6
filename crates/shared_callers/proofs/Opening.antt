-- The initial state of a host of several callers.
use Rattle.std.proofs.Common.{◌≡◌, ℕ, zero, suc, List, [], ◌∷◌, map, Some, Option, refl, ap, ◌∙◌}
use Rattle.std.specs.List.{slice_get}
use Rattle.issuer_base.specs.Stores.{Disk}
use Rattle.issuer_base.specs.declared.entry.Entry.{Entry}
use Rattle.issuer_setup.specs.IssuerSetup.{Setup}
use Rattle.turn_book.specs.declared.logs.Log.{Log}
use Rattle.turn_book.specs.Logs.{items_at}
use Rattle.shared_shards.specs.declared.logs.LogItem.{LogItem}
use Rattle.shared_shards.specs.declared.logs.LogItem.TheVariants.{Record}
use Rattle.shared_shards.specs.declared.logs.LogHead.{LogHead}
use Rattle.shared_shards.specs.ShardLogs.{faults_of}
use Rattle.shared_laws.specs.OpeningLogs.{AreOpenedFrom}
use Rattle.host_calls.proofs.Sharing.{log-from}

plain-map : (history : List Entry) → faults_of (map Record history) ≡ []
plain-map [] = refl
plain-map (entry ∷ history) = plain-map history

-- each of the logs has records alone
plain-each : (logs : List (Log LogItem LogHead)) → ((number : ℕ) (log : Log LogItem LogHead) → slice_get logs number ≡ Some log → faults_of log.items ≡ [])
    → (shard : ℕ) → faults_of (items_at logs shard) ≡ []
plain-each [] each shard = refl
plain-each (log ∷ logs) each zero = each 0 log refl
plain-each (log ∷ logs) each (suc shard) = plain-each logs (λ number. each (suc number)) shard

-- so it is with logs that were opened from stores
pub opened-plain : {S : Type 0} (bytes : S → Option (List ℕ)) (disk : S → Option Disk) (faults : S → ℕ) (issuer : Setup)
    (olds read stores : List S) (logs : List (Log LogItem LogHead))
    → AreOpenedFrom bytes disk faults issuer olds read stores logs → (shard : ℕ) → faults_of (items_at logs shard) ≡ []
opened-plain bytes disk faults issuer olds read stores logs opened =
    plain-each logs (λ number log is.
    let its = (log-from bytes disk faults issuer olds read stores logs opened number log is).3 in
    ap (λ (log : Log LogItem LogHead). faults_of log.items) its.log_is ∙ plain-map its.history)
