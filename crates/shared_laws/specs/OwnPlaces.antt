-- Which answers of all callers belong to which records of the shards, and which report a fault.
use Rattle.std.specs.Prelude.{◌≡◌, ◌≢◌, ℕ, ◌+◌, ◌<◌, ◌≤◌, List, ◌∷◌, length, slice_get, Bool, true, false, ◌==◌, ◌&&◌}
use Rattle.std.specs.Prelude.{Some, Result, Ok, Err}
use Rattle.issuer_base.specs.declared.request.Request.{Request}
use Rattle.issuer_base.specs.declared.answer.Answer.{Answer}
use Rattle.issuer_base.specs.declared.entry.Entry.{Entry}
use Rattle.issuer_base.specs.declared.answer.Answer.TheVariants.{Fresh, Kept, Queued, Set, Refused}
use Rattle.issuer_base.specs.declared.answer.Refusal.{Refusal}
use Rattle.issuer_base.specs.declared.answer.Refusal.TheVariants.{Taken, Pending, StoreFault}
use Rattle.issuer_base.specs.declared.limits.TheConstants.{MAX_FAULTS_REPORTED}
use Rattle.card_history.specs.declared.decision.Asked.{Asked}
use Rattle.card_history.specs.declared.decision.Asked.TheVariants.{Decide, Queue, Status}
use Rattle.issuer_base.specs.CardNames.{named}
use Rattle.card_history.specs.Records.{card_of}
use Rattle.issuer_setup.specs.IssuerSetup.{Setup, shard_of}
use Rattle.line_checks.specs.Reading.{reading}
use Rattle.shared_seats.specs.Totals.{total, how_many, one_if}
use Rattle.shard_book.specs.Answering.{is_store_fault}
use Rattle.turn_book.specs.declared.logs.Log.{Log}
use Rattle.turn_book.specs.Logs.{items_at}
use Rattle.turn_book.specs.TurnRule.{between}
use Rattle.shared_shards.specs.declared.logs.LogItem.{LogItem}
use Rattle.shared_shards.specs.declared.logs.LogHead.{LogHead}
use Rattle.shared_shards.specs.ShardLogs.{faults_of}
use Rattle.one_caller.specs.OneHistory.{IsAnswered}
use Rattle.shared_laws.specs.Shares.{Share, IsAnsweredOn}
use Rattle.shared_laws.specs.Explained.{IsDecidedOn}

-- how many faults a shard's log has
abbrev pub faults_at : List (Log LogItem LogHead) → ℕ → ℕ
faults_at logs shard = length (faults_of (items_at logs shard))

-- whether the answer names a new record at this index of this shard
abbrev pub is_record_at : ℕ → ℕ → Answer → Bool
is_record_at shard place (Fresh at here reply) = (at == shard) && (here == place)
is_record_at shard place (Queued at here) = (at == shard) && (here == place)
is_record_at shard place (Set at here) = (at == shard) && (here == place)
is_record_at shard place _ = false

-- how many answers in the shares name a new record at this index of this shard
abbrev pub answers_at : ℕ → ℕ → List Share → ℕ
answers_at shard place shares = total (λ share. how_many (is_record_at shard place) share.answers) shares

-- whether what a line asks is for a card of this shard
abbrev pub is_for_shard : Setup → ℕ → Result Asked Refusal → Bool
is_for_shard issuer shard (Ok (Decide request)) = shard_of issuer (card_of request) == shard
is_for_shard issuer shard (Ok (Queue pan psn command)) = shard_of issuer (named pan psn) == shard
is_for_shard issuer shard (Ok (Status pan psn status)) = shard_of issuer (named pan psn) == shard
is_for_shard issuer shard (Err refusal) = false

-- how many of these answers to these lines report that the store of this shard failed
abbrev pub faults_reported : Setup → ℕ → List (List ℕ) → List Answer → ℕ
faults_reported issuer shard (line ∷ lines) (answer ∷ answers) =
    one_if (is_for_shard issuer shard (reading issuer line)
    && is_store_fault answer) + faults_reported issuer shard lines answers
faults_reported issuer shard _ _ = 0

-- how many answers in the shares report that the store of this shard failed
abbrev pub all_faults_reported : Setup → ℕ → List Share → ℕ
all_faults_reported issuer shard shares = total (λ share. faults_reported issuer shard share.lines share.answers) shares

-- whether the answer to a request shows a record of its ATC
abbrev pub shows_record : Answer → Bool
shows_record (Fresh shard place reply) = true
shows_record (Kept shard place reply) = true
shows_record (Refused (Taken shard place)) = true
shows_record _ = false

-- `Pending` is right for the line at this index of a share, a request that passes the checks: some line on its ATC
-- has another answer, the first history has no decision on it, and no earlier line of the share showed one
pub record IsPending (issuer : Setup) (first : ℕ → List Entry) (shares : List Share) (share : Share)
    (index : ℕ) : Type 0 where
  pub request : Request
  pub answered : IsAnswered issuer share.lines share.answers index request (Refused Pending)
  pub elsewhere : (answer : Answer) × IsAnsweredOn issuer shares (card_of request) request.atc answer
      × (answer ≢ Refused Pending)
  pub unopened : IsDecidedOn (card_of request) request.atc (first (shard_of issuer (card_of request))) → ⊥
  pub unshown : (earlier : ℕ) (other : Request) (answer : Answer) → earlier < index
      → IsAnswered issuer share.lines share.answers earlier other answer → card_of other ≡ card_of request
      → other.atc ≡ request.atc → shows_record answer ≡ false

-- the line at this index of a share passes the checks
pub record LinePasses (issuer : Setup) (share : Share) (index : ℕ) : Type 0 where
  pub line : List ℕ
  pub line_is : slice_get share.lines index ≡ Some line
  pub asked : Asked
  pub asked_is : reading issuer line ≡ Ok asked

-- the answers in the shares and the records, by the first and the last history of each shard, and by how many of its
-- faults were counted, up to the limit
pub record AreOwnPlaces (issuer : Setup) (first last : ℕ → List Entry) (faults : ℕ → ℕ)
    (shares : List Share) : Type 0 where
  -- exactly one answer names each record after the first history, and none names another index of the shard
  pub places : (shard place : ℕ) → shard < issuer.shards
      → answers_at shard place shares ≡ between (length (first shard)) (length (last shard)) place
  -- each answer `Pending` is right
  pub pending : (number index : ℕ) (share : Share) → slice_get shares number ≡ Some share
      → slice_get share.answers index ≡ Some (Refused Pending)
      → IsPending issuer first shares share index
  -- only lines that pass the checks are answered `StoreFault`
  pub passes : (number index : ℕ) (share : Share) → slice_get shares number ≡ Some share
      → slice_get share.answers index ≡ Some (Refused StoreFault)
      → LinePasses issuer share index
  -- each counted fault of a shard is reported, by exactly one answer while fewer were counted than the limit
  pub told : (shard : ℕ) → shard < issuer.shards → faults shard ≤ all_faults_reported issuer shard shares
  pub told_once : (shard : ℕ) → shard < issuer.shards → faults shard < MAX_FAULTS_REPORTED
      → all_faults_reported issuer shard shares ≡ faults shard
