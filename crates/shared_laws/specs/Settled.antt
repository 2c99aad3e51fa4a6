-- The outcome of each ATC that the lines of several callers ask for, if no store failed.
use Rattle.std.specs.Prelude.{◌≡◌, ◌≢◌, ◌⊎◌, ℕ, ◌<◌, List, [], slice_get, Bool, true, false, Some}
use Rattle.issuer_base.specs.declared.answer.Answer.{Answer}
use Rattle.issuer_base.specs.declared.answer.Answer.TheVariants.{Fresh, Refused}
use Rattle.issuer_base.specs.declared.answer.Refusal.TheVariants.{Below, Pending, StoreFault}
use Rattle.issuer_base.specs.declared.answer.Reply.{Reply}
use Rattle.issuer_base.specs.declared.entry.Entry.{Entry}
use Rattle.issuer_base.specs.declared.request.Request.{Request}
use Rattle.issuer_base.specs.CardNames.{CardName}
use Rattle.card_history.specs.Records.{card_of}
use Rattle.issuer_setup.specs.IssuerSetup.{Setup, shard_of}
use Rattle.turn_book.specs.declared.logs.Log.{Log}
use Rattle.turn_book.specs.Logs.{items_at}
use Rattle.shared_shards.specs.declared.logs.LogItem.{LogItem}
use Rattle.shared_shards.specs.declared.logs.LogHead.{LogHead}
use Rattle.shared_shards.specs.ShardLogs.{faults_of}
use Rattle.one_caller.specs.OneHistory.{IsAnswered}
use Rattle.shared_laws.specs.Shares.{Share, IsAnsweredOn}
use Rattle.shared_laws.specs.Explained.{IsDecidedOn}

-- no shard's log has a fault
abbrev pub TellNoFault : Setup → List (Log LogItem LogHead) → Type 0
TellNoFault issuer logs = (shard : ℕ) → shard < issuer.shards → faults_of (items_at logs shard) ≡ []

-- whether the answer is that the ATC is too old, or that it is pending
abbrev pub is_below_or_pending : Answer → Bool
is_below_or_pending (Refused (Below top)) = true
is_below_or_pending (Refused Pending) = true
is_below_or_pending _ = false

-- some line on this ATC of the card was decided
pub record IsDecidedNow (issuer : Setup) (shares : List Share) (card : CardName) (counter : ℕ) : Type 0 where
  pub shard : ℕ
  pub place : ℕ
  pub reply : Reply
  pub fresh : IsAnsweredOn issuer shares card counter (Fresh shard place reply)

-- each line on this ATC of the card was answered that it is too old or pending, and one of them that it is too old
pub record IsLeft (issuer : Setup) (shares : List Share) (card : CardName) (counter : ℕ) : Type 0 where
  pub each : (answer : Answer) → IsAnsweredOn issuer shares card counter answer → is_below_or_pending answer ≡ true
  pub top : ℕ
  pub below : IsAnsweredOn issuer shares card counter (Refused (Below top))

-- what holds of the answers in the shares if no store failed, by the first history of each shard
pub record AreSettled (issuer : Setup) (first : ℕ → List Entry) (shares : List Share) : Type 0 where
  -- no answer reports that a store failed
  pub no_fault : (number index : ℕ) (share : Share) → slice_get shares number ≡ Some share
      → slice_get share.answers index ≢ Some (Refused StoreFault)
  -- each ATC that a line asks for was decided before the run or in it, or left as too old
  pub settled : (number index : ℕ) (share : Share) (request : Request) (answer : Answer)
      → slice_get shares number ≡ Some share
      → IsAnswered issuer share.lines share.answers index request answer
      → IsDecidedOn (card_of request) request.atc (first (shard_of issuer (card_of request)))
      ⊎ IsDecidedNow issuer shares (card_of request) request.atc
      ⊎ IsLeft issuer shares (card_of request) request.atc
