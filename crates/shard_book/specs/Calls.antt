-- What a call of a shard answers, and what it leaves.
use Rattle.std.specs.Prelude.{◌≡◌, ◌⊎◌, ℕ, Bool, false, List, [], ◌∷◌, ◌++◌, length, Result, Ok, MatchResult}
use Rattle.issuer_base.specs.OutsideFaults.{CountsFaults}
use Rattle.issuer_base.specs.Stores.{BothTold, LeavesOnly}
use Rattle.issuer_base.specs.declared.answer.Answer.{Answer}
use Rattle.issuer_base.specs.declared.answer.Reply.{Reply}
use Rattle.issuer_base.specs.declared.entry.Entry.{Entry}
use Rattle.issuer_base.specs.declared.entry.Entry.TheVariants.{Decided}
use Rattle.issuer_base.specs.declared.outside.store.Store.{Ghosts}
use Rattle.card_history.specs.declared.decision.Asked.TheVariants.{Decide}
use Rattle.card_history.specs.LegalRecords.{IsLegal}
use Rattle.issuer_setup.specs.declared.card.CardInfo.{CardInfo}
use Rattle.issuer_setup.specs.IssuerSetup.{Setup}
use Rattle.journal_rec.specs.RecordText.{text_of}
use Rattle.line_checks.specs.declared.checked.CheckedOrder.{CheckedOrder}
use Rattle.line_checks.specs.declared.checked.CheckedRequest.{CheckedRequest}
use Rattle.line_checks.specs.AtHand.{IsOrderAtHand, IsRequestAtHand, number_of_order}
use Rattle.line_checks.specs.Reading.{checked}
use Rattle.row_core.specs.Plan.{IsNext}
use Rattle.shard_book.specs.declared.shard.Shard.{Shard}
use Rattle.shard_book.specs.Answering.{is_store_fault, tells_change, reported_after}
use Rattle.shard_book.specs.Grounds.{grounds_now, IsImageOf}
use Rattle.shard_book.specs.Shards.{number_in, IsUnder, HasCard, disk_in, faults_in, reported_in, HasTail, IsUndoubted, StandsFor}
use Rattle.shard_book.specs.Steps.{IsCardOf}

module _ {S : Type 0} {G : Ghosts S} where
  -- a checked request for a shard of this issuer
  pub record IsRequestFor (issuer : Setup) (shard : Shard S G) (found : CheckedRequest) : Type 0 where
    pub under : IsUnder issuer shard
    -- its card is one of the shard's
    pub home : HasCard shard found.card
    -- its card's number and keys are this issuer's
    pub at_hand : IsRequestAtHand issuer found
    -- it passes the checks of a line
    pub checked_is : checked issuer found.request ≡ Ok (Decide found.request)

  -- a checked order for a shard of this issuer
  pub record IsOrderFor (issuer : Setup) (shard : Shard S G) (found : CheckedOrder) : Type 0 where
    pub under : IsUnder issuer shard
    -- its card is one of the shard's
    pub home : HasCard shard (number_of_order found)
    -- its card is known, and what it asks may be recorded
    pub at_hand : IsOrderAtHand issuer found

  -- if the shard stood for a history, it stands for one that the answer makes of it
  abbrev pub AnswersBy : Setup → Shard S G → (ℕ → List Entry → List Entry → Type 0) → Shard S G → Type 0
  AnswersBy issuer old Changes new =
      (history : List Entry) → StandsFor issuer old history
      → (after : List Entry) × StandsFor issuer new after × Changes (number_in old) history after

  -- whatever a crash since the start of the call may leave is the text of the history before it, possibly with a torn
  -- record after it
  abbrev pub LeavesImages : Setup → Shard S G → Shard S G → Type 0
  LeavesImages issuer old new =
      (history : List Entry) → StandsFor issuer old history
      → BothTold (LeavesOnly (IsImageOf (grounds_now issuer) (number_in old) history)) (disk_in old) (disk_in new)

  -- and of this history, for which the shard stands
  abbrev pub LeavesImagesOf : Setup → List Entry → Shard S G → Shard S G → Type 0
  LeavesImagesOf issuer history old new =
      BothTold (LeavesOnly (IsImageOf (grounds_now issuer) (number_in old) history)) (disk_in old) (disk_in new)

  -- what a call leaves that appends a record: the record, whose index it returns; or if the store failed, in doubt is
  -- this very record or what was in doubt before
  abbrev pub LeavesPut : {E : Type 0} → List Entry → List ℕ → Entry → Result ℕ E → Shard S G → Type 0
  LeavesPut history tail entry result new =
      MatchResult result (λ place. (place ≡ length history) × HasTail new (history ++ entry ∷ []) [])
      (λ _. HasTail new history tail ⊎ HasTail new history (text_of entry))

  -- how such a call is counted, by whether the store failed; afterwards nothing is in doubt unless a call reported it
  pub record CountsPut (old : Shard S G) (failed : Bool) (new : Shard S G) : Type 0 where
    pub counts : CountsFaults (faults_in old) (faults_in new) failed
    pub told_is : reported_in new ≡ reported_after (reported_in old) failed
    pub undoubted : IsUndoubted new

  -- after this history the shard may record this decision of a checked request: it is the next one of its card, and a
  -- valid successor
  pub record MayRecord (issuer : Setup) (shard : Shard S G) (found : CheckedRequest) (reply : Reply)
      (history : List Entry) : Type 0 where
    pub stands : StandsFor issuer shard history
    pub card : CardInfo
    pub card_is : IsCardOf issuer found.card card
    pub next : IsNext card history (record { request = found.request; reply = reply; place = length history })
    pub legal : IsLegal (grounds_now issuer) (number_in shard) history (Decided found.request reply)

  -- what every call keeps of a shard, by whether it reports that the store failed
  pub record KeepsCall (issuer : Setup) (old : Shard S G) (failed : Bool) (new : Shard S G) : Type 0 where
    -- the store's fault count increases just where the call reports that the store failed
    pub counts : CountsFaults (faults_in old) (faults_in new) failed
    -- the shard counts such calls
    pub told_is : reported_in new ≡ reported_after (reported_in old) failed
    -- nothing is in doubt before the first of them
    pub undoubted : IsUndoubted old → IsUndoubted new
    -- the shard is one of this issuer's
    pub under : IsUnder issuer new
    -- its number is the same
    pub number_is : number_in new ≡ number_in old

  -- the same, by the call's answer
  pub record KeepsShard (issuer : Setup) (old : Shard S G) (answer : Answer) (new : Shard S G) : Type 0 where
    pub keeps : KeepsCall issuer old (is_store_fault answer) new
    -- an answer that reports neither a new record nor that the store failed leaves the shard unchanged
    pub unchanged : tells_change answer ≡ false → new ≡ old
