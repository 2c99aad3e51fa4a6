-- What histories state of one card: its own records; and an answer without the index of its record.
use Rattle.std.specs.Prelude.{◌≡◌, ℕ, Bool, true, false, List, filter}
use Rattle.issuer_base.specs.CardNames.{CardName}
use Rattle.issuer_base.specs.declared.answer.Answer.{Answer}
use Rattle.issuer_base.specs.declared.answer.Answer.TheVariants.{Fresh, Kept, Queued, Set, Refused}
use Rattle.issuer_base.specs.declared.answer.Refusal.TheVariants.{Taken, Pending, StoreFault}
use Rattle.issuer_base.specs.declared.entry.Entry.{Entry}
use Rattle.issuer_base.specs.declared.entry.Entry.TheVariants.{Decided, Queued as IsQueued, Status as IsStatus}
use Rattle.issuer_base.specs.declared.request.Request.{Request}
use Rattle.card_history.specs.Records.{card_of, has_numbers, is_of}
use Rattle.issuer_setup.specs.IssuerSetup.{Setup}
use Rattle.shard_book.specs.Answering.{AnswersClaimed, is_store_fault}
use Rattle.shard_book.specs.Replying.{reply_to}

-- whether the record is of this card
abbrev pub is_record_of : CardName → Entry → Bool
is_record_of card (Decided request reply) = is_of card request
is_record_of card (IsQueued pan psn command) = has_numbers card pan psn
is_record_of card (IsStatus pan psn status) = has_numbers card pan psn

-- the card's records in a shard's history, oldest first
abbrev pub own_records : CardName → List Entry → List Entry
own_records card history = filter (is_record_of card) history

-- two histories have the same records of the card
abbrev pub HaveSameRecords : CardName → List Entry → List Entry → Type 0
HaveSameRecords card one other = own_records card one ≡ own_records card other

-- the answer without the shard and index of its record
abbrev pub unplaced : Answer → Answer
unplaced (Fresh shard place reply) = Fresh 0 0 reply
unplaced (Kept shard place reply) = Kept 0 0 reply
unplaced (Queued shard place) = Queued 0 0
unplaced (Set shard place) = Set 0 0
unplaced (Refused (Taken shard place)) = Refused (Taken 0 0)
unplaced (Refused refusal) = Refused refusal

-- whether the answer is that another caller has claimed the ATC
abbrev pub is_pending : Answer → Bool
is_pending (Refused Pending) = true
is_pending _ = false

-- the answer shows that no record decides the ATC: it is decided now, another caller has claimed it, or the store failed
abbrev pub IsUndecided : Answer → Type 0
IsUndecided (Fresh shard place reply) = Unit {0}
IsUndecided (Refused Pending) = Unit {0}
IsUndecided (Refused StoreFault) = Unit {0}
IsUndecided _ = ⊥

-- a request of the card is answered after two histories that have the same records of the card, each of a shard, by a
-- caller that had won the claim on its ATC or not
pub record AnswersAfterBoth (issuer : Setup) (request : Request) (one other : List Entry) (answer other_answer : Answer)
    : Type 0 where
  pub same : HaveSameRecords (card_of request) one other
  pub shard : ℕ
  pub won : Bool
  pub after : List Entry
  pub turn : AnswersClaimed shard (reply_to issuer) won one request answer after
  pub other_shard : ℕ
  pub other_won : Bool
  pub other_after : List Entry
  pub other_turn : AnswersClaimed other_shard (reply_to issuer) other_won other request other_answer other_after

-- the answers are alike but for the shard and index of their records, unless a store failed
abbrev pub AreAlike : Answer → Answer → Type 0
AreAlike one other = is_store_fault one ≡ false → is_store_fault other ≡ false → unplaced one ≡ unplaced other

-- so they are, unless another caller has claimed the ATC
abbrev pub AreAlikeBeside : Answer → Answer → Type 0
AreAlikeBeside one other = is_pending one ≡ false → is_pending other ≡ false → AreAlike one other
