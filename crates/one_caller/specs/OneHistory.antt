-- The law of a host with one caller, across restarts: its answers and journals are one legal history per shard.
use Rattle.std.specs.Prelude.{◌≡◌, ℕ, ◌≤◌, List, length, take, slice_get, slice_index_or, [], Some, Ok, All}
use Rattle.issuer_base.specs.OutsideFaults.{Rose}
use Rattle.issuer_base.specs.declared.request.Request.{Request}
use Rattle.issuer_base.specs.declared.answer.Reply.{Reply}
use Rattle.issuer_base.specs.declared.answer.Answer.{Answer}
use Rattle.issuer_base.specs.declared.answer.Answer.TheVariants.{Refused}
use Rattle.issuer_base.specs.declared.answer.Refusal.TheVariants.{StoreFault}
use Rattle.issuer_base.specs.declared.entry.Entry.{Entry}
use Rattle.card_history.specs.declared.decision.Asked.TheVariants.{Decide}
use Rattle.card_history.specs.LegalRecords.{IsLegal, IsLegalHistory}
use Rattle.card_history.specs.OneReply.{IsOncePerCounter, IsOfItsRecord, reply_in}
use Rattle.issuer_base.specs.CardNames.{CardName}
use Rattle.card_history.specs.ScriptOrder.{AreInOrder}
use Rattle.issuer_setup.specs.IssuerSetup.{Setup}
use Rattle.journal_rec.specs.Record.{IsRecord}
use Rattle.line_checks.specs.Reading.{reading}
use Rattle.shard_book.specs.Grounds.{grounds_of, grounds_now}
use Rattle.shard_book.specs.Histories.{GoesOn, IsLegalSince}
use Rattle.host_loading.specs.Books.{ShardBook, histories_of}

-- the history is extended by legal records, and each of the new decisions is that of the issuer's table
pub record LegallyGoesOn (issuer : Setup) (shard : ℕ) (first last : List Entry) : Type 0 where
  pub goes_on : GoesOn first last
  pub legal : IsLegalHistory (grounds_of issuer) shard last
  pub by_table : (place : ℕ) (entry : Entry) → length first ≤ place → slice_get last place ≡ Some entry
      → IsLegal (grounds_now issuer) shard (take place last) entry

-- the last history extends the first, and that the old journal's: each record of the old journal is legal by the window
-- that was in force, each later one by today's, and each decision after the first history is that of the issuer's table
pub record LegalFrom (issuer : Setup) (shard : ℕ) (old first last : List Entry) : Type 0 where
  pub since : IsLegalSince issuer shard old first
  pub goes_on : LegallyGoesOn issuer shard first last

-- each shard's history is extended legally, and its store's fault count never fell
abbrev pub GoOnLegally : Setup → List ShardBook → List ShardBook → Type 0
GoOnLegally issuer first last =
    (shard : ℕ) (was is : ShardBook) → slice_get first shard ≡ Some was → slice_get last shard ≡ Some is
    → LegallyGoesOn issuer shard was.history is.history × (was.faults ≤ is.faults)

-- the history of each shard is legal
abbrev pub AreLegalBooks : Setup → List ShardBook → Type 0
AreLegalBooks issuer books =
    (shard : ℕ) (book : ShardBook) → slice_get books shard ≡ Some book
    → IsLegalHistory (grounds_of issuer) shard book.history

-- each entry of the histories is a record, as the program holds them
abbrev pub AreRecorded : List ShardBook → Type 0
AreRecorded books = (shard : ℕ) (book : ShardBook) → slice_get books shard ≡ Some book → All IsRecord book.history

-- a record that is a valid successor by the issuer's own decision is a valid successor when it is loaded again
abbrev pub LoadsAgain : Setup → Type 0
LoadsAgain issuer =
    (shard : ℕ) (before : List Entry) (entry : Entry) → IsRecord entry → IsLegal (grounds_now issuer) shard before entry
    → IsLegal (grounds_of issuer) shard before entry

-- line number `index` was parsed as this request, and has this answer
pub record IsAnswered (issuer : Setup) (lines : List (List ℕ)) (answers : List Answer) (index : ℕ) (request : Request)
    (answer : Answer) : Type 0 where
  pub line : List ℕ
  pub line_is : slice_get lines index ≡ Some line
  pub request_is : reading issuer line ≡ Ok (Decide request)
  pub answer_is : slice_get answers index ≡ Some answer

-- some store failed: its fault count increased
pub record HasFailed (first last : List ShardBook) : Type 0 where
  pub shard : ℕ
  pub was : ShardBook
  pub is : ShardBook
  pub was_is : slice_get first shard ≡ Some was
  pub is_is : slice_get last shard ≡ Some is
  pub rose : Rose was.faults is.faults

-- what holds after a run on legal histories
pub record IsOneHistory (issuer : Setup) (lines : List (List ℕ)) (answers : List Answer) (first last : List ShardBook)
    : Type 0 where
  -- each history is extended by legal records, each new decision the table's
  pub goes_on : GoOnLegally issuer first last
  -- no ATC of a card was decided twice, whether in this run or before
  pub once : IsOncePerCounter (histories_of last)
  -- each reply is that of its record
  pub recorded : (index : ℕ) (request : Request) (answer : Answer)
      → IsAnswered issuer lines answers index request answer
      → IsOfItsRecord (histories_of last) request answer
  -- two replies to the same request are the same reply
  pub one_reply : (first_index second_index : ℕ) (request : Request) (answer other : Answer) (reply other_reply : Reply)
      → IsAnswered issuer lines answers first_index request answer
      → IsAnswered issuer lines answers second_index request other
      → reply_in answer ≡ Some reply → reply_in other ≡ Some other_reply → reply ≡ other_reply
  -- each card's commands went with replies in the order of its queue
  pub in_order : (card : CardName) (shard : ℕ) → AreInOrder card (slice_index_or (histories_of last) shard [])
  -- if an answer reports that a store failed, a store's fault count increased
  pub blamed : (index : ℕ) → slice_get answers index ≡ Some (Refused StoreFault) → HasFailed first last
