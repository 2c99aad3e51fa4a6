-- The callers' shares of the lines that are dealt to them, and a shard's history in books.
use Rattle.std.specs.Prelude.{◌≡◌, ℕ, List, [], length, map, slice_get, slice_index_or, Some}
use Rattle.issuer_base.specs.declared.answer.Answer.{Answer}
use Rattle.issuer_base.specs.declared.entry.Entry.{Entry}
use Rattle.issuer_base.specs.declared.request.Request.{Request}
use Rattle.issuer_base.specs.CardNames.{CardName}
use Rattle.card_history.specs.Records.{card_of}
use Rattle.issuer_setup.specs.IssuerSetup.{Setup}
use Rattle.host_loading.specs.Books.{ShardBook, histories_of}
use Rattle.one_caller.specs.OneHistory.{IsAnswered}
use Rattle.shared_laws.specs.Dealing.{every}

-- a shard's history in these books
abbrev pub history_in : List ShardBook → ℕ → List Entry
history_in books shard = slice_index_or (histories_of books) shard []

-- how many answers reported that a shard's store failed, by these books
abbrev pub faults_reported_in : List ShardBook → ℕ → ℕ
faults_reported_in books shard = slice_index_or (map (λ book. book.reported) books) shard 0

-- a caller's share of the lines, and their answers
pub record Share : Type 0 where
  pub lines : List (List ℕ)
  pub answers : List Answer

-- there are `count` shares, each has the lines and the answers of its turns, and each line has an answer
pub record AreDealt (count : ℕ) (lines : List (List ℕ)) (answers : List Answer) (shares : List Share) : Type 0 where
  pub count_is : length shares ≡ count
  pub answered : length answers ≡ length lines
  pub lines_are : (number : ℕ) (share : Share) → slice_get shares number ≡ Some share
      → share.lines ≡ every count number lines
  pub answers_are : (number : ℕ) (share : Share) → slice_get shares number ≡ Some share
      → share.answers ≡ every count number answers

-- some line of some share is a request on this ATC of the card, and has this answer
pub record IsAnsweredOn (issuer : Setup) (shares : List Share) (card : CardName) (counter : ℕ)
    (answer : Answer) : Type 0 where
  pub number : ℕ
  pub share : Share
  pub share_is : slice_get shares number ≡ Some share
  pub index : ℕ
  pub request : Request
  pub answered : IsAnswered issuer share.lines share.answers index request answer
  pub card_is : card_of request ≡ card
  pub counter_is : request.atc ≡ counter
