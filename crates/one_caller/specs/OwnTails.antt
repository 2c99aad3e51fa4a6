-- What is in doubt in the shards of a host with one caller: nothing, or the record of a line that was answered that the
-- store failed.
use Rattle.std.specs.Prelude.{◌≡◌, ◌≢◌, ◌⊎◌, ℕ, List, [], slice_get, Some, Result, Ok, Err}
use Rattle.issuer_base.specs.declared.answer.Answer.{Answer}
use Rattle.issuer_base.specs.declared.answer.Answer.TheVariants.{Refused}
use Rattle.issuer_base.specs.declared.answer.Refusal.{Refusal}
use Rattle.issuer_base.specs.declared.answer.Refusal.TheVariants.{StoreFault}
use Rattle.issuer_base.specs.declared.entry.Entry.{Entry}
use Rattle.issuer_base.specs.declared.entry.Entry.TheVariants.{Decided, Queued, Status as IsStatus}
use Rattle.issuer_base.specs.declared.outside.store.Store.{Ghosts}
use Rattle.card_history.specs.declared.decision.Asked.{Asked}
use Rattle.card_history.specs.declared.decision.Asked.TheVariants.{Decide, Queue, Status}
use Rattle.issuer_setup.specs.IssuerSetup.{Setup, shard_of}
use Rattle.journal_rec.specs.RecordText.{text_of}
use Rattle.line_checks.specs.Reading.{reading}
use Rattle.shard_book.specs.declared.shard.Shard.{Shard}
use Rattle.shard_book.specs.Answering.{LeavesTail}
use Rattle.shard_book.specs.Replying.{reply_to}
use Rattle.shard_book.specs.Shards.{HasTail}
use Rattle.host_loading.specs.Books.{ShardBook}
use Rattle.one_caller.specs.Turns.{card_asked}

-- the record that a line asks for after this history
abbrev pub record_asked : Setup → List Entry → Asked → Entry
record_asked issuer history (Decide request) = Decided request (reply_to issuer history request)
record_asked issuer history (Queue pan psn command) = Queued pan psn command
record_asked issuer history (Status pan psn status) = IsStatus pan psn status

-- one of these lines asked for a record in this shard and was answered that the store failed, and the text is that of
-- the record that it asks for after this history
pub record IsOfFailedLine (issuer : Setup) (shard : ℕ) (lines : List (List ℕ)) (answers : List Answer)
    (history : List Entry) (text : List ℕ) : Type 0 where
  pub index : ℕ
  pub line : List ℕ
  pub asked : Asked
  pub line_is : slice_get lines index ≡ Some line
  pub answer_is : slice_get answers index ≡ Some (Refused StoreFault)
  pub asked_is : reading issuer line ≡ Ok asked
  pub home : shard_of issuer (card_asked asked) ≡ shard
  pub text_is : text ≡ text_of (record_asked issuer history asked)

-- nothing, or the text of such a record
abbrev pub IsOwnTail : Setup → ℕ → List (List ℕ) → List Answer → List Entry → List ℕ → Type 0
IsOwnTail issuer shard lines answers history tail =
    (tail ≡ []) ⊎ IsOfFailedLine issuer shard lines answers history tail

module _ {S : Type 0} {G : Ghosts S} where
  -- what is in doubt in a shard with this history is so
  pub record HasOwnTail (issuer : Setup) (number : ℕ) (lines : List (List ℕ)) (answers : List Answer)
      (history : List Entry) (shard : Shard S G) : Type 0 where
    pub tail : List ℕ
    pub has_tail : HasTail shard history tail
    pub own : IsOwnTail issuer number lines answers history tail

  -- and so in each shard
  abbrev pub HaveOwnTails :
      Setup → List (List ℕ) → List Answer → List ShardBook → List (Shard S G) → Type 0
  HaveOwnTails issuer lines answers books shards =
      (number : ℕ) (shard : Shard S G) (book : ShardBook)
      → slice_get shards number ≡ Some shard → slice_get books number ≡ Some book
      → HasOwnTail issuer number lines answers book.history shard

  -- what is in doubt in the shard with this number after a line was answered that asks this: in the shard of its card
  -- what the answer leaves, and in any other what was
  pub record LeavesTailIn (issuer : Setup) (asked : Asked) (number : ℕ) (history : List Entry) (tail : List ℕ)
      (answer : Answer) (new : Shard S G) : Type 0 where
    pub home :
        shard_of issuer (card_asked asked) ≡ number
        → LeavesTail (record_asked issuer history asked) history tail answer new
    pub other : shard_of issuer (card_asked asked) ≢ number → HasTail new history tail

  -- a line that is refused before it calls a shard leaves what was
  abbrev pub LeavesTailOf :
      Setup → Result Asked Refusal → ℕ → List Entry → List ℕ → Answer → Shard S G → Type 0
  LeavesTailOf issuer (Err refusal) number history tail answer new = HasTail new history tail
  LeavesTailOf issuer (Ok asked) number history tail answer new =
      LeavesTailIn issuer asked number history tail answer new

  -- and so in each shard
  abbrev pub LeaveTails :
      Setup → Result Asked Refusal → Answer → List ShardBook → List (Shard S G) → List (Shard S G) → Type 0
  LeaveTails issuer asked answer books old new =
      (number : ℕ) (before after : Shard S G) (book : ShardBook) (tail : List ℕ)
      → slice_get old number ≡ Some before → slice_get new number ≡ Some after → slice_get books number ≡ Some book
      → HasTail before book.history tail → LeavesTailOf issuer asked number book.history tail answer after
