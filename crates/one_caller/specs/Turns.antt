-- One turn of a host over stores with one caller, and a run of turns.
use Rattle.std.specs.Prelude.{◌≡◌, ℕ, true, List, [], ◌∷◌, slice_get, slice_set, Some, Result, Ok, Err}
use Rattle.issuer_base.specs.OutsideFaults.{CountsFaults}
use Rattle.issuer_base.specs.declared.entry.Entry.{Entry}
use Rattle.issuer_base.specs.declared.answer.Answer.{Answer}
use Rattle.issuer_base.specs.declared.answer.Answer.TheVariants.{Refused}
use Rattle.issuer_base.specs.declared.answer.Refusal.{Refusal}
use Rattle.card_history.specs.declared.decision.Asked.{Asked}
use Rattle.card_history.specs.declared.decision.Asked.TheVariants.{Decide, Queue, Status}
use Rattle.issuer_base.specs.CardNames.{CardName, named}
use Rattle.card_history.specs.Records.{card_of}
use Rattle.issuer_setup.specs.IssuerSetup.{Setup, shard_of}
use Rattle.shard_book.specs.Replying.{reply_to}
use Rattle.line_checks.specs.Reading.{reading}
use Rattle.shard_book.specs.Answering.{is_store_fault, reported_after, AnswersClaimed, AnswersOrder}
use Rattle.host_loading.specs.Books.{ShardBook}

-- a line is answered in the shard of its card, on that shard's history; the store's fault count increases just where
-- the answer reports that the store failed, and the books of the other shards are unchanged
pub record AnswersIn (issuer : Setup) (before : List ShardBook) (card : CardName) (answer : Answer)
    (Changes : ℕ → List Entry → List Entry → Type 0) (after : List ShardBook) : Type 0 where
  pub old : ShardBook
  pub new : ShardBook
  pub old_is : slice_get before (shard_of issuer card) ≡ Some old
  pub changes : Changes (shard_of issuer card) old.history new.history
  pub counts : CountsFaults old.faults new.faults (is_store_fault answer)
  pub told_is : new.reported ≡ reported_after old.reported (is_store_fault answer)
  pub after_is : after ≡ slice_set before (shard_of issuer card) new

-- a line is refused for this, and the books are unchanged
abbrev pub IsRefused : List ShardBook → Refusal → Answer → List ShardBook → Type 0
IsRefused before refusal answer after = (answer ≡ Refused refusal) × (after ≡ before)

-- the card that a line asks of
abbrev pub card_asked : Asked → CardName
card_asked (Decide request) = card_of request
card_asked (Queue pan psn command) = named pan psn
card_asked (Status pan psn status) = named pan psn

-- what that card's shard may answer: a request is decided for the only caller, and an order is recorded
abbrev pub AnswersAsked : Setup → Asked → Answer → ℕ → List Entry → List Entry → Type 0
AnswersAsked issuer (Decide request) answer shard old new =
    AnswersClaimed shard (reply_to issuer) true old request answer new
AnswersAsked issuer order answer shard old new = AnswersOrder shard old order answer new

-- one turn: a line that is refused before it calls a shard leaves all books; any other is answered in the shard of its
-- card, and in place of an answer that adds a record the answer may be that the store failed
abbrev pub Turn : Setup → List ShardBook → Result Asked Refusal → Answer → List ShardBook → Type 0
Turn issuer before (Err refusal) answer after = IsRefused before refusal answer after
Turn issuer before (Ok asked) answer after =
    AnswersIn issuer before (card_asked asked) answer (AnswersAsked issuer asked answer) after

-- a run of turns: these answers to these lines, one after another
abbrev pub Run : Setup → List ShardBook → List (List ℕ) → List Answer → List ShardBook → Type 0
Run issuer before [] [] after = after ≡ before
Run issuer before (line ∷ lines) (answer ∷ answers) after =
    (between : List ShardBook) × Turn issuer before (reading issuer line) answer between
    × Run issuer between lines answers after
Run issuer before [] (answer ∷ answers) after = ⊥
Run issuer before (line ∷ lines) [] after = ⊥
