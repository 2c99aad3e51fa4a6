-- What an issuer states of the records of its shards, and what may follow the text of a history.
use Rattle.std.specs.Prelude.{◌≡◌, ◌⊎◌, ℕ, ◌%◌, List, [], slice_get, Some}
use Rattle.issuer_base.specs.declared.request.Request.{Request}
use Rattle.issuer_base.specs.declared.answer.Reply.{Reply}
use Rattle.issuer_base.specs.declared.entry.Entry.{Entry}
use Rattle.issuer_base.specs.declared.limits.TheConstants.{OLD_WINDOW, WINDOW}
use Rattle.card_history.specs.LegalRecords.{Grounds, IsLegal}
use Rattle.issuer_base.specs.CardNames.{CardName}
use Rattle.card_history.specs.Records.{card_of}
use Rattle.card_history.specs.Scripts.{scripts_of}
use Rattle.key_derive.specs.declared.card.CardKeys.{CardKeys}
use Rattle.issuer_setup.specs.declared.card.CardInfo.{CardInfo}
use Rattle.issuer_setup.specs.CardList.{number_of}
use Rattle.issuer_setup.specs.IssuerSetup.{Setup, keys_of}
use Rattle.row_core.specs.Accepting.{IsMade}
use Rattle.row_core.specs.Replying.{reply_to}
use Rattle.line_checks.specs.RequestFacts.{HasItsKeys, HasValidAc}
use Rattle.journal_rec.specs.Record.{IsRecord}
use Rattle.journal_rec.specs.RecordText.{text_of, journal_text}
use Rattle.journal_store.specs.Images.{IsImage}

-- the card of this name is one of the shard's
pub record IsCardOfShard (issuer : Setup) (shard : ℕ) (name : CardName) : Type 0 where
  pub number : ℕ
  pub number_is : number_of name issuer.cards ≡ Some number
  pub home : number % issuer.shards ≡ shard

-- the reply is one that the issuer makes for its response code after these records, under any decision table
pub record IsMadeBy (issuer : Setup) (before : List Entry) (request : Request) (reply : Reply) : Type 0 where
  pub number : ℕ
  pub card : CardInfo
  pub keys : CardKeys
  pub number_is : number_of (card_of request) issuer.cards ≡ Some number
  pub card_is : slice_get issuer.cards number ≡ Some card
  pub keys_are : keys_of issuer number request ≡ Some keys
  pub made : IsMade card.method keys (scripts_of (card_of request) before) request reply

-- what an issuer states of its cards and their keys, and this of its replies, for records that are held to this window
abbrev pub grounds_by : Setup → ℕ → (List Entry → Request → Reply → Type 0) → Grounds
grounds_by issuer window IsReply = record {
  window = window;
  IsCardOfShard = IsCardOfShard issuer;
  HasKeys = HasItsKeys issuer;
  HasValidCryptogram = HasValidAc issuer;
  IsReply = IsReply;
}

-- of records of earlier runs: a reply is one that the issuer makes for its response code after these records
-- (`IsMadeBy`), since the decision table may have been another one then
abbrev pub grounds_of : Setup → Grounds
grounds_of issuer = grounds_by issuer WINDOW (IsMadeBy issuer)

-- of records of an old journal, of version 1: the same, by the window that was in force
abbrev pub grounds_old : Setup → Grounds
grounds_old issuer = grounds_by issuer OLD_WINDOW (IsMadeBy issuer)

-- of records of this run: a reply is the issuer's own decision after these records (`reply_to`), by its decision table
abbrev pub grounds_now : Setup → Grounds
grounds_now issuer = grounds_by issuer WINDOW (λ before request reply. reply ≡ reply_to issuer before request)

-- the tail is empty, or the text of a valid successor
abbrev pub IsTail : Grounds → ℕ → List Entry → List ℕ → Type 0
IsTail grounds shard history tail =
    (tail ≡ []) ⊎ ((entry : Entry) × IsRecord entry × IsLegal grounds shard history entry × (tail ≡ text_of entry))

-- the text of the history, possibly followed by a prefix of the text of a valid successor: a torn record
abbrev pub IsImageOf : Grounds → ℕ → List Entry → List ℕ → Type 0
IsImageOf grounds shard history image =
    (tail : List ℕ) × IsTail grounds shard history tail × IsImage (journal_text history) tail image
