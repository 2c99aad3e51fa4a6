-- Records that were read ahead of their turn, and what was looked up for each.
use Rattle.std.specs.Prelude.{◌≡◌, ℕ, ◌+◌, ◌≤◌, List, ◌++◌, length, take, slice_get, None, Some, Result, Ok, Err, All}
use Rattle.std.specs.List.{AllZip}
use Rattle.issuer_base.specs.declared.entry.Entry.{Entry}
use Rattle.issuer_base.specs.declared.entry.Entry.TheVariants.{Decided}
use Rattle.issuer_base.specs.declared.answer.Refusal.{Refusal}
use Rattle.card_history.specs.LegalRecords.{IsLegal, IsLegalHistory}
use Rattle.card_history.specs.Records.{card_in}
use Rattle.issuer_setup.specs.CardList.{number_of}
use Rattle.issuer_setup.specs.IssuerSetup.{Setup}
use Rattle.journal_rec.specs.Record.{IsRecord, IsLineOf}
use Rattle.journal_rec.specs.RecordText.{texts_of}
use Rattle.line_checks.specs.declared.looked_up.LookedUp.{LookedUp}
use Rattle.line_checks.specs.declared.looked_up.LookedUp.TheVariants.{Request, Order}
use Rattle.line_checks.specs.AtHand.{IsCardAtHand, number_of_order, record_of}
use Rattle.line_checks.specs.LookedUp.{HasKeysAtHand}
use Rattle.line_checks.specs.Reading.{checked}
use Rattle.shard_book.specs.declared.replay.LoadFault.{LoadFault}
use Rattle.shard_book.specs.declared.replay.Version.{Version}
use Rattle.shard_book.specs.ShardRows.{ShardRows, RowsStandFor}
use Rattle.shard_book.specs.Versions.{bad_record, grounds_in}

-- records, what was looked up for each, and for how many indices, from the first on, the issuer authentication data are
-- made
pub record ReadAhead : Type 0 where
  pub entries : List Entry
  pub found : List (Result LookedUp Refusal)
  pub made : ℕ

-- what was looked up for a record: a decision's request with its card and keys, another record's card, or a refusal
abbrev pub IsLookedUp : Setup → Entry → Result LookedUp Refusal → Type 0
IsLookedUp issuer (Decided request reply) (Ok (Request sought)) =
    (sought.request ≡ request) × HasKeysAtHand issuer sought
IsLookedUp issuer (Decided request reply) (Err refusal) = checked issuer request ≡ Err refusal
IsLookedUp issuer entry (Ok (Order order)) =
    (record_of order ≡ entry) × IsCardAtHand issuer (card_in entry) (number_of_order order)
IsLookedUp issuer entry (Err refusal) = number_of (card_in entry) issuer.cards ≡ None
IsLookedUp issuer entry found = ⊥

-- of each record
abbrev pub AreLookedUp : Setup → ReadAhead → Type 0
AreLookedUp issuer ahead = AllZip (IsLookedUp issuer) ahead.entries ahead.found

-- the text between two offsets is that of these records, each of which has two bytes at least
pub record AreNext (text : List ℕ) (from : ℕ) (entries : List Entry) (end : ℕ) : Type 0 where
  pub text_is : take end text ≡ take from text ++ texts_of entries
  pub records : All IsRecord entries
  pub few : from + (length entries + length entries) ≤ end
  pub within : end ≤ length text

-- the line is that of no record
abbrev pub IsNoRecord : List ℕ → Type 0
IsNoRecord line = (entry : Entry) → IsLineOf entry line → ⊥

-- each of these records is a valid successor of the history and of those before it, and the rows have them
pub record TakesAll (version : Version) (issuer : Setup) (shard : ℕ) (history entries : List Entry) (new : ShardRows)
    : Type 0 where
  pub legal : IsLegalHistory (grounds_in version issuer) shard (history ++ entries)
  pub stands : RowsStandFor issuer new (history ++ entries)

-- one of these records is no valid successor, and those before it are
pub record StopsWithin (version : Version) (issuer : Setup) (shard : ℕ) (history entries : List Entry)
    (fault : LoadFault) : Type 0 where
  pub place : ℕ
  pub entry : Entry
  pub entry_is : slice_get entries place ≡ Some entry
  pub legal : IsLegalHistory (grounds_in version issuer) shard (history ++ take place entries)
  pub fault_is : fault ≡ bad_record version (length (history ++ take place entries))
  pub illegal : IsLegal (grounds_in version issuer) shard (history ++ take place entries) entry → ⊥
