-- What is filed of journals for a clearing check: the decided records of all histories, by shard and index.
use Rattle.std.specs.Prelude.{◌≡◌, ◌⊎◌, ℕ, ◌+◌, ◌<◌, ◌%◌, Bool, ◌&&◌, not, ◌==◌, true, false, List, [], ◌∷◌, ◌++◌, length, slice_get}
use Rattle.std.specs.Prelude.{All, Option, None, Some, IfSome, Result, Err}
use Rattle.std.specs.List.{enumerate_from, flat_map, list_any}
use Rattle.issuer_base.specs.OutsideFaults.{CountsFaults}
use Rattle.issuer_base.specs.declared.entry.Entry.{Entry}
use Rattle.issuer_base.specs.declared.entry.Entry.TheVariants.{Decided}
use Rattle.card_history.specs.LegalRecords.{IsLegalHistory}
use Rattle.card_history.specs.Records.{card_in}
use Rattle.issuer_setup.specs.CardList.{number_of}
use Rattle.issuer_setup.specs.IssuerSetup.{Setup}
use Rattle.journal_rec.specs.Record.{IsRecord}
use Rattle.journal_rec.specs.RecordText.{journal_text}
use Rattle.shard_book.specs.Grounds.{grounds_of}
use Rattle.shard_book.specs.Versions.{HasText}
use Rattle.shard_book.specs.declared.replay.Version.TheVariants.{Two}
use Rattle.journal_reader.specs.declared.reader.RecordFault.{RecordFault}
use Rattle.journal_reader.specs.declared.reader.RecordFault.TheVariants.{StoreFault as ReadingFails, BadLine as ReadsBad}
use Rattle.journal_reader.specs.Reading.{StopsAfter}
use Rattle.clearing_check.specs.declared.filed.Filed.{Filed}
use Rattle.clearing_check.specs.Records.{has_atc}
use Rattle.clearing_check.specs.Verdicts.{filed_of}
use Rattle.journal_reader.specs.declared.filing.FilingFault.{FilingFault}
use Rattle.journal_reader.specs.declared.filing.FilingFault.TheVariants.{StoreFault, BadLine, NoMemory}
use Rattle.journal_reader.specs.declared.filing.NotFiled.{NotFiled}

-- ---- what is filed

-- what is filed of a shard's history
abbrev pub filed_in : Setup → ℕ → List Entry → List Filed
filed_in issuer shard history = flat_map (λ numbered. filed_of issuer shard numbered.0 numbered.1)
    (enumerate_from 0 history)

-- what is filed of the histories of all shards, in order
abbrev pub filed_records : Setup → List (List Entry) → List Filed
filed_records issuer histories =
    flat_map (λ numbered. filed_in issuer numbered.0 numbered.1) (enumerate_from 0 histories)

-- a store has the records of this history: where its bytes are observable, they are the history's text and a torn last
-- line, which may be empty
pub record HasRecords (bytes : Option (List ℕ)) (history : List Entry) : Type 0 where
  pub records : All IsRecord history
  pub text_is : IfSome bytes (HasText Two history)

-- a store begins with the records of this history: where its bytes are observable, and the history isn't empty, the
-- history's text is a prefix of them
pub record HasFirstRecords (bytes : Option (List ℕ)) (history : List Entry) : Type 0 where
  pub records : All IsRecord history
  pub front : IfSome bytes (λ text. (history ≡ []) ⊎ ((ahead : List ℕ) × (text ≡ journal_text history ++ ahead)))

-- each store has the records of the history with its index
pub record HaveRecords {S : Type 0} (bytes : S → Option (List ℕ)) (stores : List S) (histories : List (List Entry))
    : Type 0 where
  pub count_is : length histories ≡ length stores
  pub each : (number : ℕ) (store : S) (history : List Entry)
      → slice_get stores number ≡ Some store → slice_get histories number ≡ Some history
      → HasRecords (bytes store) history

-- these records were filed after the others: those of a history that the store has
pub record FilesJournal (issuer : Setup) (shard : ℕ) (bytes : Option (List ℕ)) (old new : List Filed) : Type 0 where
  pub history : List Entry
  pub has : HasRecords bytes history
  pub filed_are : new ≡ old ++ filed_in issuer shard history

-- these are the filed records of the histories that the stores have
pub record FilesAll {S : Type 0} (bytes : S → Option (List ℕ)) (issuer : Setup) (stores : List S) (new : List Filed)
    : Type 0 where
  pub histories : List (List Entry)
  pub have : HaveRecords bytes stores histories
  pub filed_are : new ≡ filed_records issuer histories

-- ---- which records are filed

-- whether the card with this number, if there is one, is of the shard
abbrev pub is_at_home : Setup → ℕ → Option ℕ → Bool
is_at_home issuer shard None = false
is_at_home issuer shard (Some card) = card % issuer.shards == shard

-- whether the record is decided, on an ATC of this card that one of these records has
abbrev pub repeats : List Filed → Option ℕ → Entry → Bool
repeats records (Some card) (Decided request reply) = list_any (has_atc card request.atc) records
repeats records _ _ = false

-- whether a record may be filed after these: its card is one of the shard, and it doesn't repeat an ATC
abbrev pub fits : Setup → ℕ → List Filed → Entry → Bool
fits issuer shard records entry =
    let card = number_of (card_in entry) issuer.cards in
    is_at_home issuer shard card && not (repeats records card entry)

-- the filed records are of cards of the shards before this one
abbrev pub AreBefore : Setup → ℕ → List Filed → Type 0
AreBefore issuer shard records = All (λ filed. filed.card % issuer.shards < shard) records

-- ---- faults

-- the reader's fault, as one of filing
abbrev pub fault_of : RecordFault → FilingFault
fault_of ReadingFails = StoreFault
fault_of (ReadsBad line) = BadLine line

-- whether a line is bad
abbrev pub is_bad : FilingFault → Bool
is_bad (BadLine line) = true
is_bad _ = false

-- why the record at this index isn't filed, by whether it may be: it may not, and its line is bad, or memory ran out
abbrev pub IsRefused : ℕ → Bool → FilingFault → Type 0
IsRefused place may fault = ((may ≡ false) × (fault ≡ BadLine (place + 2))) ⊎ (fault ≡ NoMemory)

-- the record after this history, on this line, may not be filed after these
pub record MayNotFile (issuer : Setup) (shard : ℕ) (bytes : Option (List ℕ)) (records : List Filed)
    (history : List Entry) (line : ℕ) : Type 0 where
  pub entry : Entry
  pub has : HasFirstRecords bytes (history ++ entry ∷ [])
  pub refused : fits issuer shard records entry ≡ false
  pub line_is : line ≡ length history + 2

-- why no record is filed after those of this history: the store failed, or memory ran out; or the next line is bad, or
-- its record may not be filed
abbrev pub StopsFilingAt : Setup → ℕ → Option (List ℕ) → List Filed → List Entry → FilingFault → Type 0
StopsFilingAt issuer shard bytes records history StoreFault = Unit {0}
StopsFilingAt issuer shard bytes records history (BadLine line) =
    StopsAfter bytes history (ReadsBad line) ⊎ MayNotFile issuer shard bytes records history line
StopsFilingAt issuer shard bytes records history NoMemory = Unit {0}

-- the first records of a journal were filed after the others, and why no more are
pub record StopsFiling (issuer : Setup) (shard : ℕ) (bytes : Option (List ℕ)) (old new : List Filed)
    (fault : FilingFault) : Type 0 where
  pub history : List Entry
  pub has : HasFirstRecords bytes history
  pub filed_are : new ≡ old ++ filed_in issuer shard history
  pub stops : StopsFilingAt issuer shard bytes new history fault

-- the journals before this shard's are filed, and the first records of its journal
pub record FilesBefore {S : Type 0} (bytes : S → Option (List ℕ)) (issuer : Setup) (stores : List S) (none : NotFiled)
    (new : List Filed) : Type 0 where
  pub histories : List (List Entry)
  pub count_is : length histories ≡ none.shard
  pub each : (number : ℕ) (store : S) (history : List Entry)
      → slice_get stores number ≡ Some store → slice_get histories number ≡ Some history
      → HasRecords (bytes store) history
  pub stops : (store : S) → slice_get stores none.shard ≡ Some store
      → StopsFiling issuer none.shard (bytes store) (filed_records issuer histories) new none.fault

-- the store's bytes are known: the text of this legal history
pub record HoldsHistory (issuer : Setup) (shard : ℕ) (bytes : Option (List ℕ)) (history : List Entry) : Type 0 where
  pub bytes_are : bytes ≡ Some (journal_text history)
  pub records : All IsRecord history
  pub legal : IsLegalHistory (grounds_of issuer) shard history

-- the fault isn't a bad line of a store that has such a text
abbrev pub IsSpared : {S : Type 0} → (S → Option (List ℕ)) → Setup → List S → ℕ → FilingFault → Type 0
IsSpared {S} bytes issuer stores shard fault =
    (store : S) (history : List Entry) → slice_get stores shard ≡ Some store
    → HoldsHistory issuer shard (bytes store) history → is_bad fault ≡ false

-- whether the store failed
abbrev pub is_store_fault : {X : Type 0} → Result X FilingFault → Bool
is_store_fault (Err StoreFault) = true
is_store_fault _ = false

-- whether the store of this shard failed
abbrev pub fails_at : {X : Type 0} → Result X NotFiled → ℕ → Bool
fails_at (Err none) number = (none.shard == number) && is_store_fault {X = Unit {0}} (Err none.fault)
fails_at _ number = false

-- each store's fault counter increased if the store failed, and is otherwise the same
abbrev pub CountAt : {S : Type 0} → (S → ℕ) → List S → List S → (ℕ → Bool) → Type 0
CountAt {S} faults old new failed =
    (number : ℕ) (before after : S) → slice_get old number ≡ Some before → slice_get new number ≡ Some after
    → CountsFaults (faults before) (faults after) (failed number)
