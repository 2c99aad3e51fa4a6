-- What a shard takes of the records of another host, under whatever decision table it decided.
use Rattle.std.specs.Prelude.{◌≡◌, ◌⊎◌, ℕ, Bool, true, false, List, [], ◌∷◌, ◌++◌, length, Result, Ok, Err, IsErr, IsTrue}
use Rattle.issuer_base.specs.Stores.{BothTold, LeavesOnly}
use Rattle.issuer_base.specs.declared.entry.Entry.{Entry}
use Rattle.issuer_base.specs.declared.answer.Refusal.{Refusal}
use Rattle.issuer_base.specs.declared.outside.store.Store.{Ghosts}
use Rattle.card_history.specs.LegalRecords.{IsLegal}
use Rattle.issuer_setup.specs.IssuerSetup.{Setup}
use Rattle.journal_rec.specs.Record.{is_record, IsRecord}
use Rattle.journal_rec.specs.RecordText.{text_of}
use Rattle.line_checks.specs.declared.looked_up.LookedUp.{LookedUp}
use Rattle.shard_book.specs.declared.shard.Shard.{Shard}
use Rattle.shard_book.specs.declared.taking.TakeFault.{TakeFault}
use Rattle.shard_book.specs.declared.taking.TakeFault.TheVariants.{NotLegal, StoreFault}
use Rattle.shard_book.specs.Calls.{KeepsCall}
use Rattle.shard_book.specs.Grounds.{grounds_of, IsImageOf}
use Rattle.shard_book.specs.ReadAhead.{IsLookedUp}
use Rattle.shard_book.specs.ShardRows.{RowsStandFor}
use Rattle.shard_book.specs.Shards.{number_in, IsUnder, disk_in, HasTail, HoldsHistory, IsSettled}

-- whether the store failed
abbrev pub is_failed_store : Result ℕ TakeFault → Bool
is_failed_store (Err StoreFault) = true
is_failed_store _ = false

-- a record that was read: its text, and what was looked up for it
pub record IsReadRecord (issuer : Setup) (entry : Entry) (text : List ℕ) (found : Result LookedUp Refusal) : Type 0 where
  pub form : IsRecord entry
  pub text_is : text ≡ text_of entry
  pub looked_up : IsLookedUp issuer entry found

module _ {S : Type 0} {G : Ghosts S} where
  -- a record of another host, well formed, for a shard of this issuer
  pub record IsRecordFor (issuer : Setup) (shard : Shard S G) (entry : Entry) : Type 0 where
    pub under : IsUnder issuer shard
    pub form : IsTrue (is_record entry)

  -- the shard stands for the history, except that what is in doubt may be a record of another host, under another
  -- decision table
  pub record IsReplicaOf (issuer : Setup) (shard : Shard S G) (history : List Entry) : Type 0 where
    pub rows_stand : RowsStandFor issuer shard.rows history
    pub journal_holds : HoldsHistory (grounds_of issuer) (number_in shard) shard.journal history

  -- the record becomes the history's next exactly if it is legal, unless the store fails
  abbrev pub Takes : Setup → Shard S G → List Entry → Entry → Result ℕ TakeFault → Shard S G → Type 0
  Takes issuer old history entry (Ok place) new =
      IsLegal (grounds_of issuer) (number_in old) history entry × (place ≡ length history)
      × IsSettled issuer new (history ++ entry ∷ [])
  Takes issuer old history entry (Err NotLegal) new = IsLegal (grounds_of issuer) (number_in old) history entry → ⊥
  Takes issuer old history entry (Err StoreFault) new =
      IsLegal (grounds_of issuer) (number_in old) history entry × IsReplicaOf issuer new history

  -- what is in doubt afterwards: nothing if the record was added; if the store failed, what was in doubt before or a
  -- prefix of this record's text; otherwise what was in doubt before
  abbrev pub LeavesTaken : Entry → List Entry → List ℕ → Result ℕ TakeFault → Shard S G → Type 0
  LeavesTaken entry history tail (Ok place) new = HasTail new (history ++ entry ∷ []) []
  LeavesTaken entry history tail (Err NotLegal) new = HasTail new history tail
  LeavesTaken entry history tail (Err StoreFault) new = HasTail new history tail ⊎ HasTail new history (text_of entry)

  -- whatever a crash since the start of the call may leave is the text of the history before it, possibly with a torn
  -- record after it
  abbrev pub LeavesReplicas : Setup → Shard S G → Shard S G → Type 0
  LeavesReplicas issuer old new =
      (history : List Entry) → IsReplicaOf issuer old history
      → BothTold (LeavesOnly (IsImageOf (grounds_of issuer) (number_in old) history)) (disk_in old) (disk_in new)

  -- as every call of a shard
  pub record KeepsReplica (issuer : Setup) (old : Shard S G) (result : Result ℕ TakeFault) (new : Shard S G)
      : Type 0 where
    pub keeps : KeepsCall issuer old (is_failed_store result) new
    -- after a fault the rows are the same, and after a record that isn't legal the whole shard
    pub rows_are : IsErr result → new.rows ≡ old.rows
    pub unchanged : result ≡ Err NotLegal → new ≡ old
