-- The text of a record fits into the room for the longest one of its kind.
use Rattle.std.specs.Prelude.{◌≡◌, ℕ, ◌≤◌, true, false, Result, Option, Ok, Err, is_err, IsOkAnd, length}
use Rattle.std.proofs.Common.{refl, sym, arith}
use Rattle.std.proofs.lemmas.Bool.{false≢true}
use Rattle.issuer_base.specs.declared.entry.Entry.{Entry}
use Rattle.issuer_base.specs.declared.entry.Entry.TheVariants.{Decided, Queued, Status}
use Rattle.issuer_base.specs.Stores.{HasRoom}
use Rattle.journal_rec.specs.Record.{IsRecord}
use Rattle.journal_rec.specs.RecordText.{text_of}
use Rattle.journal_rec.proofs.TextLaws.{length-text_of, length-text_of-queued}
use Rattle.journal_store.proofs.Rooms.{room-left}
use Rattle.shard_book.specs.Room.{most_of}

-- no text is longer than the longest of its kind
pub length-most : (entry : Entry) → IsRecord entry → length (text_of entry) ≤ most_of entry
length-most (Decided request reply) is = (length-text_of (Decided request reply) is).1
length-most (Queued pan psn command) is = (length-text_of-queued pan psn command is).1
length-most (Status pan psn status) is = (length-text_of (Status pan psn status) is).1

-- where there is room for more there is room for less
pub room-less : (more less size : ℕ) (room : Option ℕ) → less ≤ more → HasRoom more size room → HasRoom less size room
room-less more less size room enough has = room-left more less size size room room has refl (omega (arith, enough))

-- what is Ok with this is no error, and has it
pub ok-has : {T E : Type 0} (result : Result T E) (P : Type 0) → IsOkAnd result (λ _. P) → (is_err result ≡ false) × P
ok-has (Ok value) P has = (refl, has)
ok-has (Err error) P has = absurd has

-- a failure where there was room is none
pub no-failure : {P : Type 0} → (true ≡ false) × P → ⊥
no-failure has = false≢true (sym has.0)
