-- Histories that are extended, and what a crash may leave of a journal meanwhile.
use Rattle.std.specs.Prelude.{◌≡◌, ℕ, List, ◌++◌}
use Rattle.issuer_base.specs.declared.entry.Entry.{Entry}
use Rattle.card_history.specs.LegalRecords.{IsLegalHistory}
use Rattle.issuer_setup.specs.IssuerSetup.{Setup}
use Rattle.shard_book.specs.Grounds.{grounds_now, grounds_of, grounds_old, IsImageOf}

-- the last history extends the first, or is the same
abbrev pub GoesOn : List Entry → List Entry → Type 0
GoesOn first last = (more : List Entry) × (last ≡ first ++ more)

-- the history extends that of the old journal: each record of the old journal is legal by the window that was in force,
-- and each record by the window of today
pub record IsLegalSince (issuer : Setup) (shard : ℕ) (old history : List Entry) : Type 0 where
  pub goes_on : GoesOn old history
  pub old_legal : IsLegalHistory (grounds_old issuer) shard old
  pub legal : IsLegalHistory (grounds_of issuer) shard history

-- the text of a history that extends the first one and is a prefix of the last, possibly with a torn record after it
pub record IsImageBetween (issuer : Setup) (shard : ℕ) (first last : List Entry) (image : List ℕ) : Type 0 where
  pub between : List Entry
  pub from_first : GoesOn first between
  pub to_last : GoesOn between last
  pub image_is : IsImageOf (grounds_now issuer) shard between image
