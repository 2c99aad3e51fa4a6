-- The texts of a partition's journals as records of cards.
use Rattle.std.specs.Prelude.{◌≡◌, ◌<◌, ℕ, List, [], ◌∷◌, length, slice_index_or}
use Rattle.issuer_base.specs.declared.entry.Entry.{Entry}
use Rattle.card_history.specs.LegalRecords.{IsLegal}
use Rattle.issuer_setup.specs.IssuerSetup.{Setup}
use Rattle.journal_rec.specs.Record.{IsLineOf}
use Rattle.shard_book.specs.Grounds.{grounds_of}
use Rattle.one_history.specs.Streams.{Text}

-- these texts are the lines of these records, without their newlines
abbrev pub AreLines : List Text → List Entry → Type 0
AreLines [] [] = Unit {0}
AreLines [] (entry ∷ entries) = ⊥
AreLines (text ∷ texts) [] = ⊥
AreLines (text ∷ texts) (entry ∷ entries) = IsLineOf entry text × AreLines texts entries

-- the text is the line of a record that is legal after those of the history's texts
pub record FollowsLegally (issuer : Setup) (shard : ℕ) (history : List Text) (text : Text) : Type 0 where
  pub before : List Entry
  pub lines : AreLines history before
  pub entry : Entry
  pub line : IsLineOf entry text
  pub legal : IsLegal (grounds_of issuer) shard before entry

-- a text may follow a history: in a shard of the issuer as a legal record does. Beyond those a partition has the notes
-- of work on cards, which may be any texts
abbrev pub IsSuccessor : Setup → ℕ → List Text → Text → Type 0
IsSuccessor issuer shard history text = shard < issuer.shards → FollowsLegally issuer shard history text

-- the records of the texts of each of the issuer's shards
pub record AreRecords (issuer : Setup) (texts : ℕ → List Text) (histories : List (List Entry)) : Type 0 where
  pub count : length histories ≡ issuer.shards
  pub lines : (shard : ℕ) → shard < issuer.shards → AreLines (texts shard) (slice_index_or histories shard [])
