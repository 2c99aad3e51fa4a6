-- What a crash leaves of a standby that is fed with a primary's records.
use Rattle.std.specs.Prelude.{◌≡◌, ◌⊎◌, ℕ, List, [], ◌++◌, All}
use Rattle.issuer_base.specs.declared.entry.Entry.{Entry}
use Rattle.issuer_setup.specs.IssuerSetup.{Setup}
use Rattle.journal_rec.specs.RecordText.{journal_text, text_of}
use Rattle.shard_book.specs.Grounds.{grounds_of, IsImageOf}
use Rattle.shard_book.specs.Histories.{GoesOn}
use Rattle.standby_node.specs.FeedLines.{IsNext}
use Rattle.standby_node.specs.Primary.{ArePrefixes, IsPrimary, IsPrimaryLine}
use Rattle.standby_node.specs.Streams.{TakesLines}

-- lines of a primary's records made these histories of the opening ones, which are prefixes of the primary's
pub record IsFedBy (issuer : Setup) (primary opening histories : List (List Entry)) : Type 0 where
  pub is_primary : IsPrimary primary
  pub before : ArePrefixes opening primary
  pub lines : List (List ℕ)
  pub from_primary : All (IsPrimaryLine primary) lines
  pub taken : TakesLines issuer opening lines histories

-- what is in doubt after the last history of this shard: nothing, or the record of a line of the primary's, which is the
-- shard's next one
abbrev pub IsInDoubt : Setup → List (List Entry) → List (List Entry) → ℕ → List Entry → List ℕ → Type 0
IsInDoubt issuer primary histories shard last tail =
    (tail ≡ [])
    ⊎ ((line : List ℕ) × (entry : Entry) × IsPrimaryLine primary line × IsNext issuer histories line shard last entry
    × (tail ≡ text_of entry))

-- a prefix of the text of this history
abbrev pub IsPrefixOfText : List Entry → List ℕ → Type 0
IsPrefixOfText history image = (ahead : List ℕ) × (journal_text history ≡ image ++ ahead)

-- the text of the first records of this history, possibly with a torn record after it
pub record IsPrefixAndTorn (issuer : Setup) (shard : ℕ) (history : List Entry) (image : List ℕ) : Type 0 where
  pub first : List Entry
  pub on : GoesOn first history
  pub image_is : IsImageOf (grounds_of issuer) shard first image
