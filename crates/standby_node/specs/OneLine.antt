-- What one whole line does to the shards of a node, and to the one that it names: for private contracts alone.
use Rattle.std.specs.Prelude.{◌≡◌, ◌≢◌, ◌⊎◌, ℕ, Bool, ◌||◌, ◌==◌, true, false, List, [], ◌∷◌, ◌++◌, length}
use Rattle.std.specs.Prelude.{Result, Ok, Err}
use Rattle.std.specs.List.{AllByRecursion}
use Rattle.issuer_base.specs.declared.entry.Entry.{Entry}
use Rattle.issuer_base.specs.declared.outside.store.Store.{Ghosts}
use Rattle.issuer_setup.specs.IssuerSetup.{Setup}
use Rattle.line_reader.specs.Lines.{IsUnbroken}
use Rattle.shard_book.specs.declared.shard.Shard.{Shard}
use Rattle.shard_book.specs.declared.taking.TakeFault.{TakeFault}
use Rattle.shard_book.specs.declared.taking.TakeFault.TheVariants.{NotLegal, StoreFault as StoreFailed}
use Rattle.journal_rec.specs.RecordText.{text_of}
use Rattle.shard_book.specs.Shards.{number_in, HasTail, IsSettled}
use Rattle.shard_book.specs.Taking.{IsReplicaOf}
use Rattle.standby_node.specs.declared.line.FeedFault.{FeedFault}
use Rattle.standby_node.specs.declared.line.FeedFault.TheVariants.{BadFeed, StoreFault}
use Rattle.standby_node.specs.declared.standby.Standby.{Standby}
use Rattle.standby_node.specs.FeedLines.{IsBadLine, IsLegalLine, IsNext, TakesLine}
use Rattle.standby_node.specs.Standing.{Hold, IsInHand, shards_in}
use Rattle.standby_node.specs.Streams.{TakesLines, line_count}

-- whether the store failed
abbrev pub has_failed : Result (Unit {0}) TakeFault → Bool
has_failed (Err StoreFailed) = true
has_failed _ = false

-- the line is that of the next record of this shard
pub record HasNext (issuer : Setup) (histories : List (List Entry)) (line : List ℕ) (shard : ℕ) : Type 0 where
  pub history : List Entry
  pub entry : Entry
  pub next : IsNext issuer histories line shard history entry

module _ {S : Type 0} {G : Ghosts S} where
  -- the text is the line of this record, which is legal after the shard's history, at its index
  pub record IsNextOf (issuer : Setup) (old : Shard S G) (history : List Entry) (place : ℕ) (text : List ℕ)
      (entry : Entry) : Type 0 where
    pub place_is : place ≡ length history
    pub legal_line : IsLegalLine issuer (number_in old) history text entry

  -- the shard has the record
  pub record Records (issuer : Setup) (old : Shard S G) (history : List Entry) (place : ℕ) (text : List ℕ)
      (new : Shard S G) : Type 0 where
    pub entry : Entry
    pub next : IsNextOf issuer old history place text entry
    pub settled : IsSettled issuer new (history ++ entry ∷ [])

  -- its store failed at the record, and it is a replica of the history before. If nothing was in doubt, then what is now
  -- is the record
  pub record FailsAt (issuer : Setup) (old : Shard S G) (history : List Entry) (place : ℕ) (text : List ℕ)
      (new : Shard S G) : Type 0 where
    pub entry : Entry
    pub next : IsNextOf issuer old history place text entry
    pub replica : IsReplicaOf issuer new history
    pub in_hand : HasTail old history [] → HasTail new history [] ⊎ HasTail new history (text_of entry)

  -- the text at the shard's next index isn't the line of a record that is legal there, and the shard is unchanged
  pub record IsRefused (issuer : Setup) (old : Shard S G) (history : List Entry) (place : ℕ) (text : List ℕ)
      (new : Shard S G) : Type 0 where
    pub place_is : place ≡ length history
    pub none : (entry : Entry) → IsLegalLine issuer (number_in old) history text entry → ⊥
    pub same : new ≡ old

  -- what a text at this index does to a replica of the history
  abbrev pub TakesAt : Setup → Shard S G → List Entry → ℕ → List ℕ → Result (Unit {0}) TakeFault → Shard S G → Type 0
  TakesAt issuer old history place text (Ok done) new =
      ((place ≢ length history) × (new ≡ old)) ⊎ Records issuer old history place text new
  TakesAt issuer old history place text (Err NotLegal) new = IsRefused issuer old history place text new
  TakesAt issuer old history place text (Err StoreFailed) new = FailsAt issuer old history place text new

  -- what the line with this number does to shards that hold the histories: afterwards they hold others; or, at a fault,
  -- the same, and the record at which a store failed is in doubt
  abbrev pub Does : Setup → (ℕ → Bool) → List (List Entry) → List ℕ → ℕ → Result (Unit {0}) FeedFault → List (Shard S G)
      → List (List Entry) → Type 0
  Does issuer in_doubt histories line number (Ok done) new after =
      TakesLine issuer histories line after × Hold issuer in_doubt new after
  Does issuer in_doubt histories line number (Err (BadFeed bad)) new after =
      (bad ≡ number) × (after ≡ histories) × IsBadLine issuer histories line × Hold issuer in_doubt new after
  Does issuer in_doubt histories line number (Err (StoreFault shard)) new after =
      (after ≡ histories) × (its : HasNext issuer histories line shard)
      × Hold issuer (λ other. in_doubt other || (other == shard)) new after
      × IsInHand in_doubt shard its.history its.entry new

  -- the shards hold what these whole lines make of the opening histories, and the standby has none of a line behind them
  pub record HasTakenLines (issuer : Setup) (in_doubt : ℕ → Bool) (opening : List (List Entry)) (lines : List (List ℕ))
      (node : Standby S G) (histories : List (List Entry)) : Type 0 where
    pub whole : AllByRecursion IsUnbroken lines
    pub taken : TakesLines issuer opening lines histories
    pub hold : Hold issuer in_doubt (shards_in node) histories
    pub none : node.line.items ≡ []
    pub counted : node.lines ≡ line_count (length lines)
