-- The decisions in the logs of shards, by the number of the card and the ATC.
use Rattle.std.specs.Prelude.{◌≡◌, ℕ, zero, suc, ◌<◌, List, [], ◌∷◌, length, Bool, false, ◌==◌, ◌&&◌, Option, None}
use Rattle.std.specs.Prelude.{Some, All, slice_get}
use Rattle.issuer_base.specs.declared.entry.Entry.TheVariants.{Decided}
use Rattle.card_history.specs.Records.{card_of}
use Rattle.issuer_setup.specs.CardList.{number_of}
use Rattle.issuer_setup.specs.IssuerSetup.{Setup}
use Rattle.shared_seats.specs.Totals.{how_many}
use Rattle.claim_words.specs.declared.view.ClaimView.{ClaimView}
use Rattle.claim_words.specs.ClaimViews.{claims_on, is_kept}
use Rattle.turn_book.specs.declared.logs.Log.{Log}
use Rattle.turn_book.specs.declared.view.TurnView.{TurnView}
use Rattle.turn_book.specs.Logs.{items_at}
use Rattle.shared_shards.specs.declared.logs.LogItem.{LogItem}
use Rattle.shared_shards.specs.declared.logs.LogItem.TheVariants.{Record}
use Rattle.shared_shards.specs.declared.logs.LogHead.{LogHead}

-- whether a card was found, and has this number
abbrev pub is_number : ℕ → Option ℕ → Bool
is_number number None = false
is_number number (Some found) = found == number

-- whether the item is the record of a decision on this ATC of the issuer's card with this number
abbrev pub decides : Setup → ℕ → ℕ → Option LogItem → Bool
decides issuer card counter (Some (Record (Decided request reply))) =
    is_number card (number_of (card_of request) issuer.cards) && (request.atc == counter)
decides issuer card counter _ = false

-- the same of the item at an index of a shard's log
abbrev pub decides_at : List (Log LogItem LogHead) → ℕ → ℕ → ℕ → ℕ → Bool
decides_at [] card counter shard place = false
decides_at (log ∷ logs) card counter zero place = decides log.head.issuer card counter (slice_get log.items place)
decides_at (log ∷ logs) card counter (suc shard) place = decides_at logs card counter shard place

-- how many of the records at these indices are decisions on this ATC of this card
abbrev pub decisions_at : List (Log LogItem LogHead) → List (ℕ × ℕ) → ℕ → ℕ → ℕ
decisions_at logs places card counter = how_many (λ pair. decides_at logs card counter pair.0 pair.1) places

-- each of the indices is within its log
abbrev pub AreWithin : List (Log LogItem LogHead) → List (ℕ × ℕ) → Type 0
AreWithin logs places = All (λ pair. pair.1 < length (items_at logs pair.0)) places

-- a seat at the claims and a seat at the shards go together: they have the same names, and the claims that are kept are
-- the decided records that were appended
pub record AreTied (claims : ClaimView) (logs : TurnView LogItem LogHead) : Type 0 where
  pub one_name : claims.names ≡ logs.names
  pub seen : AreWithin logs.seen logs.mine
  pub kept : (card counter : ℕ) → claims_on is_kept card counter claims.claims
      ≡ decisions_at logs.seen logs.mine card counter
