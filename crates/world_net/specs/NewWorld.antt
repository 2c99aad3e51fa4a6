-- The cards of a world before any event.
use Rattle.std.specs.Prelude.{◌≡◌, ◌<◌, ℕ, List, length, slice_get, Some}
use Rattle.issuer_base.specs.declared.request.Suite.{Suite}
use Rattle.issuer_setup.specs.declared.card.CardInfo.{CardInfo}
use Rattle.issuer_setup.specs.IssuerSetup.{Setup}
use Rattle.card_model.specs.Application.{CardState}
use Rattle.key_derive.specs.declared.card.KeySet.{KeySet}
use Rattle.world_net.specs.WorldRuns.{IsCardUnder}

-- a new card of this suite under this key set for each of the first cards
pub record AreUnder (set : KeySet) (suite : Suite) (infos : List CardInfo) (count : ℕ) (cards : List CardState)
    : Type 0 where
  pub count_is : length cards ≡ count
  pub each : (number : ℕ) (info : CardInfo) → number < count → slice_get infos number ≡ Some info
      → (card : CardState) × (slice_get cards number ≡ Some card) × IsCardUnder set suite info card

-- the issuer's cards, each new and of this suite, under the issuer's first key set
pub record AreFirst (issuer : Setup) (suite : Suite) (cards : List CardState) : Type 0 where
  pub set : KeySet
  pub first : slice_get issuer.keys 0 ≡ Some set
  pub cards_are : AreUnder set suite issuer.cards (length issuer.cards) cards
