-- The last PIN that a card of a world was given.
use Rattle.std.specs.Prelude.{◌≡◌, ℕ, List, length, take, slice_get, Option, Some}
use Rattle.card_history.specs.Records.{queue}
use Rattle.issuer_setup.specs.declared.card.CardInfo.{CardInfo}
use Rattle.issuer_setup.specs.CardList.{name_of}
use Rattle.card_model.specs.Application.{CardState}
use Rattle.pin_card.specs.LastPin.{IsLastPin}
use Rattle.world_net.specs.WorldState.{WorldState, history_at}

-- a PIN, or none, is that of the last PIN change among the first commands of the card's queue, as many as the card ran
pub record IsLastQueued (world : WorldState) (number : ℕ) (smc : List ℕ) (pin : Option (List ℕ)) : Type 0 where
  pub info : CardInfo
  pub info_is : slice_get world.issuer.cards number ≡ Some info
  pub card : CardState
  pub card_is : slice_get world.cards number ≡ Some card
  pub last : IsLastPin smc (take (length card.ran) (queue (name_of info) (history_at world number))) pin
