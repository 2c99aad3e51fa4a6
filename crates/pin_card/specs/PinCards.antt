-- A card whose PIN its issuer can change.
use Rattle.std.specs.Prelude.{ℕ, List}
use Rattle.card_model.specs.Application.{CardState}

-- the card, and its master key for secure messaging for confidentiality
pub record PinCardState : Type 0 where
  pub card : CardState
  pub smc : List ℕ
