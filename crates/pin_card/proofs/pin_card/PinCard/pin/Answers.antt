-- The stored PIN is that of the last PIN change.
use Rattle.std.proofs.Common.{ℕ, List, Option, sym, subst}
use Rattle.std.specs.Option.{option_map}
use Rattle.pin_card.specs.LastPin.{IsLastPin}
use Rattle.pin_card.specs.PinCards.{PinCardState}
use Rattle.pin_card.proofs.pin_card.PinCard.pin.Goals as goal

pub returns : goal.returns
returns c =
    subst (λ (state : PinCardState). IsLastPin state.smc state.card.ran (option_map (λ pin. pin.now) c.as_ref.result)) c.self.view_is
    (subst (λ (pin : Option (List ℕ)). IsLastPin c.self.inside.smc.0 c.self.inside.card.ran pin) (sym c.as_ref.ensures.value) c.self.invariant)
