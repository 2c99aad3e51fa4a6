-- A card at its last ATC stays as it is; any other opens its next request.
use Rattle.card_model.proofs.Steps.{tap-last, tap-next}
use Rattle.card_model.specs.CardSteps.{with_open}
use Rattle.card_model.proofs.card.Card.tap.Goals as goal

pub returns-then-self-clause-step : goal.returns-then-self-clause-step
returns-then-self-clause-step c = rw (← c.self.view_is) (tap-last _ c.args.terminal.now c.if-self.true)

pub returns-clause-step : goal.returns-clause-step
unfolding with_open
returns-clause-step c =
    rw (← c.self.view_is)
    (tap-next _ c.args.terminal.now c.next_request-request.result c.if-self.false (rw c.self.view_is c.next_request-request.ensures.exact))
