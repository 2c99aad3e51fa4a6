-- A command comes too early, is refused and sets the failed bit, or is run, counted and chained.
use Rattle.std.proofs.Common.{◌<◌, ◌∙◌, sym, arith}
use Rattle.card_model.specs.declared.card.TheConstants.{MOST_COUNTED}
use Rattle.card_model.specs.CardSteps.{with_command, with_failure}
use Rattle.card_model.proofs.Steps.{command-closed, command-early, command-refused, command-ran, opened-under}
use Rattle.card_model.proofs.card.Card.run.Goals as goal

pub returns-in_default-clause-step : goal.returns-in_default-clause-step
returns-in_default-clause-step c = rw (← c.self.view_is, c.reserve.ensures.items) (command-closed _ c.args.bytes.now c.in_default.is)

pub returns-in_default-chain-clause-step : goal.returns-in_default-chain-clause-step
returns-in_default-chain-clause-step c =
    rw (← c.self.view_is, c.reserve.ensures.items) (command-early _ _ c.args.bytes.now c.in-Some.is c.in_default-chain.is)

pub returns-in_default-opened_within-clause-step : goal.returns-in_default-opened_within-clause-step
unfolding with_failure
returns-in_default-opened_within-clause-step c =
    rw (← c.self.view_is, c.reserve.ensures.items)
    (command-refused _ c.in-Some.request c.in-Some-chain.chain c.args.bytes.now c.in-Some.is c.in-Some-chain.is
    (sym c.in_default-opened_within.is
    ∙ opened-under _ _ _ _ _ _ _ c.args.bytes.now _ c.parts.ensures.same c.session_sm-key.ensures c.opened_within.ensures.exact))

pub invariant_of-self-2 : goal.invariant_of-self-2
invariant_of-self-2 c =
    let counted : c.self.inside.count < MOST_COUNTED = rw c.in-Some-opened_within.is at c.opened_within.ensures.counted in
    (c.self.invariant.0, omega (arith, counted))

pub returns-clause-step : goal.returns-clause-step
unfolding with_command
returns-clause-step c =
    rw (← c.self.view_is, c.push_reserved.ensures.items, c.reserve.ensures.items)
    (command-ran _ c.in-Some.request c.in-Some-chain.chain c.args.bytes.now _ _ c.in-Some.is c.in-Some-chain.is
    (sym c.in-Some-opened_within.is
    ∙ opened-under _ _ _ _ _ _ _ c.args.bytes.now _ c.parts.ensures.same c.session_sm-key.ensures c.opened_within.ensures.exact))
