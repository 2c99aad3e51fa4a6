-- A card without an open request, or that accepted an answer before, stays as it is; else it accepts or refuses the
-- answer.
use Rattle.std.proofs.Common.{false, ◌∙◌, sym}
use Rattle.card_model.specs.CardSteps.{with_answer}
use Rattle.card_model.proofs.Steps.{answer-closed, answer-twice, answer-wrong, answer-right, no_chain, is_answer-under}
use Rattle.card_model.proofs.card.Card.authenticate.Goals as goal

pub returns-in_default-clause-step : goal.returns-in_default-clause-step
returns-in_default-clause-step c = rw (← c.self.view_is) (answer-closed _ c.args.value91.now c.args.arc c.in_default.is)

pub returns-then-is_some-clause-step : goal.returns-then-is_some-clause-step
returns-then-is_some-clause-step c =
    rw (← c.self.view_is) (answer-twice _ _ c.args.value91.now c.args.arc c.in-Some.is (sym c.if-is_some.ensures))

pub returns-then-not-is_answer-clause-step : goal.returns-then-not-is_answer-clause-step
returns-then-not-is_answer-clause-step c =
    rw (← c.self.view_is)
    (answer-wrong _ c.in-Some.request c.args.value91.now c.args.arc c.in-Some.is (no_chain _ (sym c.is_some.ensures ∙ c.if-is_some.false))
    (is_answer-under _ _ _ _ c.args.value91.now c.args.arc false c.parts-parts.ensures.same c.for_cryptograms-session.ensures c.if-not-is_answer.ensures))

pub returns-clause-step : goal.returns-clause-step
unfolding with_answer
returns-clause-step c =
    rw (← c.self.view_is, c.parts-parts.ensures.same)
    (answer-right _ c.in-Some.request c.args.value91.now c.args.arc c.in-Some.is (no_chain _ (sym c.is_some.ensures ∙ c.if-is_some.false))
    (is_answer-under _ _ _ _ c.args.value91.now c.args.arc _ c.parts-parts.ensures.same c.for_cryptograms-session.ensures c.is_answer.ensures
    ∙ c.if-not-is_answer.false))
