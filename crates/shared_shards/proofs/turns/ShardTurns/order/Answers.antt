-- The order is answered in its card's shard, and what the answer adds is in the shard's log.
use Rattle.std.proofs.Common.{◌≡◌, ℕ, ◌%◌, ◌∙◌, Some, ap, sym}
use Rattle.line_checks.specs.AtHand.{card_of_order, number_of_order, order_asked, record_of}
use Rattle.line_checks.proofs.Orders.{order-card}
use Rattle.shard_book.specs.Answering.{AnswersOrder}
use Rattle.turn_book.specs.Seats.{view_of}
use Rattle.shared_shards.specs.Turned.{recorded_by}
use Rattle.shared_shards.proofs.Answered.{order-answered}
use Rattle.shared_shards.proofs.Turning.{HasFound, IsCalledInTurn, card-within, card-of_shard, has-found, seen-below, has-card, turn-stands, turn-answers}
use Rattle.shared_shards.proofs.turns.ShardTurns.order.Given.{Over}
use Rattle.shared_shards.proofs.turns.ShardTurns.order.Goals.{After-enter-shard, After-order-answer}
use Rattle.shared_shards.proofs.turns.ShardTurns.order.Goals as goal

-- the shard stands for its log when the turn comes
standing : (g : Over) (c : After-enter-shard g)
    → HasFound c.args.issuer.now (view_of c.enter-shard.new.seat).seen c.shard_of-number.result c.enter-shard.result.shard
standing g c = has-found _ _ c.requires.turns _ _ c.enter-shard.result c.enter-shard.ensures.seat.heads c.enter-shard.ensures.value

-- it is the shard of the order's card
home : (g : Over) (c : After-enter-shard g) → c.shard_of-number.result ≡ number_of_order c.args.found.now % c.args.issuer.now.shards
home g c = c.shard_of-number.ensures.number ∙ ap (λ (card : ℕ). card % c.args.issuer.now.shards) c.card.ensures

-- and is called with the order
call : (g : Over) (c : After-order-answer g) → IsCalledInTurn c.args.issuer.now
    (λ n old new. AnswersOrder n old (order_asked c.args.found.now) c.order-answer.result new)
    (view_of c.enter-shard.new.seat).seen c.shard_of-number.result c.enter-shard.result.shard c.order-answer.new.self c.order-answer.result
    (recorded_by (record_of c.args.found.now) c.order-answer.result) c.faults-reported.result
call g c =
    let issuer = c.args.issuer.now in
    let number : ℕ = c.shard_of-number.result in
    let order = c.args.found.now in
    let known = order-card issuer order c.requires.at_hand in
    let here : number ≡ number_of_order order % issuer.shards =
    c.shard_of-number.ensures.number ∙ ap (λ (card : ℕ). card % issuer.shards) c.card.ensures in
    record {
      found = has-found _ _ c.requires.turns _ _ c.enter-shard.result c.enter-shard.ensures.seat.heads c.enter-shard.ensures.value;
      called = record { keeps = c.order-answer.ensures.kept.keeps; leaves = c.order-answer.ensures.crash };
      answers = c.order-answer.ensures.answer;
      recording = λ history after.
          order-answered issuer number history after order c.order-answer.result
          (card-of_shard issuer (card_of_order order) (number_of_order order) number known here) c.requires.at_hand;
      told_is = c.faults-reported.ensures;
    }

pub order-answer-requires : goal.order-answer-requires
order-answer-requires g c =
    let here = (goal.at.order-answer-requires g c).After-enter-shard in
    let its = standing g here in
    record {
      under = its.stands.under;
      home = has-card _ _ _ _ its _ (home g here) (card-within _ _ _ (order-card _ _ c.requires.at_hand));
      at_hand = c.requires.at_hand;
    }

pub end_turn-requires-clause-stands : goal.end_turn-requires-clause-stands
end_turn-requires-clause-stands g c = turn-stands (call g (goal.at.end_turn-requires-clause-stands g c).After-order-answer)

pub returns-clause-turn : goal.returns-clause-turn
returns-clause-turn g c =
    turn-answers (call g (goal.at.returns-clause-turn g c).After-order-answer) _
    (c.shard_of-number.ensures.shard _ ((order-card _ _ c.requires.at_hand).number_is ∙ ap Some (sym c.card.ensures))) _ _ _
    (seen-below _ _ c.requires.turns _ c.requires.seat _ c.shard_of-number.ensures.below) c.enter-shard.ensures.front c.enter-shard.ensures.view
    c.end_turn.ensures.view
