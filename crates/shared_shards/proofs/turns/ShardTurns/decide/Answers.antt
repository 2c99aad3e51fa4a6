-- The request is answered in its card's shard, and what the answer adds is in the shard's log.
use Rattle.std.proofs.Common.{ℕ}
use Rattle.card_history.specs.Records.{card_of}
use Rattle.shard_book.specs.Replying.{reply_to}
use Rattle.shard_book.specs.Answering.{AnswersClaimed}
use Rattle.turn_book.specs.Seats.{view_of}
use Rattle.shared_shards.specs.Turned.{decided_by}
use Rattle.shared_shards.proofs.Answered.{claimed-answered}
use Rattle.shared_shards.proofs.Turning.{HasFound, IsCalledInTurn, card-within, card-of_shard, has-found, seen-below, has-card, turn-stands, turn-answers}
use Rattle.shared_shards.proofs.turns.ShardTurns.decide.Given.{Over}
use Rattle.shared_shards.proofs.turns.ShardTurns.decide.Goals.{After-enter-shard, After-answer-answer}
use Rattle.shared_shards.proofs.turns.ShardTurns.decide.Goals as goal

-- the shard stands for its log when the turn comes
standing : (g : Over) (c : After-enter-shard g)
    → HasFound c.args.issuer.now (view_of c.enter-shard.new.seat).seen c.shard_of-number.result c.enter-shard.result.shard
standing g c = has-found _ _ c.requires.turns _ _ c.enter-shard.result c.enter-shard.ensures.seat.heads c.enter-shard.ensures.value

-- and is called with the request
call : (g : Over) (c : After-answer-answer g) → IsCalledInTurn c.args.issuer.now
    (λ n old new. AnswersClaimed n (reply_to c.args.issuer.now) c.args.won old c.args.found.now.request c.answer-answer.result new)
    (view_of c.enter-shard.new.seat).seen c.shard_of-number.result c.enter-shard.result.shard c.answer-answer.new.self c.answer-answer.result
    (decided_by c.args.found.now.request c.answer-answer.result) c.faults-reported.result
call g c =
    let issuer = c.args.issuer.now in
    let number : ℕ = c.shard_of-number.result in
    let request = c.args.found.now.request in
    let home = card-of_shard issuer (card_of request) c.args.found.now.card number c.requires.at_hand.card_is c.shard_of-number.ensures.number in
    record {
      found = has-found _ _ c.requires.turns _ _ c.enter-shard.result c.enter-shard.ensures.seat.heads c.enter-shard.ensures.value;
      called = record { keeps = c.answer-answer.ensures.kept.keeps; leaves = c.answer-answer.ensures.crash };
      answers = c.answer-answer.ensures.answer;
      recording = λ history after.
          claimed-answered issuer number history after c.args.won request c.answer-answer.result home c.requires.checked;
      told_is = c.faults-reported.ensures;
    }

pub answer-answer-requires : goal.answer-answer-requires
answer-answer-requires g c =
    let its = standing g (goal.at.answer-answer-requires g c).After-enter-shard in
    record {
      under = its.stands.under;
      home = has-card _ _ _ _ its _ c.shard_of-number.ensures.number (card-within _ _ _ c.requires.at_hand.card_is);
      at_hand = c.requires.at_hand;
      checked_is = c.requires.checked;
    }

pub end_turn-requires-clause-stands : goal.end_turn-requires-clause-stands
end_turn-requires-clause-stands g c = turn-stands (call g (goal.at.end_turn-requires-clause-stands g c).After-answer-answer)

pub returns-clause-turn : goal.returns-clause-turn
returns-clause-turn g c =
    turn-answers (call g (goal.at.returns-clause-turn g c).After-answer-answer) _ (c.shard_of-number.ensures.shard _ c.requires.at_hand.card_is.number_is) _ _ _
    (seen-below _ _ c.requires.turns _ c.requires.seat _ c.shard_of-number.ensures.below) c.enter-shard.ensures.front c.enter-shard.ensures.view
    c.end_turn.ensures.view
