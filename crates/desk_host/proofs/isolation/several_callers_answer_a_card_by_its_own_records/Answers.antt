-- The law of cards that share a shard, with several callers.
use Rattle.shard_book.specs.Replying.{reply_to}
use Rattle.desk_host.proofs.OneAnswer.{claimed-stays, request-same, undecided-same}
use Rattle.desk_host.proofs.isolation.several_callers_answer_a_card_by_its_own_records.Goals as goal

pub returns-clause-claimed : goal.returns-clause-claimed
returns-clause-claimed c = λ issuer request one other answer other_answer both legal settled other_settled fine other_fine.
    request-same issuer both.shard both.other_shard one other both.after both.other_after answer other_answer fine other_fine
    request both.won both.other_won (λ lost. settled) (λ lost. other_settled) both.same legal both.turn both.other_turn

pub returns-clause-undecided : goal.returns-clause-undecided
returns-clause-undecided c = λ issuer request one other answer other_answer both is.
    undecided-same issuer request both.shard both.other_shard both.won both.other_won one other both.after both.other_after answer
    other_answer both.same both.turn both.other_turn is

pub returns-clause-others : goal.returns-clause-others
returns-clause-others c = λ issuer request shard won before after answer card apart turn.
    claimed-stays card shard before after (reply_to issuer) won request answer apart turn
