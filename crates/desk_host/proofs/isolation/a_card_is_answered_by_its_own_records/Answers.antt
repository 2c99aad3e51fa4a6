-- The law of cards that share a shard.
use Rattle.desk_host.proofs.OneAnswer.{answer-same, others-stay}
use Rattle.desk_host.proofs.OwnRecords.{reply-same}
use Rattle.desk_host.proofs.isolation.a_card_is_answered_by_its_own_records.Goals as goal

pub returns-clause-reply : goal.returns-clause-reply
returns-clause-reply c = reply-same

pub returns-clause-answer : goal.returns-clause-answer
returns-clause-answer c = λ issuer asked shard other_shard one other one_after other_after answer other_answer same legal turn other_turn fine other_fine.
    answer-same issuer shard other_shard one other one_after other_after answer other_answer fine other_fine asked same legal turn other_turn

pub returns-clause-others : goal.returns-clause-others
returns-clause-others c = λ issuer asked shard before after answer card apart turn.
    others-stay card shard before after issuer asked answer apart turn
