-- A command is queued, and a status is set.
use Rattle.std.proofs.Common.{sym, subst}
use Rattle.line_checks.specs.AtHand.{order_asked, record_of}
use Rattle.line_checks.specs.declared.checked.CheckedOrder.{CheckedOrder}
use Rattle.shard_book.specs.Answering.{is_store_fault, AnswersOrder}
use Rattle.shard_book.specs.Calls.{AnswersBy}
use Rattle.shard_book.specs.Room.{most_of, UsesRoom}
use Rattle.shard_book.proofs.shard.Shard.order.Goals as goal

pub returns-in-Command-clause-answer : goal.returns-in-Command-clause-answer
returns-in-Command-clause-answer g c =
    subst (λ (order : CheckedOrder). AnswersBy c.args.issuer.now c.args.self.now
    (λ shard history after. AnswersOrder shard history (order_asked order) c.queue.result after) c.queue.new.self)
    (sym c.in-Command.is) c.queue.ensures.answer

pub returns-in-Command-clause-room : goal.returns-in-Command-clause-room
returns-in-Command-clause-room g c =
    subst (λ (order : CheckedOrder). UsesRoom (most_of (record_of order)) (is_store_fault c.queue.result) c.args.self.now c.queue.new.self)
    (sym c.in-Command.is) c.queue.ensures.room

pub returns-in-Status-clause-answer : goal.returns-in-Status-clause-answer
returns-in-Status-clause-answer g c =
    subst (λ (order : CheckedOrder). AnswersBy c.args.issuer.now c.args.self.now
    (λ shard history after. AnswersOrder shard history (order_asked order) c.set_status.result after) c.set_status.new.self)
    (sym c.in-Status.is) c.set_status.ensures.answer

pub returns-in-Status-clause-room : goal.returns-in-Status-clause-room
returns-in-Status-clause-room g c =
    subst (λ (order : CheckedOrder). UsesRoom (most_of (record_of order)) (is_store_fault c.set_status.result) c.args.self.now c.set_status.new.self)
    (sym c.in-Status.is) c.set_status.ensures.room
