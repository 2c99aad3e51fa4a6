-- The queue of a card is that of its row.
use Rattle.std.proofs.Common.{◌∙◌, subst, sym}
use Rattle.script_queue.specs.CommandQueue.{TakesOneMore}
use Rattle.shard_book.proofs.RowsAfter.{queue-there}
use Rattle.shard_book.proofs.rows.Rows.takes_command.Goals as goal

pub returns : goal.returns
returns c issuer card history stands known =
    let there = c.queue.ensures
    ∙ queue-there issuer c.args.self.now history stands c.args.card c.requires c.row.result.now c.row.ensures card known.card_is in
    (λ yes. subst TakesOneMore there (c.takes_one_more.ensures.0 yes), λ takes. c.takes_one_more.ensures.1 (subst TakesOneMore (sym there) takes))
