-- The line of a status is its text.
use Rattle.std.proofs.Common.{arith}
use Rattle.journal_rec.proofs.Joined.{text_of-Status}
use Rattle.journal_rec.proofs.write.status_line.Goals as goal

pub returns-clause-text : goal.returns-clause-text
returns-clause-text c =
    rw (c.push-3.ensures.items, c.push-2.ensures.items, c.push.ensures.items, c.card_line-line.ensures.text)
    (text_of-Status c.args.pan.now c.args.psn c.args.status (omega arith))
