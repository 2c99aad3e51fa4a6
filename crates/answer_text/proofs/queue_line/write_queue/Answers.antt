-- The line that queues a command is one line.
use Rattle.std.proofs.Common.{◌≡◌, arith}
use Rattle.std.proofs.lemmas.Grind.{common_steps}
use Rattle.answer_text.specs.QueueText.{queue_text}
use Rattle.answer_text.proofs.Lines.{queue_text-IsLine}
use Rattle.answer_text.proofs.queue_line.write_queue.Goals as goal

pub returns-clause-line : goal.returns-clause-line
unfolding queue_text
returns-clause-line c =
    let text : c.push.new.self.items ≡ queue_text c.args.pan.now c.args.psn c.args.command.now = grind (arith, common_steps) in
    rw text (queue_text-IsLine c.args.pan.now c.args.psn c.args.command.now)
