-- Words that aren't taken are no command.
use Rattle.command_line.proofs.CommandWords.{no-words}
use Rattle.command_line.proofs.words.read_words.Goals as goal

pub returns-in_err-command_in-clause-other : goal.returns-in_err-command_in-clause-other
returns-in_err-command_in-clause-other c =
    rw c.from_residual.ensures (no-words c.args.words.now c.in_err-command_in.ensures)
