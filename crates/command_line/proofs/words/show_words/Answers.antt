-- Words whose options lack a value, or are given two, are no command to show.
use Rattle.std.proofs.Common.{rules}
use Rattle.command_line.proofs.CommandWords.{show-from, show-gives}
use Rattle.command_line.proofs.words.show_words.Goals as goal

pub returns-in_err-config-clause-none : goal.returns-in_err-config-clause-none
returns-in_err-config-clause-none c =
    rw c.from_residual.ensures (λ asks.
    let given = (show-gives c.args.words.now asks.0 asks.1 asks.2).config_is in
    search (rules, given))

pub returns-in_err-journal-clause-none : goal.returns-in_err-journal-clause-none
returns-in_err-journal-clause-none c =
    rw c.from_residual-in_err-journal.ensures (λ asks.
    let given = (show-gives c.args.words.now asks.0 asks.1 asks.2).journal_is in
    search (rules, given))

pub returns-clause-names : goal.returns-clause-names
returns-clause-names c = show-from c.args.words.now _ _ c.requires (search rules) (search rules)
