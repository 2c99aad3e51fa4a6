-- Words whose options lack a value, or are given two, are no command to serve.
use Rattle.std.proofs.Common.{rules}
use Rattle.command_line.proofs.CommandWords.{serve-from, serve-gives}
use Rattle.command_line.proofs.words.serve_words.Goals as goal

pub returns-in_err-config-clause-none : goal.returns-in_err-config-clause-none
returns-in_err-config-clause-none c =
    rw c.from_residual.ensures (λ asks.
    let given = (serve-gives c.args.words.now asks.0 asks.1 asks.2 asks.3).config_is in
    search (rules, given))

pub returns-in_err-file-clause-none : goal.returns-in_err-file-clause-none
returns-in_err-file-clause-none c =
    rw c.from_residual-in_err-file.ensures (λ asks.
    let given = (serve-gives c.args.words.now asks.0 asks.1 asks.2 asks.3).requests_is in
    search (rules, given))

pub returns-in_err-journal-clause-none : goal.returns-in_err-journal-clause-none
returns-in_err-journal-clause-none c =
    rw c.from_residual-in_err-journal.ensures (λ asks.
    let given = (serve-gives c.args.words.now asks.0 asks.1 asks.2 asks.3).journal_is in
    search (rules, given))

pub returns-in_err-callers-clause-none : goal.returns-in_err-callers-clause-none
returns-in_err-callers-clause-none c =
    rw c.from_residual-in_err-callers.ensures (λ asks.
    c.in_err-callers.ensures asks.1.callers (serve-gives c.args.words.now asks.0 asks.1 asks.2 asks.3).callers_are)

pub returns-clause-names : goal.returns-clause-names
returns-clause-names c =
    serve-from c.args.words.now _ _ _ _ c.requires (search rules) (search rules) (search rules) c.in_ok-callers.ensures
