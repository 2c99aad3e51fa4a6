-- Words whose options lack a value, or are given two, are no command to take a feed.
use Rattle.std.proofs.Common.{rules}
use Rattle.command_line.proofs.CommandWords.{standby-from, standby-gives}
use Rattle.command_line.proofs.words.standby_words.Goals as goal

pub returns-in_err-config-clause-none : goal.returns-in_err-config-clause-none
returns-in_err-config-clause-none c =
    rw c.from_residual.ensures (λ asks.
    let given = (standby-gives c.args.words.now asks.0 asks.1 asks.2 asks.3).config_is in
    search (rules, given))

pub returns-in_err-feed-clause-none : goal.returns-in_err-feed-clause-none
returns-in_err-feed-clause-none c =
    rw c.from_residual-in_err-feed.ensures (λ asks.
    let given = (standby-gives c.args.words.now asks.0 asks.1 asks.2 asks.3).feed_is in
    search (rules, given))

pub returns-in_err-journal-clause-none : goal.returns-in_err-journal-clause-none
returns-in_err-journal-clause-none c =
    rw c.from_residual-in_err-journal.ensures (λ asks.
    let given = (standby-gives c.args.words.now asks.0 asks.1 asks.2 asks.3).journal_is in
    search (rules, given))

pub returns-clause-names : goal.returns-clause-names
returns-clause-names c = standby-from c.args.words.now _ _ _ c.requires (search rules) (search rules) (search rules)
