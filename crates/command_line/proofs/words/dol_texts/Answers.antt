-- Words whose options lack a value, are given two, or spell no bytes within the limits, are no command to fill a DOL.
use Rattle.std.proofs.Common.{◌≡◌, rules}
use Rattle.command_line.proofs.CommandWords.{fill-from, fill-gives, one-word}
use Rattle.command_line.proofs.words.dol_texts.Goals as goal

pub returns-in_err-value_of-clause-none : goal.returns-in_err-value_of-clause-none
returns-in_err-value_of-clause-none c =
    rw c.from_residual.ensures (λ asks.
    let given = (fill-gives c.args.words.now asks.0 asks.1 asks.2).dol_is in
    search (rules, given))

pub returns-in_err-dol-clause-none : goal.returns-in_err-dol-clause-none
returns-in_err-dol-clause-none c =
    rw c.from_residual-in_err-dol.ensures (λ asks.
    let given = (fill-gives c.args.words.now asks.0 asks.1 asks.2).dol_is in
    let same : c.in_ok-value_of.field-0.now ≡ asks.2.dol_word = one-word _ _ _ (search rules) given in
    c.in_err-dol.ensures asks.0 (rw same asks.2.dol_is))

pub returns-in_err-value_of-2-clause-none : goal.returns-in_err-value_of-2-clause-none
returns-in_err-value_of-2-clause-none c =
    rw c.from_residual-in_err-value_of-2.ensures (λ asks.
    let given = (fill-gives c.args.words.now asks.0 asks.1 asks.2).data_is in
    search (rules, given))

pub returns-in_err-data-clause-none : goal.returns-in_err-data-clause-none
returns-in_err-data-clause-none c =
    rw c.from_residual-in_err-data.ensures (λ asks.
    let given = (fill-gives c.args.words.now asks.0 asks.1 asks.2).data_is in
    let same : c.in_ok-value_of-2.field-0.now ≡ asks.2.data_word = one-word _ _ _ (search rules) given in
    c.in_err-data.ensures asks.1 (rw same asks.2.data_is))

pub returns-clause-texts : goal.returns-clause-texts
returns-clause-texts c =
    fill-from c.args.words.now c.in_ok-value_of.field-0.now c.in_ok-value_of-2.field-0.now _ _ c.requires (search rules)
    (search rules) c.in_ok-dol.ensures c.in_ok-data.ensures
