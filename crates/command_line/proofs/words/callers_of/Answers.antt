-- How many callers the words give, by what they give the option.
use Rattle.std.proofs.Common.{rules, sym, ap, ◌∙◌}
use Rattle.std.specs.Option.{option_map}
use Rattle.command_line.proofs.CommandWords.{gives-one, gives-group, one-first}
use Rattle.command_line.proofs.words.callers_of.Goals as goal

pub returns-in-None : goal.returns-in-None
returns-in-None c =
    gives-one c.args.words.now (sym c.given_for-given.ensures.first ∙ ap (option_map (λ value. value.now)) c.in-None.is)

pub returns-in-Some : goal.returns-in-Some
returns-in-Some c =
    gives-group c.args.words.now c.in-Some.word.now c.group_of.result
    (one-first _ c.in-Some.word.now c.given_for-given.result.times
    (sym (ap (option_map (λ value. value.now)) c.in-Some.is) ∙ c.given_for-given.ensures.first)
    c.given_for-given.ensures.times (search rules))
    c.group_of.ensures
