-- Words whose options lack a value, or are given two or no number within its limits, are no command to play a world.
use Rattle.std.proofs.Common.{◌≡◌, ap, ◌∙◌, rules}
use Rattle.command_line.specs.Pairs.{is_within}
use Rattle.command_line.proofs.CommandWords.{world-from, world-gives, one-number}
use Rattle.command_line.proofs.words.world_size.Goals as goal

pub returns-in_err-value_of-clause-none : goal.returns-in_err-value_of-clause-none
returns-in_err-value_of-clause-none c =
    rw c.from_residual.ensures (λ asks.
    let given = (world-gives c.args.words.now asks.0 asks.1 asks.2 asks.3).cards_are in
    search (rules, given))

pub returns-in_err-cards-clause-none : goal.returns-in_err-cards-clause-none
returns-in_err-cards-clause-none c =
    rw c.from_residual-in_err-cards.ensures (λ asks.
    let given = world-gives c.args.words.now asks.0 asks.1 asks.2 asks.3 in
    let is = given.cards_are in
    c.in_err-cards.ensures asks.0 given.cards_below (search (rules, is)))

pub returns-in_err-value_of-2-clause-none : goal.returns-in_err-value_of-2-clause-none
returns-in_err-value_of-2-clause-none c =
    rw c.from_residual-in_err-value_of-2.ensures (λ asks.
    let given = (world-gives c.args.words.now asks.0 asks.1 asks.2 asks.3).steps_are in
    search (rules, given))

pub returns-in_err-steps-clause-none : goal.returns-in_err-steps-clause-none
returns-in_err-steps-clause-none c =
    rw c.from_residual-in_err-steps.ensures (λ asks.
    let given = world-gives c.args.words.now asks.0 asks.1 asks.2 asks.3 in
    let is = given.steps_are in
    c.in_err-steps.ensures asks.1 given.steps_below (search (rules, is)))

pub returns-in_err-value_of-3-clause-none : goal.returns-in_err-value_of-3-clause-none
returns-in_err-value_of-3-clause-none c =
    rw c.from_residual-in_err-value_of-3.ensures (λ asks.
    let given = (world-gives c.args.words.now asks.0 asks.1 asks.2 asks.3).seed_is in
    search (rules, given))

pub returns-in_err-seed-clause-none : goal.returns-in_err-seed-clause-none
returns-in_err-seed-clause-none c =
    rw c.from_residual-in_err-seed.ensures (λ asks.
    let given = world-gives c.args.words.now asks.0 asks.1 asks.2 asks.3 in
    let is = given.seed_is in
    c.in_err-seed.ensures asks.2 given.seed_below (search (rules, is)))

pub returns-then-is_within-clause-size : goal.returns-then-is_within-clause-size
returns-then-is_within-clause-size c =
    world-from c.args.words.now c.in_ok-value_of.field-0.now c.in_ok-value_of-2.field-0.now
    c.in_ok-value_of-3.field-0.now (search rules) (search rules)
    (search rules) c.in_ok-cards.cards c.in_ok-steps.steps c.in_ok-seed.seed c.requires c.in_ok-cards.ensures
    c.in_ok-steps.ensures c.in_ok-seed.ensures
    (search rules) (search rules)

pub returns-else-is_within-clause-none : goal.returns-else-is_within-clause-none
returns-else-is_within-clause-none c = λ asks.
    let given = world-gives c.args.words.now asks.0 asks.1 asks.2 asks.3 in
    let cards : c.in_ok-cards.cards ≡ asks.0 =
    one-number _ c.in_ok-value_of.field-0.now c.in_ok-cards.cards asks.0 (search rules) c.in_ok-cards.ensures
    (search rules) given.cards_are
    given.cards_below in
    let steps : c.in_ok-steps.steps ≡ asks.1 =
    one-number _ c.in_ok-value_of-2.field-0.now c.in_ok-steps.steps asks.1 (search rules) c.in_ok-steps.ensures
    (search rules) given.steps_are
    given.steps_below in
    let within = ap (λ n. is_within n c.in_ok-steps.steps) cards ∙ ap (is_within asks.0) steps ∙ given.within in
    search (rules, within)
