-- When the loop ends, no more commands fit: so the commands so far are the longest prefix that fits.
use Rattle.std.proofs.Common.{◌≡◌, ℕ, ◌+◌, ◌-◌, ◌<◌, ◌≤◌, List, [], ◌∷◌, length, drop, Some, ap, ◌∙◌, arith, length-drop}
use Rattle.std.proofs.lemmas.List.{drop_more, drop_all}
use Rattle.std.proofs.lemmas.Option.{slice_get_within, get_or_from_slice_get}
use Rattle.std.proofs.lemmas.Bool.{cond-true, cond-false, lt-leb, le-leb}
use Rattle.std.specs.List.{slice_get}
use Rattle.issuer_base.specs.declared.command.Command.{Command}
use Rattle.issuer_base.specs.ScriptTemplate.{sealed_size}
use Rattle.script_queue.proofs.FittingFronts.{whole_room, fit, FitsSoFar, fit-front, fit-within}
use Rattle.script_queue.proofs.queue.Queue.fitting_after.Goals as goal

-- the command at an index is the first of those from there on
next_at : (commands : List Command) (i : ℕ) (command : Command) → slice_get commands i ≡ Some command
    → drop i commands ≡ command ∷ drop (i + 1) commands
next_at commands i command is =
    drop_more commands i command (slice_get_within commands i command is)
    ∙ ap (λ first. first ∷ drop (i + 1) commands) (get_or_from_slice_get commands i command command is)

-- one more fits
one_more : (commands ahead rest : List Command) (command : Command) (count room size : ℕ) → FitsSoFar commands ahead count room
    → ahead ≡ command ∷ rest → size ≡ sealed_size command → size ≤ room → FitsSoFar commands rest (count + 1) (room - size)
one_more commands ahead rest command count room size so_far next size_is below =
    let taken = ap (fit room) next ∙ cond-true _ _ _ (le-leb (sealed_size command) room (omega (arith, size_is))) in
    let left : fit (room - size) rest ≡ fit (room - sealed_size command) rest = ap (λ size. fit (room - size) rest) size_is in
    record { goes_on = omega (arith, so_far.goes_on, taken, left); few = omega (arith, so_far.few, size_is) }

abbrev is_all : List Command → ℕ → Type 0
is_all commands count = count ≡ fit whole_room commands

-- none is left
at_end : (commands ahead : List Command) (count room : ℕ) → FitsSoFar commands ahead count room → ahead ≡ [] → is_all commands count
at_end commands ahead count room so_far none = omega (arith, so_far.goes_on, ap (fit room) none)

-- the next one doesn't fit
at_long : (commands ahead rest : List Command) (command : Command) (count room : ℕ)
    → FitsSoFar commands ahead count room
    → ahead ≡ command ∷ rest
    → room < sealed_size command
    → is_all commands count
at_long commands ahead rest command count room so_far next long =
    let none = ap (fit room) next ∙ cond-false _ _ _ (lt-leb (sealed_size command) room long) in
    omega (arith, so_far.goes_on, none)

-- no more than there are behind the first `skip`
within : (commands : List Command) (skip count : ℕ) → skip ≤ length commands → is_all (drop skip commands) count
    → skip + count ≤ length commands
within commands skip count past all =
    let few = fit-within whole_room (drop skip commands) in
    omega (arith, few, all, length-drop skip commands)

pub loop-index-preserved : goal.loop-index-preserved
loop-index-preserved c =
    let undone = c.args.self.now.undone in
    one_more (drop c.args.skip undone) (drop c.loop-index.index undone) (drop (c.loop-index.index + 1) undone) c.at.result.now _ _ _
    c.loop-index.invariant (next_at undone c.loop-index.index c.at.result.now c.at.ensures) (omega (arith, c.len-size.ensures.value)) (omega arith)

pub returns-after-loop-index-clause-within : goal.returns-after-loop-index-clause-within
returns-after-loop-index-clause-within c =
    let undone = c.args.self.now.undone in
    within undone c.args.skip _ (omega arith)
    (at_end _ _ _ _ c.loop-index.invariant (drop_all c.loop-index.index undone (omega (arith, c.undone-index-end.ensures.count))))

pub returns-after-loop-index-clause-front : goal.returns-after-loop-index-clause-front
returns-after-loop-index-clause-front c =
    fit-front _ _ (at_end _ _ _ _ c.loop-index.invariant
    (drop_all c.loop-index.index c.args.self.now.undone (omega (arith, c.undone-index-end.ensures.count))))

pub returns-then-size-room-clause-within : goal.returns-then-size-room-clause-within
returns-then-size-room-clause-within c =
    let undone = c.args.self.now.undone in
    within undone c.args.skip _ (omega arith)
    (at_long _ _ _ c.at.result.now _ _ c.loop-index.invariant (next_at undone c.loop-index.index c.at.result.now c.at.ensures)
    (omega (arith, c.len-size.ensures.value)))

pub returns-then-size-room-clause-front : goal.returns-then-size-room-clause-front
returns-then-size-room-clause-front c =
    fit-front _ _ (at_long _ _ _ c.at.result.now _ _ c.loop-index.invariant
    (next_at c.args.self.now.undone c.loop-index.index c.at.result.now c.at.ensures) (omega (arith, c.len-size.ensures.value)))
