-- The lines that wait are answered, and then their answers are written.
use Rattle.std.proofs.Common.{[], ◌++◌, arith}
use Rattle.std.proofs.lemmas.List.{nil_from_length}
use Rattle.line_serving.proofs.Durable.{owes-durable}
use Rattle.line_serving.proofs.TogetherSteps.{all-taken, writes-last}
use Rattle.line_serving.proofs.together.write_last_together.Goals as goal

pub returns-clause-written : goal.returns-clause-written
returns-clause-written g c = λ first lines text waiting so_far.
    let none = nil_from_length _ (omega (arith, c.args.block.now.fits, c.requires.no_lines)) in
    let answered = c.answer.ensures.served lines so_far.answers waiting
    (all-taken first c.args.host.now lines text waiting so_far c.requires.none_due) in
    writes-last first c.args.host.now c.answer.new.self c.write_due.new.host _ _ _ _ lines text waiting so_far none
    c.answer.ensures.host c.write_due.ensures.host answered.0
    (c.write_due.ensures.served (lines ++ waiting) (so_far.answers ++ answered.0) answered.0 [] answered.1)

pub write_due-requires-clause-durable : goal.write_due-requires-clause-durable
write_due-requires-clause-durable g c =
    let before = c.requires in
    let answered = c.answer.ensures.served before.answered before.answers before.waiting before.served in
    owes-durable c.answer.new.self (before.answered ++ before.waiting) (before.answers ++ answered.0) answered.0 [] answered.1
