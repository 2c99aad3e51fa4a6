-- A line is answered at once.
use Rattle.line_serving.proofs.AloneSteps.{takes-alone}
use Rattle.line_serving.proofs.DurableAlone.{recorded-more}
use Rattle.line_serving.proofs.alone.AloneHost.answer_at_once.Goals as goal

pub returns-clause-taken : goal.returns-clause-taken
returns-clause-taken g c = λ first lines text waiting so_far.
    takes-alone first c.args.self.now _ _ _ _ c.authorise-answer.result c.requires.none c.requires.none c.add.ensures.text
    c.authorise-answer.ensures.issuer c.authorise-answer.ensures.turn
    c.authorise-answer.ensures.leaves lines text waiting so_far

pub returns-clause-recorded : goal.returns-clause-recorded
returns-clause-recorded g c =
    recorded-more c.args.self.now.host c.authorise-answer.new.self c.args.line.now c.authorise-answer.result c.args.block.now.text.items
    c.add.new.self.text.items c.add.ensures.text c.authorise-answer.ensures.turn c.requires.recorded
