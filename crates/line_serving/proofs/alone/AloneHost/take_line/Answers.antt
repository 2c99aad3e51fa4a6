-- A line waits, and all that wait are answered once they are as many as are checked together.
use Rattle.std.proofs.Common.{◌∷◌, [], ◌++◌}
use Rattle.line_serving.proofs.AloneSteps.{takes-settled, takes-waiting}
use Rattle.line_serving.proofs.alone.AloneHost.take_line.Goals as goal

pub returns-then-is_full-clause-taken : goal.returns-then-is_full-clause-taken
returns-then-is_full-clause-taken g c = λ first lines text waiting so_far.
    takes-settled first c.settle.new.self c.args.line.now c.args.block.now.text.items c.settle.new.block.text.items lines
    text waiting
    (c.settle.ensures.answered first lines text (waiting ++ c.args.line.now ∷ [])
    (c.add.ensures.waits first lines text waiting so_far))

pub returns-else-is_full-clause-taken : goal.returns-else-is_full-clause-taken
returns-else-is_full-clause-taken g c = λ first lines text waiting so_far.
    takes-waiting first c.add.new.self c.args.line.now c.args.block.now.text.items lines text waiting
    (c.add.ensures.waits first lines text waiting so_far)
