-- The lines of each are within bounds.
use Rattle.std.proofs.Common.{◌*◌, ◌/◌, max, ap, ◌∙◌}
use Rattle.shared_callers.proofs.Seating.{each-within}
use Rattle.shared_callers.proofs.load.lines_each.Goals as goal

pub returns : goal.returns
returns c =
    each-within c.args.callers c.max-2.result c.requires.0 c.requires.1
    (c.max-2.ensures ∙ ap (λ quarter. max (512 / c.args.callers) (128 * quarter)) c.max.ensures)
