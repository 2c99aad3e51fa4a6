-- What the host of several callers leaves.
use Rattle.line_serving.proofs.TogetherSteps.{closes-together, closes-loaded_together}
use Rattle.line_serving.proofs.together.close_together.Goals as goal

pub returns-clause-answered : goal.returns-clause-answered
returns-clause-answered g c = λ issuer prefix logs olds first lines text ready sound within so_far.
    closes-together g.met.S.Store.told_bytes issuer prefix logs olds first c.args.host c.close.result.items ready sound lines
    text within so_far
    c.close.ensures

pub returns-clause-loaded : goal.returns-clause-loaded
returns-clause-loaded g c = λ issuer prefix logs olds ready sound.
    closes-loaded_together g.met.S.Store.told_bytes issuer prefix logs olds c.args.host c.close.result.items ready sound
    c.close.ensures
