-- What the host of one caller leaves.
use Rattle.line_serving.proofs.AloneSteps.{leaves-alone, leaves-loaded_alone}
use Rattle.line_serving.proofs.alone.AloneHost.close.Goals as goal

pub returns-clause-answered : goal.returns-clause-answered
returns-clause-answered g c = λ issuer prefix logs olds first lines text ready sound so_far.
    leaves-alone g.met.S.Store.told_bytes issuer prefix logs olds first ready sound
    c.args.self lines text so_far c.close.result.items c.close.ensures.stores

pub returns-clause-loaded : goal.returns-clause-loaded
returns-clause-loaded g c = λ issuer prefix logs olds ready sound.
    leaves-loaded_alone g.met.S.Store.told_bytes issuer prefix logs olds c.args.self.host
    ready sound c.close.result.items c.close.ensures.stores
