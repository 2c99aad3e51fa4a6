-- The first turn is answered.
use Rattle.bridge_serve.proofs.server.Server.step.Goals as goal

pub returns-in-Some-clause-goes_on : goal.returns-in-Some-clause-goes_on
returns-in-Some-clause-goes_on g c start before said all serves first =
    c.answer.ensures.goes_on start before said all (g.S.Source.left c.args.source.now) serves first
