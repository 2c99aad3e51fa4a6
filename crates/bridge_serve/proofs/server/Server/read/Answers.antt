-- The input is at its end.
use Rattle.bridge_serve.specs.Reading.{ahead_of}
use Rattle.bridge_serve.proofs.Serving.{ends-at-end}
use Rattle.bridge_serve.proofs.server.Server.read.Goals as goal

pub returns-in-Ok-eq0-clause-goes_on : goal.returns-in-Ok-eq0-clause-goes_on
returns-in-Ok-eq0-clause-goes_on g c start before said all serves first =
    let now = c.args.self.now in (
      said,
      c.flush.ensures.said start said first,
      ends-at-end before all (g.S.Source.left c.args.source.now) (g.S.Source.left c.fill.new.source) (ahead_of now.window) (ahead_of c.fill.new.self) now.desk
          said c.in-Ok-eq0.field-0 serves c.in-Ok-eq0.ensures.bytes c.in-Ok-eq0.field-0-test c.requires,
    )
