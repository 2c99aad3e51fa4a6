-- It begins, or no memory is left.
use Rattle.bridge_serve.specs.Reading.{ahead_of}
use Rattle.bridge_serve.proofs.Serving.{serves-new, ends-without-memory}
use Rattle.bridge_serve.proofs.server.serve_to.Goals as goal

pub returns-in-Ok-clause-ends : goal.returns-in-Ok-clause-ends
returns-in-Ok-clause-ends g c start before first =
    let all = g.S.Source.left c.args.source.now in
    let server = c.in-Ok.server in
    c.run.ensures.ends start before before all (serves-new before all (ahead_of server.window) server.desk c.in-Ok.ensures.window c.in-Ok.ensures.desk) first

pub returns-in-Err-clause-ends : goal.returns-in-Err-clause-ends
returns-in-Err-clause-ends g c start before first =
    (before, c.finish.ensures.said start before first, ends-without-memory before _ c.finish.result c.finish.ensures.ended)
