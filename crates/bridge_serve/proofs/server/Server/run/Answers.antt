-- A step goes on, or the program ends.
use Rattle.std.proofs.Common.{false}
use Rattle.bridge_serve.proofs.Serving.{ends-too-many, counts-on}
use Rattle.bridge_serve.proofs.server.Server.run.Goals as goal

pub returns-in-Some-clause-ends : goal.returns-in-Some-clause-ends
returns-in-Some-clause-ends g c start before said all serves first =
    let now = c.loop.invariant.goes_on start before said all serves first in
    c.in-Some.ensures.goes_on start before now.0 all now.2 now.1

pub loop-preserved : goal.loop-preserved
loop-preserved g c = record {
  goes_on = λ start before said all serves first.
      let now = c.loop.invariant.goes_on start before said all serves first in
      c.in_default.ensures.goes_on start before now.0 all now.2 now.1;
  count = counts-on _ _ _ false c.loop.invariant.count c.in_default.ensures.count;
}

pub returns-clause-ends : goal.returns-clause-ends
returns-clause-ends g c start before said all serves first =
    let now = c.loop.invariant.goes_on start before said all serves first in
    (now.0, c.finish.ensures.said start now.0 now.1, ends-too-many before all _ _ _ now.0 c.finish.result now.2 c.finish.ensures.ended)
