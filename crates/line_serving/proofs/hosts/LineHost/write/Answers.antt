-- Either host answers what waits, and the answers are written; that of one caller takes no line meanwhile.
use Rattle.std.proofs.Common.{refl, subst}
use Rattle.line_blocks.specs.Serving.{TakesAndWrites}
use Rattle.line_blocks.proofs.ServingSteps.{takes-none}
use Rattle.line_serving.specs.Hosts.{HasServed}
use Rattle.line_serving.proofs.HostSteps.{of_alone, of_together}
use Rattle.line_serving.proofs.hosts.LineHost.write.Goals as goal

pub returns-in-Alone-clause-written : goal.returns-in-Alone-clause-written
returns-in-Alone-clause-written g c = λ first lines text waiting served.
    let due = c.args.block.now.text.items in
    let reader = c.args.reader.now in
    let before = g.W.Sink.held c.args.out.now in
    let after = g.W.Sink.held c.write.new.out in
    of_alone first c.in-Alone.alone c.write.new.self
    (λ Has lines text waiting. TakesAndWrites Has lines text waiting due reader reader before after c.write.result)
    (λ begun lines text waiting so_far. takes-none _ lines text waiting due reader reader before after c.write.result
    refl (c.write.ensures.written begun lines text waiting so_far))
    lines text waiting (subst (HasServed first lines text waiting) c.in-Alone.is served)

pub returns-in-Together-clause-written : goal.returns-in-Together-clause-written
returns-in-Together-clause-written g c = λ first lines text waiting served.
    of_together first c.in-Together.lanes c.write_together.new.host
    (λ Has lines text waiting. TakesAndWrites Has lines text waiting c.args.block.now.text.items c.args.reader.now
    c.write_together.new.reader (g.W.Sink.held c.args.out.now) (g.W.Sink.held c.write_together.new.out)
    c.write_together.result)
    (λ begun lines text waiting so_far. c.write_together.ensures.written begun lines text waiting so_far)
    lines text waiting (subst (HasServed first lines text waiting) c.in-Together.is served)
